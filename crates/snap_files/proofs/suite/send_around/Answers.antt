use Rattle.std.proofs.Common.{◌∙◌, sym}
use Rattle.snap_files.specs.inside.Files.{paged}
use Rattle.snap_files.proofs.Pages.{sent_front, sent_whole, whatever_error}
use Rattle.snap_files.proofs.Suites.{cut_before, cut_behind, cut_within, sent_around}
use Rattle.snap_files.proofs.suite.send_around.Goals as goal

pub returns-then-is_err-clause-some : goal.returns-then-is_err-clause-some
returns-then-is_err-clause-some g c = cut_before _ _ c.args.cases.front.now (paged c.args.cases.names.now c.args.cases.pages.now) (sent_front _ _ _ c.send.result c.send.ensures.bytes)

pub returns-then-is_err-clause-all : goal.returns-then-is_err-clause-all
returns-then-is_err-clause-all g c = tt

pub returns-in_err-code-clause-some : goal.returns-in_err-code-clause-some
returns-in_err-code-clause-some g c =
    let began = sent_whole _ _ _ c.send.result c.send.ensures.bytes (sym c.is_err.ensures.value ∙ c.if-is_err.false) in
    whatever_error _ c.from_residual.result (cut_within _ _ _ c.args.cases.front.now (paged c.args.cases.names.now c.args.cases.pages.now) began c.in_err-code.ensures.some)

pub returns-then-is_err-2-clause-some : goal.returns-then-is_err-2-clause-some
returns-then-is_err-2-clause-some g c =
    let began = sent_whole _ _ _ c.send.result c.send.ensures.bytes (sym c.is_err.ensures.value ∙ c.if-is_err.false) in
    cut_behind _ _ _ _ c.args.cases.front.now (paged c.args.cases.names.now c.args.cases.pages.now) began c.in_ok-code.ensures.all.wrote (sent_front _ _ _ c.send-2.result c.send-2.ensures.bytes)

pub returns-then-is_err-2-clause-all : goal.returns-then-is_err-2-clause-all
returns-then-is_err-2-clause-all g c = tt

pub returns-clause-all : goal.returns-clause-all
returns-clause-all g c =
    let began = sent_whole _ _ _ c.send.result c.send.ensures.bytes (sym c.is_err.ensures.value ∙ c.if-is_err.false) in
    let ended = sent_whole _ _ _ c.send-2.result c.send-2.ensures.bytes (sym c.is_err-2.ensures.value ∙ c.if-is_err-2.false) in
    sent_around c.args.options c.args.cases.front.now (paged c.args.cases.names.now c.args.cases.pages.now) _ _ _ _ _ _ _ _ _ began c.in_ok-code.ensures.all ended
