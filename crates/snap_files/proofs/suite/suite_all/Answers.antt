use Rattle.std.proofs.Common.{◌∙◌, ℕ, List, ap, length, subst, sym}
use Rattle.std.specs.Prelude.{count_by}
use Rattle.std.specs.Global.{Vec}
use Rattle.std.proofs.lemmas.Slice.Zip.{AllZip-long}
use Rattle.snap_files.specs.Files.{Answer}
use Rattle.snap_files.specs.Suites.{is_error, is_failure, suite_front}
use Rattle.snap_files.specs.inside.Files.{AreAnswered}
use Rattle.snap_files.proofs.Suites.{cut_suite, suite_around, wrote_suite}
use Rattle.snap_files.proofs.suite.suite_all.Goals as goal

-- the begin of the document of some pages
abbrev counts_of : List (Answer × Vec ℕ) → List ℕ
counts_of pages = suite_front (length pages) (count_by (λ page. is_failure page.0) pages) (count_by (λ page. is_error page.0) pages)

pub send_around-requires : goal.send_around-requires
send_around-requires g c =
    ap length c.deref-3.ensures.value ∙ AllZip-long _ c.args.files.now.names.now c.in_ok-pages.pages.items c.in_ok-pages.ensures

pub returns-clause-all : goal.returns-clause-all
returns-clause-all g c =
    let opens = g.O.Opener.opens c.args.files.now.opener.now in
    let names = c.args.files.now.names.now in
    let options = c.options_of-options.result in
    let answered = subst (λ ps. AreAnswered opens options names ps) (sym c.deref-3.ensures.value) c.in_ok-pages.ensures in
    let same = ap length c.deref-3.ensures.value ∙ AllZip-long _ names c.in_ok-pages.pages.items c.in_ok-pages.ensures in
    let counted = c.deref-2.ensures.value ∙ c.in_ok-front.ensures ∙ ap counts_of (c.deref.ensures.value ∙ sym c.deref-3.ensures.value) in
    wrote_suite opens c.args.check options names c.deref-3.result.now c.deref-2.result.now _ _ _ _ _ _ c.send_around.result c.options_of-options.ensures answered
    (suite_around names c.deref-3.result.now c.deref-2.result.now same counted) c.send_around.ensures.all

pub returns-clause-some : goal.returns-clause-some
returns-clause-some g c =
    let opens = g.O.Opener.opens c.args.files.now.opener.now in
    let names = c.args.files.now.names.now in
    let options = c.options_of-options.result in
    let answered = subst (λ ps. AreAnswered opens options names ps) (sym c.deref-3.ensures.value) c.in_ok-pages.ensures in
    let same = ap length c.deref-3.ensures.value ∙ AllZip-long _ names c.in_ok-pages.pages.items c.in_ok-pages.ensures in
    let counted = c.deref-2.ensures.value ∙ c.in_ok-front.ensures ∙ ap counts_of (c.deref.ensures.value ∙ sym c.deref-3.ensures.value) in
    cut_suite opens c.args.check options names c.deref-3.result.now c.deref-2.result.now _ _ c.send_around.result c.options_of-options.ensures answered
    (suite_around names c.deref-3.result.now c.deref-2.result.now same counted) c.send_around.ensures.some
