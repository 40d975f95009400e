use Rattle.std.proofs.Common.{◌∙◌, ap, arith, max, refl, sym, subst, rules, List, ℕ}
use Rattle.snap_core.specs.Counting.{Rose, failures_in, inner_of}
use Rattle.snap_files.specs.Files.{Told, told_text}
use Rattle.snap_files.proofs.Pages.{all_written, ends_before, ends_within, next_written, send_rose, sent_front, sent_whole, told_by, whatever_error}
use Rattle.snap_files.proofs.files.write_round.Goals as goal

pub returns-in_err-told-clause-some : goal.returns-in_err-told-clause-some
returns-in_err-told-clause-some g c =
    whatever_error _ c.from_residual.result (ends_before _ c.args.names.now c.args.pages.now c.loop-place.place _ _ _ _ _ _ _ c.requires c.loop-place-test.true c.loop-place.invariant.all)

pub returns-then-is_err-clause-some : goal.returns-then-is_err-clause-some
returns-then-is_err-clause-some g c =
    let sent = rw c.deref-in-loop-place-2.ensures.value at c.send-in-loop-place.ensures.bytes in
    ends_within _ c.args.names.now c.args.pages.now c.loop-place.place c.index-names-place.result c.index-pages-place.result _ _ _ _ _ _ _ _ c.requires c.loop-place-test.true c.index-names-place.is c.index-pages-place.is
    c.loop-place.invariant.all (sent_front _ _ _ c.send-in-loop-place.result sent)

pub loop-place-preserved : goal.loop-place-preserved
loop-place-preserved g c =
    let page = c.index-pages-place.result in
    let sent = rw c.deref-in-loop-place-2.ensures.value at c.send-in-loop-place.ensures.bytes in
    let whole = sent_whole _ _ _ c.send-in-loop-place.result sent (sym c.is_err.ensures.value ∙ c.if-is_err.false) in
    let line = c.deref-in-loop-place.ensures.value ∙ c.in_ok-told.ensures ∙ ap (λ (name : List ℕ). told_text c.args.options name page.0) c.deref.ensures.value in
    let told = subst (λ (text : List ℕ). Told (g.E.Write.contents (inner_of c.loop-place.errors)) (g.E.Write.contents (inner_of c.send.new.self)) (failures_in c.loop-place.errors) (failures_in c.send.new.self) text) line
    (told_by _ _ _ _ _ c.send.result c.send.ensures.bytes c.send.ensures.counts) in
    let code = c.max-greatest.ensures ∙ ap (λ n. max n c.loop-place.greatest) c.code_of.ensures in
    record {
      all = rw code (next_written c.args.options c.args.names.now c.args.pages.now c.loop-place.place c.index-names-place.result page _ _ _ _ _ _ _ _ _ _ c.requires c.loop-place-test.true c.index-names-place.is c.index-pages-place.is
          c.loop-place.invariant.all whole told);
      count = search rules;
    }

pub returns-then-is_err-clause-all : goal.returns-then-is_err-clause-all
returns-then-is_err-clause-all g c = tt

pub returns-clause-all : goal.returns-clause-all
returns-clause-all g c =
    all_written c.args.options c.args.names.now c.args.pages.now c.loop-place.place _ _ _ _ _ _ c.loop-place.greatest c.requires (omega (arith, c.loop-place-test.false)) c.loop-place.invariant.all

pub returns-then-is_err-clause-counts : goal.returns-then-is_err-clause-counts
returns-then-is_err-clause-counts g c =
    let rose = send_rose (failures_in c.loop-place.writer) (failures_in c.send-in-loop-place.new.self) c.send-in-loop-place.result c.send-in-loop-place.ensures.counts (sym c.is_err.ensures.value ∙ c.if-is_err.true) in
    (refl, subst (λ (n : ℕ). Rose n (failures_in c.send-in-loop-place.new.self)) c.loop-place.invariant.count rose)
