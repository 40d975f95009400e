use Rattle.std.proofs.Common.{◌≡◌, ◌++◌, ◌∙◌, All, append_assoc, subst, sym}
use Rattle.snap_core.specs.Calls.{calls_of}
use Rattle.snap_report.proofs.Pieces.{same_text}
use Rattle.snap_witness.specs.Concerned.{updates_concerned, views_concerned}
use Rattle.snap_witness.specs.Places.{IsViewAt}
use Rattle.snap_witness.proofs.Reported.{views_are_named}
use Rattle.snap_explain.specs.Faults.{concerned_text, fault_text, sentence_text}
use Rattle.snap_explain.proofs.faults.put_fault.Goals as goal

pub put_concerned-requires-clause-named : goal.put_concerned-requires-clause-named
put_concerned-requires-clause-named g c =
    let calls = calls_of c.args.index.now in
    subst (All (IsViewAt calls)) (sym (c.deref-2.ensures.value ∙ c.in_ok-calls.ensures.views)) (views_are_named calls c.args.fault.now c.requires.named)

pub returns : goal.returns
unfolding fault_text
returns g c =
    let out = c.args.out.now.items in
    let calls = calls_of c.args.index.now in
    let lines = c.args.lines in
    let f = c.args.fault.now in
    let updates = updates_concerned calls f in
    let first : c.deref.result.now ≡ updates = c.deref.ensures.value ∙ c.in_ok-calls.ensures.updates in
    let views : c.deref-2.result.now ≡ views_concerned f = c.deref-2.ensures.value ∙ c.in_ok-calls.ensures.views in
    let second : c.deref-3.result.now ≡ updates = c.deref-3.ensures.value ∙ c.in_ok-calls.ensures.updates in
    same_text c.put_concerned.result c.put_concerned.new.out.items _ (out ++ fault_text lines.listed lines.records.now calls f)
    (rw (c.in_ok-put_sentence.ensures, first, views, second)
    (append_assoc out (sentence_text calls updates f) (concerned_text lines.listed lines.records.now calls (views_concerned f) updates)))
    c.put_concerned.ensures
