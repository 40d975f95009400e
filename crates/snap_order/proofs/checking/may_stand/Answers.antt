use Rattle.std.proofs.Common.{◌∙◌, sym, ap, refl}
use Rattle.std.proofs.lemmas.Bool.{false≢true}
use Rattle.snap_core.specs.Calls.{calls_of, call_numbered, is_before, nobody}
use Rattle.snap_index.specs.IndexedCalls.{as_indexed}
use Rattle.snap_index.specs.declared.call.Call.{Call}
use Rattle.snap_index.proofs.IndexedCalls.{numbered_there}
use Rattle.snap_order.proofs.Places.{found, answer_at}
use Rattle.snap_order.proofs.Standing.{update_stands, view_stands, pending_never}
use Rattle.snap_order.proofs.checking.may_stand.Goals as goal

pub returns-in-Update : goal.returns-in-Update
returns-in-Update c =
    let indexed_call = found as_indexed (calls_of c.args.index.now) c.args.number nobody c.in-Some.call.now c.requires.number c.in-Some.ensures in
    let early = ap (λ (z : Call). is_before z.ended c.args.latest) (sym indexed_call) ∙ sym c.ends_before.ensures ∙ c.if-ends_before.false in (
      λ t. update_stands (call_numbered (calls_of c.args.index.now) c.args.number) c.in-Update.field-0 c.args.last.now c.args.latest (sym (ap (λ (z : Call). z.op) indexed_call) ∙ c.in-Update.is) early,
      λ m. refl,
    )

pub returns-in-Some-answer : goal.returns-in-Some-answer
returns-in-Some-answer c =
    let indexed_call = found as_indexed (calls_of c.args.index.now) c.args.number nobody c.in-Some.call.now c.requires.number c.in-Some.ensures in
    let early = ap (λ (z : Call). is_before z.ended c.args.latest) (sym indexed_call) ∙ sym c.ends_before.ensures ∙ c.if-ends_before.false in
    let s = view_stands c.args.index.now c.requires.ordered (call_numbered (calls_of c.args.index.now) c.args.number) c.in-Some-answer.view.now c.args.last.now c.args.latest
    (numbered_there (calls_of c.args.index.now) c.args.number c.requires.number) (sym (ap (λ (z : Call). z.op) indexed_call) ∙ c.in-View.is) (c.in-Some-answer.ensures ∙ answer_at (calls_of c.args.index.now) c.args.number c.requires.number) early in
    (λ t. s.1 (c.are_shown_by.ensures.0 t), λ m. c.are_shown_by.ensures.1 (s.0 m))

pub returns-in-None : goal.returns-in-None
returns-in-None c =
    let indexed_call = found as_indexed (calls_of c.args.index.now) c.args.number nobody c.in-Some.call.now c.requires.number c.in-Some.ensures in (
      λ t. absurd (false≢true t),
      λ m. absurd (pending_never c.args.index.now c.requires.ordered (call_numbered (calls_of c.args.index.now) c.args.number) c.args.last.now c.args.latest
          (numbered_there (calls_of c.args.index.now) c.args.number c.requires.number) (sym (ap (λ (z : Call). z.op) indexed_call) ∙ c.in-View.is) (c.in-None.ensures ∙ answer_at (calls_of c.args.index.now) c.args.number c.requires.number) m),
    )
