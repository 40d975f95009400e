use Rattle.std.proofs.Common.{◌≡◌, true, false, take, sym, ap, ◌∙◌, append-nil}
use Rattle.snap_core.specs.declared.event.Event.TheVariants.{BeginView}
use Rattle.snap_core.specs.UsualLimits.{greatest_limit}
use Rattle.snap_core.specs.Refusals.{refusal_of}
use Rattle.snap_theory.specs.Kept.{kept_from, kept_event, is_among}
use Rattle.snap_theory.specs.Witness.{numbers_of}
use Rattle.snap_witness.proofs.Steps.{none_refused, kept_next}
use Rattle.snap_witness.proofs.keeping.keep.Goals as goal
use Rattle.snap_witness.proofs.keeping.keep.Goals.{then-is_among+in_ok-event+in_ok-append, else-is_among}

pub append-requires : goal.append-requires
append-requires c =
    let t : is_among c.args.places.now c.loop-i.i ≡ true = sym c.is_among.ensures ∙ c.if-is_among.true in
    let r = none_refused (is_among c.args.places.now) (numbers_of c.args.pairs.now) c.args.events.now c.loop-i.i c.index-events-i.result c.requires.history c.requires.short c.loop-i-test.true t in
    ap (λ n. refusal_of n c.loop-i.history.events c.in_ok-event.event) c.loop-i.invariant.limit
    ∙ ap (λ z. refusal_of greatest_limit z c.in_ok-event.event) c.loop-i.invariant.kept
    ∙ ap (refusal_of greatest_limit (kept_from (is_among c.args.places.now) (numbers_of c.args.pairs.now) 0 (take c.loop-i.i c.args.events.now))) (c.in_ok-event.ensures ∙ ap (kept_event (numbers_of c.args.pairs.now)) c.index-events-i.is)
    ∙ r

pub loop-i-preserved : goal.loop-i-preserved
loop-i-preserved c = elim c.if-is_among.branch [
  | then-is_among+in_ok-event+in_ok-append w ↦
      let t : is_among c.args.places.now c.loop-i.i ≡ true = sym c.is_among.ensures ∙ w.if-is_among.true in
      let m = kept_next (is_among c.args.places.now) (numbers_of c.args.pairs.now) c.args.events.now c.loop-i.i w.index-events-i.result true c.loop-i-test.true t in
      let e = w.in_ok-event.ensures ∙ ap (kept_event (numbers_of c.args.pairs.now)) w.index-events-i.is in
      record { kept = cc (m, e, w.in_ok-append.ensures.events, w.history-is, c.loop-i.invariant.kept); limit = cc (w.in_ok-append.ensures.limit, w.history-is, c.loop-i.invariant.limit) }
  | else-is_among w ↦
      let t : is_among c.args.places.now c.loop-i.i ≡ false = sym c.is_among.ensures ∙ w.if-is_among.false in
      let m = kept_next (is_among c.args.places.now) (numbers_of c.args.pairs.now) c.args.events.now c.loop-i.i (BeginView 0) false c.loop-i-test.true t in
      let n = append-nil (kept_from (is_among c.args.places.now) (numbers_of c.args.pairs.now) 0 (take c.loop-i.i c.args.events.now)) in
      record { kept = cc (m, n, w.history-is, c.loop-i.invariant.kept); limit = cc (w.history-is, c.loop-i.invariant.limit) }
]
