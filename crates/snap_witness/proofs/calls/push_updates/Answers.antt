use Rattle.std.proofs.Common.{ℕ, ◌++◌, take, get_or, sym, ap, ◌∙◌, append_assoc, append-nil}
use Rattle.std.specs.Option.{option_copied}
use Rattle.std.specs.declared.alloc.Global.{Global}
use Rattle.std.specs.declared.vec.Vec.{Vec}
use Rattle.snap_core.specs.Calls.{calls_of}
use Rattle.snap_theory.specs.Updates.{update_of}
use Rattle.snap_witness.specs.inside.Places.{begin_and_end, places_of}
use Rattle.snap_theory.specs.Witness.{updates_kept}
use Rattle.snap_witness.proofs.Places.{updates_more, found_places, none_places}
use Rattle.snap_witness.proofs.calls.push_updates.Goals as goal
use Rattle.snap_witness.proofs.calls.push_updates.Goals.{in-Some+in_ok-push_call, in_default}

pub loop-i-init : goal.loop-i-init
unfolding places_of
loop-i-init g c = sym (append-nil c.args.places.now.items)

pub loop-i-preserved : goal.loop-i-preserved
loop-i-preserved g c =
    let calls = calls_of c.args.index.now in
    let p = get_or c.args.updates.now c.loop-i.i (0, 0) in
    let more = updates_more calls c.args.updates.now c.loop-i.i (0, 0) c.loop-i-test.true in
    let before = places_of (updates_kept calls (take c.loop-i.i c.args.updates.now)) in
    elim c.match-update.branch [
      | in-Some+in_ok-push_call w ↦
          let found = found_places (update_of calls p.0 p.1) w.in-Some.call.now (sym c.update.ensures ∙ ap option_copied w.in-Some.is) in
          ap (λ (v : Vec ℕ Global). v.items) w.places-is ∙ w.in_ok-push_call.ensures
          ∙ ap (λ z. z ++ begin_and_end w.in-Some.call.now.begun w.in-Some.call.now.ended) c.loop-i.invariant
          ∙ append_assoc c.args.places.now.items before (begin_and_end w.in-Some.call.now.begun w.in-Some.call.now.ended)
          ∙ ap (λ z. c.args.places.now.items ++ (before ++ z)) (sym found)
          ∙ ap (λ z. c.args.places.now.items ++ z) (sym more)
      | in_default w ↦
          let none = none_places (update_of calls p.0 p.1) (sym c.update.ensures ∙ ap option_copied w.in_default.is) in
          ap (λ (v : Vec ℕ Global). v.items) w.places-is ∙ c.loop-i.invariant
          ∙ ap (λ z. c.args.places.now.items ++ z) (sym (append-nil before) ∙ ap (λ z. before ++ z) (sym none) ∙ sym more)
    ]
