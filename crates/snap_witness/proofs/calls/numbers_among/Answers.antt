use Rattle.std.proofs.Common.{◌≡◌, ◌<◌, ◌++◌, ◌∷◌, [], length, true, false, map, take, sym, ap, ◌∙◌, append-nil, subst, ℕ}
use Rattle.std.specs.declared.alloc.Global.{Global}
use Rattle.std.specs.declared.vec.Vec.{Vec}
use Rattle.snap_core.specs.Calls.{call_numbered, calls_of}
use Rattle.snap_index.specs.IndexedCalls.{number_of}
use Rattle.snap_theory.specs.Kept.{is_among}
use Rattle.snap_witness.specs.Keeping.{calls_begun}
use Rattle.snap_witness.proofs.Numbers.{begun_more}
use Rattle.snap_witness.proofs.calls.numbers_among.Goals as goal
use Rattle.snap_witness.proofs.calls.numbers_among.Goals.{then-begins_among+in_ok-push, else-begins_among}

pub loop-number-preserved : goal.loop-number-preserved
loop-number-preserved g c =
    let es = c.args.index.now in
    let keeps = is_among c.args.places.now in
    let n = c.loop-number.number in
    let below : n < length (calls_of es) = subst (λ z. n < z) c.call_count-number-end.ensures c.loop-number-test.true in
    elim c.if-begins_among.branch [
      | then-begins_among+in_ok-push w ↦
          let kept : keeps (call_numbered (calls_of es) n).begun ≡ true = sym c.begins_among.ensures ∙ w.if-begins_among.true in
          ap (λ (v : Vec ℕ Global). v.items) w.numbers-is ∙ w.in_ok-push.ensures.items ∙ ap (λ z. z ++ n ∷ []) c.loop-number.invariant
          ∙ sym (begun_more keeps es n true below kept)
      | else-begins_among w ↦
          let left : keeps (call_numbered (calls_of es) n).begun ≡ false = sym c.begins_among.ensures ∙ w.if-begins_among.false in
          ap (λ (v : Vec ℕ Global). v.items) w.numbers-is ∙ c.loop-number.invariant ∙ sym (append-nil (map number_of (calls_begun keeps (take n (calls_of es)))))
          ∙ sym (begun_more keeps es n false below left)
    ]
