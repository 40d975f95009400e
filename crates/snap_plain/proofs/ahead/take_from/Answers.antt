use Rattle.std.proofs.Common.{arith}
use Rattle.std.proofs.lemmas.List.Sorted.{IsPermutation-swap_remove}
use Rattle.snap_plain.proofs.ahead.take_from.Goals as goal

pub returns-then-index-place-clause-taken : goal.returns-then-index-place-clause-taken
returns-then-index-place-clause-taken c =
    rw (c.swap_remove.ensures.items, ← c.loop-at.invariant.same) (IsPermutation-swap_remove c.loop-at.ahead.items c.loop-at.at c.swap_remove.result (omega (arith, c.loop-at-test.true, c.len-at-end.ensures)) c.swap_remove.ensures.value)
