use Rattle.std.proofs.Common.{◌≡◌, Some, None, Option, is_some, true, true≢false, sym, refl, ap, ◌∙◌, arith}
use Rattle.std.specs.Prelude.{slice_index_or}
use Rattle.snap_board.specs.declared.desk_state.DeskState.{DeskState}
use Rattle.snap_board.proofs.slots.highest.Goals as goal

kept_of : (o : Option DeskState) → is_some o ≡ true → (k : DeskState) × (o ≡ Some k)
kept_of None e = absurd (true≢false (sym e))
kept_of (Some k) e = (k, refl)

pub returns-then-is_some : goal.returns-then-is_some
returns-then-is_some c =
    let at = c.from.ensures in
    let here = kept_of (slice_index_or c.args.slots.now c.from.result None) (sym c.if-is_some.ensures) in (
      omega (arith, c.down-test.true, c.down.invariant.within),
      (here.0, ap (λ i. slice_index_or c.args.slots.now i None) (sym at) ∙ here.1),
      λ k le lt. c.down.invariant.above k (omega (arith, c.down-test.true)) lt,
    )
