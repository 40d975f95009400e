use Rattle.std.proofs.Common.{◌+◌, map, ap, ◌∙◌, arith}
use Rattle.snap_account.specs.Seats.{brief}
use Rattle.snap_board.proofs.Closing.{begins}
use Rattle.snap_board.proofs.Slotting.{ins_fresh, smalls_fresh, zero_words}
use Rattle.snap_board.proofs.board.Board.with_ticks.Goals as goal

pub of_words-requires : goal.of_words-requires
of_words-requires c = begins c.args.desks c.args.limit.ticks _ (zero_words c.args.desks (c.from-count.result + 1) (omega (arith, c.if-count-gt-DESK_LIMIT.false, c.from-count.ensures)) (ap (λ k. k + 1) c.from-count.ensures))

pub invariant_of-result-2 : goal.invariant_of-result-2
invariant_of-result-2 c =
    let fresh = c.fresh-slots.ensures.0 in
    let me = c.in-Ok.ensures.4 in
    record {
      bare = ap (λ m. m.1) me;
      few = (omega (arith, c.if-count-gt-DESK_LIMIT.false, c.from-count.ensures), c.fresh-slots.ensures.1);
      matches = ap (λ m. map brief m.0) me ∙ ins_fresh c.args.desks c.args.desks c.fresh-slots.result (omega arith) fresh;
      small = smalls_fresh c.args.desks c.fresh-slots.result fresh;
    }
