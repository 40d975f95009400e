use Rattle.std.proofs.Common.{◌≡◌, ◌∷◌, map, set, Some, None, sym, ap, ◌∙◌, subst, arith, length-set}
use Rattle.std.specs.Prelude.{slice_index_or}
use Rattle.snap_account.specs.Seats.{brief}
use Rattle.snap_account.specs.Plays.{Seated}
use Rattle.snap_board.specs.inside.Slots.{desks_in, brief_of, AreSmall}
use Rattle.snap_account.proofs.Seats.{splits}
use Rattle.snap_board.proofs.Slotting.{ins_top, ins_clear, smalls_clear, head_of, out_of, none_in, up_to}
use Rattle.snap_board.proofs.Fields.{gathered_at}
use Rattle.snap_board.proofs.board.Board.take.Goals.{In-Some-slots}
use Rattle.snap_board.proofs.board.Board.take.Goals as goal

pub split_seat-seat-requires : goal.split_seat-seat-requires
split_seat-seat-requires c = ((gathered_at c.self.inside _ c.gathered.inside _ c.self.view_is c.gathered.view_is c.requires).0, omega (arith, c.self.invariant.words), splits _ _ _ _)

-- what is kept of the desk
kept_here : (c : In-Some-slots) → slice_index_or c.gathered.inside.slots c.in-Some.desk None ≡ Some c.in-Some-slots.kept
kept_here c = ap (λ i. slice_index_or c.gathered.inside.slots i None) (sym c.from.ensures) ∙ c.in-Some-slots.is

-- its account stands first
stands_first : (c : In-Some-slots) → map brief c.gathered.inside.seat.me.0 ≡ brief_of c.in-Some.desk c.in-Some-slots.kept ∷ desks_in c.in-Some.desk c.gathered.inside.slots
stands_first c = c.gathered.invariant.matches ∙ ins_top c.gathered.inside.desks c.in-Some.desk c.gathered.inside.slots c.in-Some-slots.kept c.in-Some.ensures.0 (kept_here c) c.in-Some.ensures.2

pub invariant_of-gathered : goal.invariant_of-gathered
invariant_of-gathered c =
    let old = c.gathered.inside in let good = c.gathered.invariant in let d = c.in-Some.desk in let h = c.in-Some.ensures in
    let k = c.in-Some-slots.kept in let s = c.split_seat-seat.ensures in
    let head = head_of old.seat.me.0 (brief_of d k) (desks_in d old.slots) (stands_first (goal.at.invariant_of-gathered c).In-Some-slots) in
    let clear = ins_clear old.desks d old.slots h.0 h.2 in
    let at : set old.slots c.from-2.result None ≡ set old.slots d None = ap (λ i. set old.slots i None) c.from-2.ensures in
    record {
      bare = ap (λ m. m.1) s.2 ∙ good.bare;
      few = (good.few.0, length-set old.slots c.from-2.result None ∙ good.few.1);
      matches = ap (λ m. map brief m.0) s.2 ∙ head.3 ∙ sym clear ∙ ap (desks_in old.desks) (sym at);
      small = subst AreSmall (sym at) (smalls_clear old.slots d good.small);
    }

pub invariant_of-result : goal.invariant_of-result
invariant_of-result c =
    let old = c.gathered.inside in let good = c.gathered.invariant in let d = c.in-Some.desk in
    let k = c.in-Some-slots.kept in let s = c.split_seat-seat.ensures in
    let out = out_of old.seat.me c.split_seat-seat.result.me d k (desks_in d old.slots) (stands_first (goal.at.invariant_of-result c).In-Some-slots) s.4 in
    record { alone = out.0; stored = out.1; small = good.small d k (kept_here (goal.at.invariant_of-result c).In-Some-slots) }

pub returns-in_default-clause-empty : goal.returns-in_default-clause-empty
returns-in_default-clause-empty c = let old = c.gathered.inside in rw (← c.gathered.view_is) (none_in old.desks old.slots old.seat.me.0 c.gathered.invariant.matches c.in_default.ensures)

pub returns-clause-highest : goal.returns-clause-highest
returns-clause-highest c = rw (← c.gathered.view_is) (
    let old = c.gathered.inside in let d = c.in-Some.desk in
    let k = c.in-Some-slots.kept in
    up_to d k old.slots old.seat.me.0 (stands_first (goal.at.returns-clause-highest c).In-Some-slots))

pub returns-clause-account : goal.returns-clause-account
returns-clause-account c = rw (← c.gathered.view_is) (
    let old = c.gathered.inside in let d = c.in-Some.desk in
    let k = c.in-Some-slots.kept in let s = c.split_seat-seat.ensures in
    let out = out_of old.seat.me c.split_seat-seat.result.me d k (desks_in d old.slots) (stands_first (goal.at.returns-clause-account c).In-Some-slots) s.4 in
    ap (λ (m : Seated). m.0) (sym out.0 ∙ s.4))
