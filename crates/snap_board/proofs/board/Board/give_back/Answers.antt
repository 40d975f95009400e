use Rattle.std.proofs.Common.{◌≡◌, ◌≤◌, refl, length, map, set, Some, sym, ap, ◌∙◌, subst, arith, length-set}
use Rattle.snap_account.specs.Seats.{brief}
use Rattle.snap_account.specs.Rule.{of_desk}
use Rattle.snap_account.specs.Plays.{Seated, merge}
use Rattle.snap_board.specs.inside.Slots.{desks_in, AreSmall}
use Rattle.snap_account.proofs.Seats.{joins, looks, none_there, length-insert}
use Rattle.snap_board.proofs.Slotting.{put_in, free_slot, smalls_put}
use Rattle.snap_board.proofs.Fields.{gathered_at, desk_at}
use Rattle.snap_board.proofs.board.Board.give_back.Goals as goal

pub join_seat-requires : goal.join_seat-requires
join_seat-requires c = (
  (gathered_at c.self.inside _ c.gathered.inside _ c.self.view_is c.gathered.view_is c.requires.gathered).0,
  (desk_at c.self.inside _ c.desk.inside _ c.self.view_is c.desk.view_is c.requires.desk).0,
  ap (λ m. m.1) c.desk.invariant.alone,
  omega (arith, c.self.invariant.words),
  joins _ _ _ _ _ _,
)

pub load-requires : goal.load-requires
load-requires c = (
  c.join_seat.ensures.0 ∙ (gathered_at c.self.inside _ c.gathered.inside _ c.self.view_is c.gathered.view_is c.requires.gathered).0,
  omega (arith, c.self.invariant.words),
  looks _ _ _ _ _,
)

pub invariant_of-result : goal.invariant_of-result
invariant_of-result c =
    let old = c.gathered.inside in let good = c.gathered.invariant in let desk = c.desk.inside in let ok = c.desk.invariant in let j = c.join_seat.ensures in let l = c.load.ensures.2 in
    let here = gathered_at c.self.inside _ old _ c.self.view_is c.gathered.view_is c.requires.gathered in
    let there = desk_at c.self.inside _ desk _ c.self.view_is c.desk.view_is c.requires.desk in
    let slots = old.slots in
    let eight = good.few.1 in
    let at = c.from.ensures in
    let low = there.1 in let n = here.1 in let few = good.few.0 in
    let set_at : set slots c.from.result (Some desk.kept) ≡ set slots desk.desk (Some desk.kept) = ap (λ z. set slots z (Some desk.kept)) at in
    let me = l.0 ∙ j.2 in
    let few_of : of_desk desk.desk (merge old.seat.me.0 desk.seat.me.0) ≤ 1 = subst (λ (m : Seated). of_desk desk.desk m.0 ≤ 1) j.2 (l.1 desk.desk) in
    let free = free_slot old.desks desk.desk slots old.seat.me.0 good.matches (omega arith) (none_there desk.desk old.seat.me.0 desk.seat.me.0 _ (ap (λ (m : Seated). m.0) ok.alone) refl few_of) in
    record {
      bare = ap (λ m. m.1) me ∙ good.bare;
      few = (good.few.0, length-set slots c.from.result (Some desk.kept) ∙ eight);
      matches = ap (λ m. map brief m.0) me ∙ put_in old.desks desk.desk slots desk.kept old.seat.me.0 desk.seat.me good.matches (omega arith) (omega arith) free ok.alone ok.stored ∙ ap (desks_in old.desks) (sym set_at);
      small = subst AreSmall (sym set_at) (smalls_put slots desk.desk desk.kept good.small ok.small (omega arith));
    }

pub returns-clause-account : goal.returns-clause-account
returns-clause-account c = rw (← c.gathered.view_is, ← c.desk.view_is) (
    let old = c.gathered.inside in
    ap (λ (m : Seated). m.0) (c.load.ensures.2.0 ∙ c.join_seat.ensures.2) ∙ ap (λ (m : Seated). merge old.seat.me.0 m.0) c.desk.invariant.alone)

pub returns-clause-held : goal.returns-clause-held
returns-clause-held c = ap length (returns-clause-account c) ∙ length-insert _ c.args.gathered.accounts
