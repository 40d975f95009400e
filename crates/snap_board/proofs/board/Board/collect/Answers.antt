use Rattle.std.proofs.Common.{◌≡◌, ◌+◌, [], ◌∷◌, ◌++◌, refl, sym, ap, ◌∙◌, subst, arith, append-nil}
use Rattle.snap_account.specs.Plays.{Seated, entry_of}
use Rattle.std.proofs.lemmas.List.{length-map}
use Rattle.snap_account.specs.Seats.{answered_of, desk_of, pairs, IsUpToDate}
use Rattle.snap_board.specs.Boards.{BoardView}
use Rattle.snap_board.proofs.Fields.{desk_at, limit_at}
use Rattle.snap_board.specs.declared.record.Record.{Record}
use Rattle.snap_account.specs.Calls.{latest}
use Rattle.snap_account.specs.declared.account.Answered.{Answered}
use Rattle.snap_account.specs.declared.account.Answer.TheVariants.{Viewed}
use Rattle.snap_account.proofs.Accounts.{rec, latest-push}
use Rattle.snap_account.proofs.Moves.{begins_view_as, ends_view_as}
use Rattle.snap_account.proofs.Calling.{alone_of, viewing_after, grew, CollectDone, collect_done}
use Rattle.snap_account.proofs.Reading.{ready}
use Rattle.snap_board.proofs.Listing.{later, own_entry, no_older, records-push, lost-push, collects-push}
use Rattle.snap_board.specs.Desks.{records_at, lost_in, collects_in}
use Rattle.snap_board.proofs.board.Board.collect.Goals.{After-fetch_add-ended}
use Rattle.snap_board.proofs.board.Board.collect.Goals as goal

pub fetch_add-begun-requires : goal.fetch_add-begun-requires
fetch_add-begun-requires c =
    let ok = c.desk.invariant in
    let most = limit_at c.self.inside _ c.self.invariant c.self.view_is in
    let board = c.self.invariant in let n = ap (λ (v : BoardView). v.desks) c.self.view_is in
    let at = desk_at c.self.inside _ c.desk.inside _ c.self.view_is c.desk.view_is c.requires in
    let keyed = board.keyed ∙ n in let few = board.few.1 in
    (at.0, omega (arith, board.words), begins_view_as _ _ _ _ _ _ _ _ (omega arith) most.1 (ap (λ m. m.0) ok.alone) (omega (arith, most.0, most.1, c.if-not-has_room.ensures.room.0 refl)))

pub load_words-requires : goal.load_words-requires
load_words-requires c =
    let n = ap (λ (v : BoardView). v.desks) c.self.view_is in
    let at = desk_at c.self.inside _ c.desk.inside _ c.self.view_is c.desk.view_is c.requires in
    let me1 = viewing_after _ _ _ _ _ _ c.desk.invariant.alone c.fetch_add-begun.ensures.2.0 in
    record {
      seat = c.fetch_add-begun.ensures.0 ∙ at.0 ∙ ap (λ (v : BoardView). v.board) c.self.view_is;
      ready = ready _ _ _ _ _ me1 refl;
      room = (c.in-Ok.ensures.items, omega (arith, c.in-Ok.ensures.capacity, c.from.ensures));
    }

pub fetch_add-ended-requires : goal.fetch_add-ended-requires
fetch_add-ended-requires c =
    let ok = c.desk.invariant in
    let most = limit_at c.self.inside _ c.self.invariant c.self.view_is in
    let board = c.self.invariant in let n = ap (λ (v : BoardView). v.desks) c.self.view_is in
    let at = desk_at c.self.inside _ c.desk.inside _ c.self.view_is c.desk.view_is c.requires in
    let keyed = board.keyed ∙ n in let few = board.few.1 in
    let me1 = viewing_after _ _ _ _ _ _ ok.alone c.fetch_add-begun.ensures.2.0 in
    let ws = c.load_words.new.words.items in
    let xs = pairs ws in
    let me2 = grew _ _ _ _ _ _ xs me1 c.load_words.ensures.read in (
      c.load_words.ensures.seat ∙ c.fetch_add-begun.ensures.0 ∙ at.0,
      omega (arith, board.words),
      ends_view_as _ _ _ _ _ _ _ _ (omega arith) most.1 _ xs (ap (λ m. m.0) me2) (length-map ws entry_of ∙ c.load_words.ensures.all ∙ sym keyed) (omega (arith, most.0, most.1, c.if-not-has_room.ensures.room.0 refl)),
    )

pub view_of-view-requires : goal.view_of-view-requires
view_of-view-requires c =
    let n = ap (λ (v : BoardView). v.desks) c.self.view_is in record {
      room = (c.in-Ok-with_capacity.ensures.items, omega (arith, c.load_words.ensures.all, c.in-Ok-with_capacity.ensures.capacity, c.from-2.ensures));
      short = omega (arith, c.load_words.ensures.all, c.self.invariant.few.1);
    }

-- what the steps leave in the desk's seat
done : (c : After-fetch_add-ended) → CollectDone c.desk.inside.desk (answered_of c.desk.inside.seat.me.0) c.desk.inside.kept.ticks c.fetch_add-begun.result c.fetch_add-ended.result (pairs c.load_words.new.words.items) c.fetch_add-ended.new.seat.me
done c = collect_done _ _ _ _ _ _ _ _ _ _ c.desk.invariant.alone c.fetch_add-begun.ensures.2 c.load_words.ensures.read c.fetch_add-ended.ensures.2

-- the call that the desk's account has then
abbrev call : After-fetch_add-ended → Answered
call c = rec c.fetch_add-begun.result c.fetch_add-ended.result (Viewed (pairs c.load_words.new.words.items))

called : (c : After-fetch_add-ended) → answered_of c.fetch_add-ended.new.seat.me.0 ≡ answered_of c.desk.inside.seat.me.0 ++ call c ∷ []
called c = ap (λ (m : Seated). answered_of m.0) (done c).me

-- what the desk had before is what the view was told of
told_of : (c : After-fetch_add-ended) → IsUpToDate c.desk.inside.desk (answered_of c.desk.inside.seat.me.0) (pairs c.load_words.new.words.items)
told_of c =
    let is = viewing_after _ _ _ _ _ _ c.desk.invariant.alone c.fetch_add-begun.ensures.2.0 in
    subst (λ (m : Seated). IsUpToDate (desk_of m.0) (answered_of m.0) (pairs c.load_words.new.words.items)) is c.load_words.ensures.told

pub invariant_of-desk : goal.invariant_of-desk
invariant_of-desk c =
    let desk = c.desk.inside in let ok = c.desk.invariant in
    let most = limit_at c.self.inside _ c.self.invariant c.self.view_is in
    let at = (goal.at.invariant_of-desk c).After-fetch_add-ended in
    let rs = answered_of desk.seat.me.0 in
    let a = alone_of c.fetch_add-ended.new.seat.me desk.desk (rs ++ call at ∷ []) (desk.kept.ticks + 2) (desk.kept.ticks + 2) (done at).me refl in
    record {
      alone = a.0;
      stored = ap (λ l. latest (0, 0) l) a.1 ∙ latest-push (0, 0) rs (call at) ∙ ok.stored;
      small = (omega (arith, ok.small.0), omega (arith, most.0, most.1, c.if-not-has_room.ensures.room.0 refl));
    }

pub returns-clause-stamps : goal.returns-clause-stamps
returns-clause-stamps c = rw c.answer.ensures (done (goal.at.returns-clause-stamps c).After-fetch_add-ended).in_turn

pub returns-clause-later : goal.returns-clause-later
returns-clause-later c = rw (← c.desk.view_is) (
    later c.desk.inside.desk c.fetch_add-begun.result (answered_of c.desk.inside.seat.me.0) c.answer.result (ap (λ (r : Record). r.begun) c.answer.ensures) (done (goal.at.returns-clause-later c).After-fetch_add-ended).above)

pub returns-clause-own : goal.returns-clause-own
returns-clause-own c = rw (← c.desk.view_is, c.answer.ensures, c.view_of-view.ensures) (
    let desk = c.desk.inside in let ws = c.load_words.new.words.items in
    let n = ap (λ (v : BoardView). v.desks) c.self.view_is in
    let low = (desk_at c.self.inside _ desk _ c.self.view_is c.desk.view_is c.requires).1 in
    let size = length-map ws entry_of ∙ c.load_words.ensures.all in
    own_entry desk.desk (answered_of desk.seat.me.0) (pairs ws) (told_of (goal.at.returns-clause-own c).After-fetch_add-ended) (omega arith))

pub returns-clause-no_older : goal.returns-clause-no_older
returns-clause-no_older c = rw (← c.desk.view_is, c.answer.ensures, c.view_of-view.ensures) (
    let at = (goal.at.returns-clause-no_older c).After-fetch_add-ended in
    no_older c.desk.inside.desk (answered_of c.desk.inside.seat.me.0) (pairs c.load_words.new.words.items) (told_of at) (done at).whole)

pub returns-clause-recorded : goal.returns-clause-recorded
returns-clause-recorded c = rw (← c.desk.view_is, c.answer.ensures, c.view_of-view.ensures) (
    let at = (goal.at.returns-clause-recorded c).After-fetch_add-ended in
    ap (records_at c.desk.inside.desk) (called at) ∙ records-push c.desk.inside.desk (answered_of c.desk.inside.seat.me.0) (call at))

pub returns-clause-collects : goal.returns-clause-collects
returns-clause-collects c = rw (← c.desk.view_is) (
    let at = (goal.at.returns-clause-collects c).After-fetch_add-ended in
    let e = ap collects_in (called at) in let n = collects-push (answered_of c.desk.inside.seat.me.0) (call at) in omega arith)

pub returns-clause-lost : goal.returns-clause-lost
returns-clause-lost c = rw (← c.desk.view_is) (
    let at = (goal.at.returns-clause-lost c).After-fetch_add-ended in
    let rs = answered_of c.desk.inside.seat.me.0 in
    ap lost_in (called at) ∙ lost-push rs (call at) ∙ append-nil (lost_in rs))

pub returns-clause-call : goal.returns-clause-call
returns-clause-call c = rw (← c.desk.view_is) (
    let at = (goal.at.returns-clause-call c).After-fetch_add-ended in
    (call at, called at, refl))
