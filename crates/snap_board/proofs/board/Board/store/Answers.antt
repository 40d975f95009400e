use Rattle.std.proofs.Common.{◌≡◌, ℕ, ◌+◌, ◌*◌, [], ◌∷◌, ◌++◌, None, refl, sym, ap, ◌∙◌, arith}
use Rattle.snap_account.specs.Rule.{code}
use Rattle.snap_account.specs.Plays.{Seated}
use Rattle.snap_board.specs.Boards.{BoardView}
use Rattle.snap_board.proofs.Fields.{desk_at, limit_at}
use Rattle.snap_board.specs.declared.record.Record.{Record}
use Rattle.snap_board.specs.declared.record.RecordedOp.TheVariants as Kind
use Rattle.snap_account.specs.Seats.{answered_of}
use Rattle.snap_account.specs.Calls.{latest}
use Rattle.snap_account.specs.declared.account.Answered.{Answered}
use Rattle.snap_account.specs.declared.account.Answer.TheVariants.{Stored}
use Rattle.snap_account.proofs.Accounts.{rec, latest-push}
use Rattle.snap_account.proofs.Moves.{begins_store_as, writes_at, ends_store_as}
use Rattle.snap_account.proofs.Calling.{alone_of, begun_after, written_after, StoreDone, store_done}
use Rattle.snap_board.proofs.Listing.{later, last_number, records-push, lost-push, collects-push}
use Rattle.snap_board.specs.Desks.{records_at, lost_in, collects_in}
use Rattle.std.proofs.Common.{append-nil}
use Rattle.snap_board.proofs.board.Board.store.Goals.{After-fetch_add-ended}
use Rattle.snap_board.proofs.board.Board.store.Goals as goal

pub fetch_add-begun-requires : goal.fetch_add-begun-requires
fetch_add-begun-requires c =
    let ok = c.desk.invariant in
    let most = limit_at c.self.inside _ c.self.invariant c.self.view_is in
    let board = c.self.invariant in let n = ap (λ (v : BoardView). v.desks) c.self.view_is in
    let at = desk_at c.self.inside _ c.desk.inside _ c.self.view_is c.desk.view_is c.requires in
    let keyed = board.keyed ∙ n in let few = board.few.1 in
    (at.0, omega (arith, board.words), begins_store_as _ _ _ _ _ _ _ _ (omega arith) most.1 (ap (λ m. m.0) ok.alone) (omega (arith, most.0, most.1, c.if-not-has_room.ensures.room.0 refl)))

pub store-requires : goal.store-requires
store-requires c =
    let desk = c.desk.inside in let ok = c.desk.invariant in
    let most = limit_at c.self.inside _ c.self.invariant c.self.view_is in
    let board = c.self.invariant in let n = ap (λ (v : BoardView). v.desks) c.self.view_is in
    let at = desk_at c.self.inside _ c.desk.inside _ c.self.view_is c.desk.view_is c.requires in
    let keyed = board.keyed ∙ n in let few = board.few.1 in
    let me1 = begun_after _ _ _ _ _ _ ok.alone c.fetch_add-begun.ensures.2.0 in
    let word = c.from.result * 4294967296 + c.from-2.result in
    let number = desk.kept.stores + 1 in
    let value = c.args.value in
    let words : word ≡ code (number, value) = omega (arith, c.from.ensures, c.from-2.ensures) in
    let stored = ap (λ (p : ℕ × ℕ). p.0) ok.stored in
    let low = at.1 in let wide = board.words in (
      c.fetch_add-begun.ensures.0 ∙ at.0,
      omega (arith, c.from-3.ensures),
      writes_at _ _ _ _ _ _ _ _ (omega arith) most.1 _ number value word (c.from-3.result + 1) (ap (λ m. m.0) me1) (omega arith) c.ranges.value.fits words (omega (arith, c.from-3.ensures)),
    )

pub fetch_add-ended-requires : goal.fetch_add-ended-requires
fetch_add-ended-requires c =
    let desk = c.desk.inside in let ok = c.desk.invariant in
    let most = limit_at c.self.inside _ c.self.invariant c.self.view_is in
    let board = c.self.invariant in let n = ap (λ (v : BoardView). v.desks) c.self.view_is in
    let at = desk_at c.self.inside _ c.desk.inside _ c.self.view_is c.desk.view_is c.requires in
    let keyed = board.keyed ∙ n in let few = board.few.1 in
    let me1 = begun_after _ _ _ _ _ _ ok.alone c.fetch_add-begun.ensures.2.0 in
    let word = c.from.result * 4294967296 + c.from-2.result in
    let number = desk.kept.stores + 1 in
    let value = c.args.value in
    let words : word ≡ code (number, value) = omega (arith, c.from.ensures, c.from-2.ensures) in
    let me2 = written_after _ _ _ _ _ _ number value word me1 words c.ranges.value.fits c.store.ensures.2 in (
      c.store.ensures.0 ∙ c.fetch_add-begun.ensures.0 ∙ at.0,
      omega (arith, board.words),
      ends_store_as _ _ _ _ _ _ _ _ (omega arith) most.1 _ number value (ap (λ m. m.0) me2) (omega (arith, most.0, most.1, c.if-not-has_room.ensures.room.0 refl)),
    )

-- what the three steps leave in the desk's seat
done : (c : After-fetch_add-ended) → StoreDone c.desk.inside.desk (answered_of c.desk.inside.seat.me.0) c.desk.inside.kept.ticks c.fetch_add-begun.result c.fetch_add-ended.result (c.desk.inside.kept.stores + 1) c.args.value c.fetch_add-ended.new.seat.me
done c =
    let words : c.from.result * 4294967296 + c.from-2.result ≡ code (c.desk.inside.kept.stores + 1, c.args.value) = omega (arith, c.from.ensures, c.from-2.ensures) in
    store_done _ _ _ _ _ _ _ _ _ _ _ _ c.desk.invariant.alone words c.ranges.value.fits c.fetch_add-begun.ensures.2 c.store.ensures.2 c.fetch_add-ended.ensures.2

-- the call that the desk's account has then
abbrev call : After-fetch_add-ended → Answered
call c = rec c.fetch_add-begun.result c.fetch_add-ended.result (Stored (c.desk.inside.kept.stores + 1) c.args.value)

called : (c : After-fetch_add-ended) → answered_of c.fetch_add-ended.new.seat.me.0 ≡ answered_of c.desk.inside.seat.me.0 ++ call c ∷ []
called c = ap (λ (m : Seated). answered_of m.0) (done c).me

pub invariant_of-desk : goal.invariant_of-desk
invariant_of-desk c =
    let desk = c.desk.inside in let ok = c.desk.invariant in
    let most = limit_at c.self.inside _ c.self.invariant c.self.view_is in
    let at = (goal.at.invariant_of-desk c).After-fetch_add-ended in
    let rs = answered_of desk.seat.me.0 in
    let a = alone_of c.fetch_add-ended.new.seat.me desk.desk (rs ++ call at ∷ []) (desk.kept.ticks + 2) (desk.kept.ticks + 2) (done at).me refl in
    record {
      alone = a.0;
      stored = ap (λ l. latest (0, 0) l) a.1 ∙ latest-push (0, 0) rs (call at);
      small = (omega (arith, ok.small.0), omega (arith, most.0, most.1, c.if-not-has_room.ensures.room.0 refl));
    }

pub returns-clause-stamps : goal.returns-clause-stamps
returns-clause-stamps c = rw c.answer.ensures (done (goal.at.returns-clause-stamps c).After-fetch_add-ended).in_turn

pub returns-clause-later : goal.returns-clause-later
returns-clause-later c = rw (← c.desk.view_is) (
    later c.desk.inside.desk c.fetch_add-begun.result (answered_of c.desk.inside.seat.me.0) c.answer.result (ap (λ (r : Record). r.begun) c.answer.ensures) (done (goal.at.returns-clause-later c).After-fetch_add-ended).above)

pub returns-clause-entry : goal.returns-clause-entry
returns-clause-entry c = rw (← c.desk.view_is, c.answer.ensures) (
    let desk = c.desk.inside in
    let number = last_number desk.desk None (0, 0) (answered_of desk.seat.me.0) refl ∙ ap (λ (p : ℕ × ℕ). p.0) c.desk.invariant.stored in
    ap (λ n. Kind.Stored (record { component = desk.desk; number = n + 1; value = c.args.value })) (sym number))

pub returns-clause-recorded : goal.returns-clause-recorded
returns-clause-recorded c = rw (← c.desk.view_is, c.answer.ensures) (
    let at = (goal.at.returns-clause-recorded c).After-fetch_add-ended in
    ap (records_at c.desk.inside.desk) (called at) ∙ records-push c.desk.inside.desk (answered_of c.desk.inside.seat.me.0) (call at))

pub returns-clause-collects : goal.returns-clause-collects
returns-clause-collects c = rw (← c.desk.view_is) (
    let at = (goal.at.returns-clause-collects c).After-fetch_add-ended in
    let e = ap collects_in (called at) in let n = collects-push (answered_of c.desk.inside.seat.me.0) (call at) in omega arith)

pub returns-clause-lost : goal.returns-clause-lost
returns-clause-lost c = rw (← c.desk.view_is) (
    let at = (goal.at.returns-clause-lost c).After-fetch_add-ended in
    let rs = answered_of c.desk.inside.seat.me.0 in
    ap lost_in (called at) ∙ lost-push rs (call at) ∙ append-nil (lost_in rs))

pub returns-clause-call : goal.returns-clause-call
returns-clause-call c = rw (← c.desk.view_is) (
    let at = (goal.at.returns-clause-call c).After-fetch_add-ended in
    (call at, called at, (refl, refl)))
