use Rattle.std.proofs.Common.{◌≡◌, ℕ, ◌+◌, List, [], ◌∷◌, ◌++◌, length, refl, sym, ap, ◌∙◌, subst, arith, append-nil}
use Rattle.std.proofs.lemmas.List.{length-map}
use Rattle.snap_account.specs.declared.account.Answered.{Answered}
use Rattle.snap_account.specs.declared.account.Answer.TheVariants.{Scanned, Interfered}
use Rattle.snap_account.specs.declared.account.Doing.TheVariants.{Scanning}
use Rattle.snap_board.specs.Boards.{BoardView}
use Rattle.snap_board.proofs.Fields.{desk_at, limit_at}
use Rattle.snap_board.specs.declared.record.Record.{Record}
use Rattle.snap_account.specs.Calls.{latest}
use Rattle.snap_board.specs.Desks.{records_at, lost_in, collects_in}
use Rattle.snap_account.specs.Seats.{idle, answered_of, pairs, desk_of, doing_of, IsUpToDate}
use Rattle.snap_account.specs.Plays.{Seated, entry_of}
use Rattle.snap_account.specs.Tries.{IsRead, IsTrying, middle_in, middles_made}
use Rattle.snap_account.proofs.Accounts.{rec_with, latest-push}
use Rattle.snap_account.proofs.Moves.{begins_view_as, ends_scan_as, gives_up_as}
use Rattle.snap_account.proofs.Calling.{at_desk, alone_of, viewing_after}
use Rattle.snap_account.proofs.Reading.{ready}
use Rattle.snap_board.proofs.Listing.{later, own_entry, no_older, records-push, lost-push, collects-push}
use Rattle.snap_account.proofs.Scanning.{made_same, agreed_scan, trying_scan, one_read, get_ready, after_tries, ScanDone, scan_done, scan_lost}
use Rattle.snap_board.proofs.board.Board.scan.Goals.{In-Some, In_default-try_until, After-fetch_add, After-fetch_add-ended}
use Rattle.snap_board.proofs.board.Board.scan.Goals as goal

pub fetch_add-begun-requires : goal.fetch_add-begun-requires
fetch_add-begun-requires c =
    let ok = c.desk.invariant in
    let most = limit_at c.self.inside _ c.self.invariant c.self.view_is in
    let board = c.self.invariant in let n = ap (λ (v : BoardView). v.desks) c.self.view_is in
    let at = desk_at c.self.inside _ c.desk.inside _ c.self.view_is c.desk.view_is c.requires.desk in
    let keyed = board.keyed ∙ n in let few = board.few.1 in
    (at.0, omega (arith, board.words), begins_view_as _ _ _ _ _ _ _ _ (omega arith) most.1 (ap (λ m. m.0) ok.alone) (omega (arith, most.0, most.1, c.if-not-has_room.ensures.room.0 refl)))

pub load_words-requires : goal.load_words-requires
load_words-requires c =
    let n = ap (λ (v : BoardView). v.desks) c.self.view_is in
    let at = desk_at c.self.inside _ c.desk.inside _ c.self.view_is c.desk.view_is c.requires.desk in
    let me1 = viewing_after _ _ _ _ _ _ c.desk.invariant.alone c.fetch_add-begun.ensures.2.0 in
    record {
      seat = c.fetch_add-begun.ensures.0 ∙ at.0 ∙ ap (λ (v : BoardView). v.board) c.self.view_is;
      ready = ready _ _ _ _ _ me1 refl;
      room = (c.in-Ok.ensures.items, omega (arith, c.in-Ok.ensures.capacity, c.from.ensures));
    }

pub try_until-requires-clause-read : goal.try_until-requires-clause-read
try_until-requires-clause-read c =
    let ok = c.desk.invariant in
    let ws = c.load_words.new.words.items in
    let me1 = viewing_after _ _ _ _ _ _ ok.alone c.fetch_add-begun.ensures.2.0 in
    let r = get_ready _ _ _ _ _ _ _ _ ok.alone c.fetch_add-begun.ensures.2.0 c.load_words.ensures.read in (
      length-map ws entry_of ∙ c.load_words.ensures.all,
      subst (λ (m : Seated). IsUpToDate (desk_of m.0) (answered_of m.0) (pairs ws)) (sym r.me) (subst (λ (m : Seated). IsUpToDate (desk_of m.0) (answered_of m.0) (pairs ws)) me1 c.load_words.ensures.told),
    )

-- what the last collect of a scan without a record read, which is not what the collect before it did
all_failed : (c : In_default-try_until) → IsTrying c.args.self.now.desks c.desk.inside.desk (answered_of c.desk.inside.seat.me.0) (pairs c.try_until.new.before.items) (doing_of c.try_until.new.seat.me.0)
    × IsRead c.args.self.now.desks c.desk.inside.desk (answered_of c.desk.inside.seat.me.0) (pairs c.try_until.new.before.items)
all_failed c =
    let n = c.args.self.now.desks in let ys = pairs c.try_until.new.before.items in
    let r = get_ready _ _ _ _ _ _ _ _ c.desk.invariant.alone c.fetch_add-begun.ensures.2.0 c.load_words.ensures.read in
    let e = c.in_default-try_until.ensures in (
      subst (λ (m : Seated). IsTrying n (desk_of m.0) (answered_of m.0) ys (doing_of c.try_until.new.seat.me.0)) r.me e.ends,
      subst (λ (m : Seated). IsRead n (desk_of m.0) (answered_of m.0) ys) r.me e.read,
    )

pub fetch_add-requires : goal.fetch_add-requires
fetch_add-requires c =
    let desk = c.desk.inside in let ok = c.desk.invariant in
    let most = limit_at c.self.inside _ c.self.invariant c.self.view_is in
    let board = c.self.invariant in let n = ap (λ (v : BoardView). v.desks) c.self.view_is in
    let at = desk_at c.self.inside _ c.desk.inside _ c.self.view_is c.desk.view_is c.requires.desk in
    let rs = answered_of desk.seat.me.0 in
    let keyed = board.keyed ∙ n in let few = board.few.1 in
    let ys = pairs c.try_until.new.before.items in
    let e = c.in_default-try_until.ensures in
    let r = get_ready _ _ _ _ _ _ _ _ ok.alone c.fetch_add-begun.ensures.2.0 c.load_words.ensures.read in
    let failed = all_failed (goal.at.fetch_add-requires c).In_default-try_until in
    let pos = c.requires.tries in let made = e.made in
    let s = trying_scan c.args.self.now.desks desk.desk rs ys (doing_of c.try_until.new.seat.me.0) failed.0 (omega (arith, made_same c.try_until.new.seat.me.0)) in
    let a = after_tries _ _ _ _ _ _ c.args.tries _ (Scanning s.0) r e.seat.1 e.account (omega (arith, e.ticks, e.made)) s.1 in (
      e.seat.0 ∙ c.load_words.ensures.seat ∙ c.fetch_add-begun.ensures.0 ∙ at.0,
      omega (arith, board.words),
      gives_up_as _ _ _ _ _ _ _ _ (omega arith) most.1 s.0 (ap (λ m. m.0) a.0) (s.4 ∙ sym keyed) (ap length s.2 ∙ failed.1.0 ∙ sym keyed) (λ same. s.3 (same ∙ s.2)) (omega (arith, most.0, most.1, c.if-not-has_room.ensures.room.0 refl)),
    )

-- what a scan without a record leaves
gone : (c : After-fetch_add) → (ms : List ℕ) × (length ms ≡ c.args.tries) × (fs : List (ℕ × ℕ)) × (c.fetch_add.new.seat.me ≡ at_desk (idle c.desk.inside.desk
    (answered_of c.desk.inside.seat.me.0 ++ rec_with c.fetch_add-begun.result ms c.fetch_add.result (Interfered c.args.tries fs (pairs c.try_until.new.before.items)) ∷ []) (c.desk.inside.kept.ticks + c.args.tries + 2)))
gone c =
    let e = c.in_default-try_until.ensures in
    let r = get_ready _ _ _ _ _ _ _ _ c.desk.invariant.alone c.fetch_add-begun.ensures.2.0 c.load_words.ensures.read in
    let try = subst (λ (m : Seated). IsTrying c.args.self.now.desks (desk_of m.0) (answered_of m.0) (pairs c.try_until.new.before.items) (doing_of c.try_until.new.seat.me.0)) r.me e.ends in
    scan_lost _ _ _ c.args.self.now.desks _ _ _ _ _ c.args.tries _ _ r e.seat.1 e.account (omega (arith, e.ticks, e.made)) (sym (made_same c.try_until.new.seat.me.0) ∙ e.made) c.requires.tries try c.fetch_add.ensures.2.0

-- the call that the desk's account has then
abbrev lost_call : After-fetch_add → Answered
lost_call c = rec_with c.fetch_add-begun.result (gone c).0 c.fetch_add.result (Interfered c.args.tries (gone c).2 (pairs c.try_until.new.before.items))

lost_called : (c : After-fetch_add) → answered_of c.fetch_add.new.seat.me.0 ≡ answered_of c.desk.inside.seat.me.0 ++ lost_call c ∷ []
lost_called c = ap (λ (m : Seated). answered_of m.0) (gone c).3

pub invariant_of-desk : goal.invariant_of-desk
invariant_of-desk c =
    let desk = c.desk.inside in let ok = c.desk.invariant in
    let most = limit_at c.self.inside _ c.self.invariant c.self.view_is in
    let at = (goal.at.invariant_of-desk c).After-fetch_add in
    let rs = answered_of desk.seat.me.0 in
    let a = alone_of c.fetch_add.new.seat.me desk.desk (rs ++ lost_call at ∷ []) (desk.kept.ticks + c.args.tries + 2) (desk.kept.ticks + (c.args.tries + 2)) (gone at).3 (omega arith) in
    record {
      alone = a.0;
      stored = ap (λ l. latest (0, 0) l) a.1 ∙ latest-push (0, 0) rs (lost_call at) ∙ ok.stored;
      small = (omega (arith, ok.small.0), omega (arith, most.0, most.1, c.if-not-has_room.ensures.room.0 refl));
    }

pub returns-in_default-try_until-clause-left : goal.returns-in_default-try_until-clause-left
returns-in_default-try_until-clause-left c = rw (← c.desk.view_is) (
    let d = c.desk.inside.desk in let rs = answered_of c.desk.inside.seat.me.0 in
    let at = (goal.at.returns-in_default-try_until-clause-left c).After-fetch_add in (
      ap (records_at d) (lost_called at) ∙ records-push d rs (lost_call at) ∙ append-nil (records_at d rs),
      omega arith,
      ap lost_in (lost_called at) ∙ lost-push rs (lost_call at),
      (lost_call at, lost_called at, (gone at).1),
    ))

pub returns-in_default-try_until-clause-collects : goal.returns-in_default-try_until-clause-collects
returns-in_default-try_until-clause-collects c = rw (← c.desk.view_is) (
    let at = (goal.at.returns-in_default-try_until-clause-collects c).After-fetch_add in
    let e = ap collects_in (lost_called at) in let n = collects-push (answered_of c.desk.inside.seat.me.0) (lost_call at) in omega arith)

pub returns-in_default-try_until-clause-alone : goal.returns-in_default-try_until-clause-alone
returns-in_default-try_until-clause-alone c one =
    let d = c.desk.inside.desk in let rs = answered_of c.desk.inside.seat.me.0 in
    let n = ap (λ (v : BoardView). v.desks) c.self.view_is in
    let low = (desk_at c.self.inside _ c.desk.inside _ c.self.view_is c.desk.view_is c.requires.desk).1 in
    let ys = pairs c.try_until.new.before.items in
    let failed = all_failed (goal.at.returns-in_default-try_until-clause-alone c).In_default-try_until in
    let pos = c.requires.tries in let made = c.in_default-try_until.ensures.made in
    let s = trying_scan c.args.self.now.desks d rs ys (doing_of c.try_until.new.seat.me.0) failed.0 (omega (arith, made_same c.try_until.new.seat.me.0)) in
    s.3 (one_read d rs s.0.before ys (omega arith) (subst (λ (n : ℕ). IsRead n d rs s.0.before) one s.5) (subst (λ (n : ℕ). IsRead n d rs ys) one failed.1))

-- what a scan with a record leaves
done : (c : After-fetch_add-ended) → ScanDone c.desk.inside.desk (answered_of c.desk.inside.seat.me.0) c.desk.inside.kept.ticks c.fetch_add-begun.result c.fetch_add-ended.result c.in-Some.made (middle_in (doing_of c.try_until.new.seat.me.0))
    (middles_made (doing_of c.try_until.new.seat.me.0)) (pairs c.try_until.new.since.items) c.fetch_add-ended.new.seat.me
done c =
    let e = c.in-Some.ensures in
    scan_done _ _ _ _ _ _ _ _ _ _ c.in-Some.made _ (pairs c.try_until.new.since.items) c.desk.invariant.alone c.fetch_add-begun.ensures.2 c.load_words.ensures.read e.seat.1 e.account (omega (arith, e.ticks, e.made.0)) e.ends c.fetch_add-ended.ensures.2

-- the call that the desk's account has then
abbrev call : After-fetch_add-ended → Answered
call c = rec_with c.fetch_add-begun.result (middles_made (doing_of c.try_until.new.seat.me.0)) c.fetch_add-ended.result (Scanned (middle_in (doing_of c.try_until.new.seat.me.0)) (pairs c.try_until.new.since.items))

called : (c : After-fetch_add-ended) → answered_of c.fetch_add-ended.new.seat.me.0 ≡ answered_of c.desk.inside.seat.me.0 ++ call c ∷ []
called c = ap (λ (m : Seated). answered_of m.0) (done c).me

-- the last collect
last_read : (c : In-Some) → IsRead c.args.self.now.desks c.desk.inside.desk (answered_of c.desk.inside.seat.me.0) (pairs c.try_until.new.since.items)
last_read c =
    let r = get_ready _ _ _ _ _ _ _ _ c.desk.invariant.alone c.fetch_add-begun.ensures.2.0 c.load_words.ensures.read in
    subst (λ (m : Seated). IsRead c.args.self.now.desks (desk_of m.0) (answered_of m.0) (pairs c.try_until.new.since.items)) r.me c.in-Some.ensures.read

pub fetch_add-ended-requires : goal.fetch_add-ended-requires
fetch_add-ended-requires c =
    let ok = c.desk.invariant in
    let most = limit_at c.self.inside _ c.self.invariant c.self.view_is in
    let board = c.self.invariant in let n = ap (λ (v : BoardView). v.desks) c.self.view_is in
    let at = desk_at c.self.inside _ c.desk.inside _ c.self.view_is c.desk.view_is c.requires.desk in
    let keyed = board.keyed ∙ n in let few = board.few.1 in
    let ys = pairs c.try_until.new.since.items in
    let e = c.in-Some.ensures in
    let m = c.in-Some.made in
    let r = get_ready _ _ _ _ _ _ _ _ ok.alone c.fetch_add-begun.ensures.2.0 c.load_words.ensures.read in
    let read = last_read (goal.at.fetch_add-ended-requires c).In-Some in
    let s = agreed_scan ys (doing_of c.try_until.new.seat.me.0) e.ends in
    let a = after_tries _ _ _ _ _ _ m _ (Scanning s.0) r e.seat.1 e.account (omega (arith, e.ticks, e.made.0)) s.1 in (
      e.seat.0 ∙ c.load_words.ensures.seat ∙ c.fetch_add-begun.ensures.0 ∙ at.0,
      omega (arith, board.words),
      ends_scan_as _ _ _ _ _ _ _ _ (omega arith) most.1 s.0 (ap (λ m. m.0) a.0) (ap length s.3 ∙ read.0 ∙ sym keyed) (s.2 ∙ sym s.3) (omega (arith, e.made.2, most.0, most.1, c.if-not-has_room.ensures.room.0 refl)),
    )

pub view_of-view-requires : goal.view_of-view-requires
view_of-view-requires c =
    let e = c.in-Some.ensures in let n = ap (λ (v : BoardView). v.desks) c.self.view_is in
    let l = e.read.0 in let m = length-map c.try_until.new.since.items entry_of in
    record {
      room = (c.in-Ok-with_capacity-2.ensures.items, omega (arith, c.in-Ok-with_capacity-2.ensures.capacity, c.from-3.ensures));
      short = omega (arith, c.self.invariant.few.1);
    }

pub invariant_of-desk-2 : goal.invariant_of-desk-2
invariant_of-desk-2 c =
    let desk = c.desk.inside in let ok = c.desk.invariant in
    let most = limit_at c.self.inside _ c.self.invariant c.self.view_is in
    let at = (goal.at.invariant_of-desk-2 c).After-fetch_add-ended in
    let rs = answered_of desk.seat.me.0 in
    let m = c.in-Some.made in let made = c.in-Some.ensures.made in
    let a = alone_of c.fetch_add-ended.new.seat.me desk.desk (rs ++ call at ∷ []) (desk.kept.ticks + m + 2) (desk.kept.ticks + (m + 2)) (done at).me (omega arith) in
    record {
      alone = a.0;
      stored = ap (λ l. latest (0, 0) l) a.1 ∙ latest-push (0, 0) rs (call at) ∙ ok.stored;
      small = (omega (arith, ok.small.0), omega (arith, made.2, most.0, most.1, c.if-not-has_room.ensures.room.0 refl));
    }

pub returns-clause-recorded : goal.returns-clause-recorded
returns-clause-recorded c = rw (← c.desk.view_is, c.answer.ensures, c.view_of-view.ensures) (
    let at = (goal.at.returns-clause-recorded c).After-fetch_add-ended in
    ap (records_at c.desk.inside.desk) (called at) ∙ records-push c.desk.inside.desk (answered_of c.desk.inside.seat.me.0) (call at))

pub returns-clause-collects : goal.returns-clause-collects
returns-clause-collects c = rw (← c.desk.view_is) (
    let at = (goal.at.returns-clause-collects c).After-fetch_add-ended in
    let e = ap collects_in (called at) in let n = collects-push (answered_of c.desk.inside.seat.me.0) (call at) in omega arith)

pub returns-clause-lost : goal.returns-clause-lost
returns-clause-lost c = rw (← c.desk.view_is) (
    let at = (goal.at.returns-clause-lost c).After-fetch_add-ended in
    let rs = answered_of c.desk.inside.seat.me.0 in
    ap lost_in (called at) ∙ lost-push rs (call at) ∙ append-nil (lost_in rs))

pub returns-clause-call : goal.returns-clause-call
returns-clause-call c = rw (← c.desk.view_is) (
    let at = (goal.at.returns-clause-call c).After-fetch_add-ended in
    let made = c.in-Some.ensures.made in
    let many : length (middles_made (doing_of c.try_until.new.seat.me.0)) ≡ c.in-Some.made = sym (made_same c.try_until.new.seat.me.0) ∙ made.0 in
    (call at, called at, (omega (arith, many, made.1), omega (arith, many, made.2))))

pub returns-clause-stamps : goal.returns-clause-stamps
returns-clause-stamps c = rw c.answer.ensures (done (goal.at.returns-clause-stamps c).After-fetch_add-ended).in_turn

pub returns-clause-later : goal.returns-clause-later
returns-clause-later c = rw (← c.desk.view_is) (
    later c.desk.inside.desk c.fetch_add-begun.result (answered_of c.desk.inside.seat.me.0) c.answer.result (ap (λ (r : Record). r.begun) c.answer.ensures) (done (goal.at.returns-clause-later c).After-fetch_add-ended).above)

pub returns-clause-own : goal.returns-clause-own
returns-clause-own c = rw (← c.desk.view_is, c.answer.ensures, c.view_of-view.ensures) (
    let desk = c.desk.inside in
    let n = ap (λ (v : BoardView). v.desks) c.self.view_is in
    let low = (desk_at c.self.inside _ desk _ c.self.view_is c.desk.view_is c.requires.desk).1 in
    let read = last_read (goal.at.returns-clause-own c).In-Some in let size = read.0 in
    own_entry desk.desk (answered_of desk.seat.me.0) (pairs c.try_until.new.since.items) read.1 (omega arith))

pub returns-clause-no_older : goal.returns-clause-no_older
returns-clause-no_older c = rw (← c.desk.view_is, c.answer.ensures, c.view_of-view.ensures) (
    let at = goal.at.returns-clause-no_older c in
    no_older c.desk.inside.desk (answered_of c.desk.inside.seat.me.0) (pairs c.try_until.new.since.items) (last_read at.In-Some).1 (done at.After-fetch_add-ended).whole)
