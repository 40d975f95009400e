use Rattle.std.proofs.Common.{ℕ, ◌+◌, sym, ap, ◌∙◌, subst, arith}
use Rattle.std.proofs.lemmas.List.{length-map}
use Rattle.std.proofs.lemmas.Bool.{false≢true}
use Rattle.snap_account.specs.Calls.{middle_open}
use Rattle.snap_account.specs.Plays.{Seated, entry_of}
use Rattle.snap_account.specs.Seats.{pairs, desk_of, doing_of, ticks_of, IsUpToDate, answered_of}
use Rattle.snap_account.specs.Tries.{IsTrying, HasAgreed}
use Rattle.snap_board.specs.Boards.{BoardView}
use Rattle.snap_board.proofs.Fields.{limit_at}
use Rattle.snap_account.proofs.Calling.{middled_after}
use Rattle.snap_account.proofs.Reading.{ready}
use Rattle.snap_account.proofs.Trying.{pairs_same, ticks_trying, reads_next, tries_on, agrees_on, tried}
use Rattle.snap_board.proofs.board.Board.try_once.Goals as goal

pub fetch_add-tick-requires : goal.fetch_add-tick-requires
fetch_add-tick-requires c =
    let me = c.args.seat.now.me in let self = c.self.inside in let board = c.self.invariant in
    let n = ap (λ (v : BoardView). v.desks) c.self.view_is in let most = limit_at c.self.inside _ c.self.invariant c.self.view_is in
    let key = self.table.shared.key.desks in
    let keyed = board.keyed ∙ n in let few = board.few.1 in (
      c.requires.seat.0 ∙ sym (ap (λ (v : BoardView). v.board) c.self.view_is),
      omega (arith, board.words),
      ticks_trying key self.table.shared.key.limit.ticks self.table.shared.table_id.slots c.args.seat.now.id me (desk_of me.0) (answered_of me.0) (ticks_of me.0) (omega arith) most.1 (doing_of me.0) (pairs c.args.before.now.items) (ap (λ m. m.0) c.requires.seat.1)
          (subst (λ (n : ℕ). IsTrying n (desk_of me.0) (answered_of me.0) (pairs c.args.before.now.items) (doing_of me.0)) (sym keyed) c.requires.trying) (c.requires.read.0 ∙ sym keyed) (omega (arith, most.0, c.requires.ticks)),
    )

pub load_words-requires : goal.load_words-requires
load_words-requires c =
    let me = c.args.seat.now.me in
    let me1 = middled_after me c.fetch_add-tick.new.seat.me (desk_of me.0) (answered_of me.0) (doing_of me.0) (ticks_of me.0) c.fetch_add-tick.result c.requires.seat.1 c.fetch_add-tick.ensures.2.0 in
    record {
      seat = c.fetch_add-tick.ensures.0 ∙ c.requires.seat.0;
      ready = ready c.fetch_add-tick.new.seat.me (desk_of me.0) (answered_of me.0) (middle_open c.fetch_add-tick.result (doing_of me.0)) (ticks_of me.0 + 1) me1
          (reads_next c.args.self.now.desks (desk_of me.0) (answered_of me.0) (pairs c.args.before.now.items) c.fetch_add-tick.result (doing_of me.0) c.requires.trying);
      room = (c.clear.ensures.items, omega (arith, c.requires.room, c.clear.ensures.capacity));
    }

pub returns-clause-read : goal.returns-clause-read
returns-clause-read c =
    let me = c.args.seat.now.me in
    let ws = c.load_words.new.words.items in
    let me1 = middled_after me c.fetch_add-tick.new.seat.me (desk_of me.0) (answered_of me.0) (doing_of me.0) (ticks_of me.0) c.fetch_add-tick.result c.requires.seat.1 c.fetch_add-tick.ensures.2.0 in (
      length-map ws entry_of ∙ c.load_words.ensures.all,
      subst (λ (m : Seated). IsUpToDate (desk_of m.0) (answered_of m.0) (pairs ws)) me1 c.load_words.ensures.told,
    )

pub returns-clause-seat : goal.returns-clause-seat
returns-clause-seat c =
    let t = tried c.args.self.now.desks c.args.seat.now.me _ _ c.fetch_add-tick.result (pairs c.args.before.now.items) (pairs c.load_words.new.words.items) c.requires.seat.1 c.requires.trying c.fetch_add-tick.ensures.2.0 c.load_words.ensures.read in
    (c.load_words.ensures.seat ∙ c.fetch_add-tick.ensures.0, t.me ∙ ap Rattle.snap_account.specs.Seats.one_desk (sym t.me))

pub returns-clause-account : goal.returns-clause-account
returns-clause-account c =
    let t = tried c.args.self.now.desks c.args.seat.now.me _ _ c.fetch_add-tick.result (pairs c.args.before.now.items) (pairs c.load_words.new.words.items) c.requires.seat.1 c.requires.trying c.fetch_add-tick.ensures.2.0 c.load_words.ensures.read in
    (ap (λ (m : Seated). desk_of m.0) t.me, ap (λ (m : Seated). answered_of m.0) t.me, t.begun)

pub returns-clause-ticks : goal.returns-clause-ticks
returns-clause-ticks c =
    let t = tried c.args.self.now.desks c.args.seat.now.me _ _ c.fetch_add-tick.result (pairs c.args.before.now.items) (pairs c.load_words.new.words.items) c.requires.seat.1 c.requires.trying c.fetch_add-tick.ensures.2.0 c.load_words.ensures.read in
    (ap (λ (m : Seated). ticks_of m.0) t.me, t.made)

pub returns-clause-agreed : goal.returns-clause-agreed
returns-clause-agreed c same =
    let me = c.args.seat.now.me in
    let ys = pairs c.load_words.new.words.items in
    let t = tried c.args.self.now.desks me _ _ c.fetch_add-tick.result (pairs c.args.before.now.items) ys c.requires.seat.1 c.requires.trying c.fetch_add-tick.ensures.2.0 c.load_words.ensures.read in
    subst (λ (m : Seated). HasAgreed ys (doing_of m.0)) (sym t.me)
    (agrees_on c.args.self.now.desks (desk_of me.0) (answered_of me.0) (pairs c.args.before.now.items) ys c.fetch_add-tick.result (doing_of me.0) c.requires.trying (ap pairs (c.are_equal.ensures.0 same)))

pub returns-clause-trying : goal.returns-clause-trying
returns-clause-trying c not =
    let me = c.args.seat.now.me in
    let n = c.args.self.now.desks in let d = desk_of me.0 in let rs = answered_of me.0 in
    let xs = pairs c.args.before.now.items in
    let ys = pairs c.load_words.new.words.items in
    let t = tried n me _ _ c.fetch_add-tick.result xs ys c.requires.seat.1 c.requires.trying c.fetch_add-tick.ensures.2.0 c.load_words.ensures.read in
    subst (λ (m : Seated). IsTrying n d rs ys (doing_of m.0)) (sym t.me)
    (tries_on n d rs xs ys c.fetch_add-tick.result (doing_of me.0) c.requires.trying c.requires.read
    (λ same. false≢true (sym not ∙ c.are_equal.ensures.1 (pairs_same c.args.before.now.items c.load_words.new.words.items same))))
