use Rattle.std.proofs.Common.{ℕ, ◌+◌, List, [], length, sym, ap, ◌∙◌, subst, arith}
use Rattle.std.proofs.lemmas.List.{length_push, length-map}
use Rattle.snap_account.specs.Seats.{showing, pairs, doing_of, desk_of, ticks_of, IsUpToDate, answered_of}
use Rattle.snap_account.specs.Plays.{entry_of}
use Rattle.snap_account.proofs.Moves.{loads_at}
use Rattle.snap_board.specs.Boards.{BoardView}
use Rattle.snap_account.proofs.Reading.{has_showing, has_read_more, told_more}
use Rattle.snap_board.proofs.board.Board.load_words.Goals as goal

pub load-word-requires : goal.load-word-requires
load-word-requires c =
    let self = c.self.inside in let board = c.self.invariant in let i = c.words.invariant in
    let view = c.self.view_is in let n = ap (λ (v : BoardView). v.desks) view in
    let me0 = c.args.seat.now.me in let xs = pairs c.words.words.items in
    let keyed = board.keyed in let few = board.few.1 in let wide = board.words in let count = i.count in let size = length-map c.words.words.items entry_of in (
      i.at ∙ c.requires.seat ∙ sym (ap (λ (v : BoardView). v.board) view),
      omega (arith, c.from.ensures, c.words-test.true),
      loads_at self.table.shared.key.desks self.table.shared.key.limit.ticks self.table.shared.table_id.slots c.words.seat.id c.words.seat.me (desk_of me0.0) (answered_of me0.0) (ticks_of me0.0) (omega arith) self.table.shared.key.limit.fits.1 (showing xs (doing_of me0.0)) xs (c.from.result + 1)
          (ap (λ m. m.0) i.reads) (has_showing (doing_of me0.0) [] xs c.requires.ready.1) (omega (arith, c.words-test.true)) (omega (arith, c.from.ensures)),
    )

pub words-preserved : goal.words-preserved
words-preserved c =
    let i = c.words.invariant in let me0 = c.args.seat.now.me in
    let ws = c.words.words.items in
    let n = c.load-word.result in let now = c.load-word.new.seat.me in
    let told = c.load-word.ensures.2 in
    let items = c.push_reserved.ensures.items in
    record {
      at = c.load-word.ensures.0 ∙ i.at;
      reads = has_read_more me0 c.words.seat.me now ws n i.reads c.requires.ready.1 told.0 ∙ ap (λ l. Rattle.snap_account.specs.Seats.has_read me0 (pairs l)) (sym items);
      count = ap length items ∙ length_push ws n ∙ ap (λ z. z + 1) i.count;
      room = omega (arith, i.room, c.push_reserved.ensures.capacity);
      told = subst (λ (l : List ℕ). IsUpToDate (desk_of me0.0) (answered_of me0.0) (pairs l)) (sym items)
          (told_more me0 c.words.seat.me ws (c.from.result + 1) n i.reads c.requires.ready.1 (omega (arith, c.from.ensures, i.count)) told.1 i.told);
    }
