use Rattle.std.proofs.Common.{◌≡◌, ◌≤◌, length, vec_capacity}
use Rattle.snap_account.specs.Seats.{has_read, pairs, desk_of, IsUpToDate, answered_of}
use Rattle.snap_board.proofs.board.Board.load_words.Given as goal

abbrev pub invariant-words : goal.invariant-words
invariant-words l = record {
  at : l.seat.table_id ≡ l.initial.seat.table_id;
  reads : l.seat.me ≡ has_read l.initial.seat.me (pairs l.words.items);
  count : length l.words.items ≡ l.k;
  room : l.self.desks ≤ vec_capacity l.words;
  told : IsUpToDate (desk_of l.initial.seat.me.0) (answered_of l.initial.seat.me.0) (pairs l.words.items);
}
