use Rattle.std.proofs.Common.{◌≡◌, ◌≤◌, length, vec_capacity, take}
use Rattle.snap_board.specs.Desks.{listed}
use Rattle.snap_account.specs.Seats.{pairs}
use Rattle.snap_board.proofs.calls.list_words.Given as goal

abbrev pub invariant-each : goal.invariant-each
invariant-each l = record {
  list : l.entries.items ≡ listed 0 (pairs (take l.k l.words.items));
  room : length l.words.items ≤ vec_capacity l.entries;
}
