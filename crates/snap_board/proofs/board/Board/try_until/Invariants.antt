use Rattle.std.proofs.Common.{◌≡◌, ◌+◌, ◌≤◌, vec_capacity}
use Rattle.snap_account.specs.Seats.{one_desk, pairs, doing_of, desk_of, ticks_of, begun_of, answered_of}
use Rattle.snap_account.specs.Tries.{IsRead, IsTrying, made_of}
use Rattle.snap_board.proofs.board.Board.try_until.Given as goal

abbrev pub invariant-tries : goal.invariant-tries
invariant-tries l = record {
  at : l.seat.table_id ≡ l.initial.seat.table_id;
  me : l.seat.me ≡ one_desk l.seat.me;
  desk : desk_of l.seat.me.0 ≡ desk_of l.initial.seat.me.0;
  answered : answered_of l.seat.me.0 ≡ answered_of l.initial.seat.me.0;
  begun : begun_of l.seat.me.0 ≡ begun_of l.initial.seat.me.0;
  ticks : ticks_of l.seat.me.0 ≡ ticks_of l.initial.seat.me.0 + l.made;
  made : made_of l.seat.me.0 ≡ l.made;
  trying : IsTrying l.self.desks (desk_of l.initial.seat.me.0) (answered_of l.initial.seat.me.0) (pairs l.before.items) (doing_of l.seat.me.0);
  read : IsRead l.self.desks (desk_of l.initial.seat.me.0) (answered_of l.initial.seat.me.0) (pairs l.before.items);
  room : (l.self.desks ≤ vec_capacity l.before) × (l.self.desks ≤ vec_capacity l.since);
}
