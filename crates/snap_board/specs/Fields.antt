-- What contracts see of a board, of its desks, and of a closed board.
use Rattle.snap_account.specs.Seats.{answered_of}
use Rattle.snap_board.specs.Boards.{BoardView, DeskView, GatheredView, ClosedView}
use Rattle.snap_board.specs.declared.board.Board.TheInside as board
use Rattle.snap_board.specs.declared.board.Desk.TheInside as desk
use Rattle.snap_board.specs.declared.board.Gathered.TheInside as gathered
use Rattle.snap_board.specs.declared.board.Closed.TheInside as closed

abbrev pub board_view : board.Inside → BoardView
board_view b = record { board = b.table.shared.table_id; desks = b.desks; limit = b.limit.ticks }

abbrev pub desk_view : desk.Inside → DeskView
desk_view d = record { board = d.seat.table_id; desk = d.desk; calls = answered_of d.seat.me.0; ticks = d.kept.ticks }

abbrev pub gathered_view : gathered.Inside → GatheredView
gathered_view g = record { board = g.seat.table_id; desks = g.desks; accounts = g.seat.me.0 }

abbrev pub closed_view : closed.Inside → ClosedView
closed_view c = record { desks = c.desks; last = c.last }
