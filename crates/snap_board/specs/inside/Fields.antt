-- What is always true of the fields of a board and of its desks.
use Rattle.std.specs.Prelude.{◌≡◌, ◌+◌, ◌<◌, ◌≤◌, [], ◌∷◌, map, length}
use Rattle.snap_account.specs.Calls.{latest}
use Rattle.snap_account.specs.Limits.{tick_cap}
use Rattle.snap_account.specs.Seats.{idle, answered_of, brief}
use Rattle.snap_board.specs.Refusals.{desk_limit}
use Rattle.snap_board.specs.inside.Slots.{desks_in, AreSmall}
use Rattle.snap_board.specs.declared.board.Board.TheInside as board
use Rattle.snap_board.specs.declared.board.Desk.TheInside as desk
use Rattle.snap_board.specs.declared.board.Gathered.TheInside as gathered
use Rattle.snap_board.specs.declared.board.Closed.TheInside as closed

-- a word for the clock and one for each desk
pub record IsBoard (b : board.Inside) : Type 0 where
  pub words : b.table.shared.table_id.words ≡ b.desks + 1
  pub slots : b.table.shared.table_id.slots ≡ 0
  pub keyed : b.table.shared.key.desks ≡ b.desks
  pub limited : b.table.shared.key.limit.ticks ≡ b.limit.ticks
  pub few : (0 < b.desks) × (b.desks ≤ desk_limit)

-- The seat has the desk's account alone, without an open call. What is kept is what the account says.
pub record IsDesk (d : desk.Inside) : Type 0 where
  pub alone : d.seat.me ≡ (idle d.desk (answered_of d.seat.me.0) d.kept.ticks ∷ [], [])
  pub stored : latest (0, 0) (answered_of d.seat.me.0) ≡ (d.kept.stores, d.kept.value)
  pub small : (d.kept.stores ≤ d.kept.ticks) × (d.kept.ticks ≤ tick_cap)

-- The seat has the accounts of the desks that are in. What is kept of each is what its account says.
pub record IsGathered (g : gathered.Inside) : Type 0 where
  pub bare : g.seat.me.1 ≡ []
  pub few : (g.desks ≤ desk_limit) × (length g.slots ≡ desk_limit)
  pub matches : map brief g.seat.me.0 ≡ desks_in g.desks g.slots
  pub small : AreSmall g.slots

pub record IsClosed (c : closed.Inside) : Type 0 where
  pub few : c.desks ≤ desk_limit
  pub all : length c.last ≡ desk_limit
