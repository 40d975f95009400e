-- What contracts see of a board, of its desks that are out and of those that are in, and of a closed board.
use Rattle.std.specs.Prelude.{ℕ, List, Option}
use Rattle.atomic_table.specs.Seated.{TableId}
use Rattle.snap_core.specs.declared.entry.Entry.{Entry}
use Rattle.snap_account.specs.declared.account.Account.{Account}
use Rattle.snap_account.specs.declared.account.Answered.{Answered}

-- a board: its identity, the number of its desks, and the number of ticks that each may draw
pub record BoardView : Type 0 where
  pub board : TableId
  pub desks : ℕ
  pub limit : ℕ

-- a desk of the board with that identity, without an open call: its number, its answered calls, and the number of ticks that it drew
pub record DeskView : Type 0 where
  pub board : TableId
  pub desk : ℕ
  pub calls : List Answered
  pub ticks : ℕ

-- the accounts of the desks that are in, the highest desk first, and the number of desks of their board
pub record GatheredView : Type 0 where
  pub board : TableId
  pub desks : ℕ
  pub accounts : List Account

-- the number of desks of a closed board, and the last stored entry of each component, from 0 on
pub record ClosedView : Type 0 where
  pub desks : ℕ
  pub last : List (Option Entry)
