-- The fields of a board and of its desks, beside what contracts see of them.
use Rattle.std.proofs.Common.{◌≡◌, ◌≤◌, ◌∙◌, sym, ap, arith}
use Rattle.snap_board.specs.Boards.{BoardView, DeskView, GatheredView}
use Rattle.snap_board.specs.Desks.{IsDeskOf, IsGatheredOf}
use Rattle.snap_account.specs.Limits.{tick_cap}
use Rattle.snap_board.specs.inside.Fields.{IsBoard}
use Rattle.snap_board.specs.Fields.{board_view, desk_view, gathered_view}
use Rattle.snap_board.specs.declared.board.Board.TheInside as board
use Rattle.snap_board.specs.declared.board.Desk.TheInside as desk
use Rattle.snap_board.specs.declared.board.Gathered.TheInside as gathered

-- a desk of the board has a seat at the board's table
pub desk_at : (b : board.Inside) (w : BoardView) (d : desk.Inside) (v : DeskView) → board_view b ≡ w → desk_view d ≡ v → IsDeskOf w v → IsDeskOf (board_view b) (desk_view d)
desk_at b w d v at is of = (
  ap (λ (z : DeskView). z.board) is ∙ of.0 ∙ sym (ap (λ (z : BoardView). z.board) at),
  let x = ap (λ (z : DeskView). z.desk) is in let y = ap (λ (z : BoardView). z.desks) at in let l = of.1 in omega arith,
)

-- and so have those that are in
pub gathered_at : (b : board.Inside) (w : BoardView) (g : gathered.Inside) (v : GatheredView) → board_view b ≡ w → gathered_view g ≡ v → IsGatheredOf w v → IsGatheredOf (board_view b) (gathered_view g)
gathered_at b w g v at is of = (
  ap (λ (z : GatheredView). z.board) is ∙ of.0 ∙ sym (ap (λ (z : BoardView). z.board) at),
  ap (λ (z : GatheredView). z.desks) is ∙ of.1 ∙ sym (ap (λ (z : BoardView). z.desks) at),
)

-- the limit of the board's table
pub limit_at : (b : board.Inside) (w : BoardView) → IsBoard b → board_view b ≡ w → (b.table.shared.key.limit.ticks ≡ w.limit) × (b.table.shared.key.limit.ticks ≤ tick_cap)
limit_at b w ok at = (ok.limited ∙ ap (λ (z : BoardView). z.limit) at, b.table.shared.key.limit.fits.1)
