-- The stores and scans of all accounts, without their collects.
use Rattle.std.specs.Prelude.{List, [], ◌∷◌, ◌++◌, map}
use Rattle.snap_core.specs.declared.event.Event.{Event}
use Rattle.snap_account.specs.declared.account.Account.{Account}
use Rattle.snap_account.specs.declared.account.Answered.{Answered}
use Rattle.snap_account.specs.declared.account.Answer.{Answer}
use Rattle.snap_account.specs.declared.account.Answer.TheVariants.{Stored, Viewed, Scanned, Interfered}
use Rattle.snap_board.specs.History.{board_history}

-- a store, or a scan with a record
abbrev pub op_kept : Answer → Answered → List Answered
op_kept (Stored n v) r = r ∷ []
op_kept (Viewed xs) r = []
op_kept (Scanned t xs) r = r ∷ []
op_kept (Interfered n xs ys) r = []

abbrev pub kept : List Answered → List Answered
kept [] = []
kept (r ∷ rs) = op_kept r.op r ++ kept rs

abbrev pub without_collects : Account → Account
without_collects a = record { desk = a.desk; calls = kept a.calls; doing = a.doing; ticks = a.ticks }

-- the events of the stores and scans of all accounts, in the order of their stamps
abbrev pub scan_history : List Account → List Event
scan_history hand = board_history (map without_collects hand)
