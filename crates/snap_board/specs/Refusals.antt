-- When a call is refused.
use Rattle.std.specs.Prelude.{◌≡◌, ℕ, ◌+◌, ◌<◌, ◌≤◌, ◌⊎◌, ◌++◌, ◌∷◌, []}
use Rattle.snap_board.specs.declared.board.TheConstants.{DESK_LIMIT}
use Rattle.snap_board.specs.declared.refusals.OpenRefusal.{OpenRefusal}
use Rattle.snap_board.specs.declared.refusals.OpenRefusal.TheVariants as Opening
use Rattle.snap_board.specs.declared.refusals.CollectRefusal.{CollectRefusal}
use Rattle.snap_board.specs.declared.refusals.CollectRefusal.TheVariants as Collecting
use Rattle.snap_board.specs.declared.refusals.ScanRefusal.{ScanRefusal}
use Rattle.snap_board.specs.declared.refusals.ScanRefusal.TheVariants as Scanning
use Rattle.snap_board.specs.Boards.{DeskView}
use Rattle.snap_board.specs.LastCall.{HasCalled, IsLostScan}
use Rattle.snap_board.specs.Desks.{records, ticks, lost}

-- the greatest number of desks of a board
abbrev pub desk_limit : ℕ
desk_limit = DESK_LIMIT

-- why a board of `desks` desks was not opened
abbrev pub IsNotOpened : ℕ → OpenRefusal → Type 0
IsNotOpened desks Opening.Desks = (desks ≡ 0) ⊎ (desk_limit < desks)
IsNotOpened desks Opening.Memory = (0 < desks) × (desks ≤ desk_limit)

-- why a desk that drew `ticks` of at most `most` ticks did not collect
abbrev pub IsNotCollected : ℕ → ℕ → CollectRefusal → Type 0
IsNotCollected most ticks Collecting.Spent = most < ticks + 2
IsNotCollected most ticks Collecting.Memory = ticks + 2 ≤ most

-- why a desk that drew `ticks` of at most `most` ticks has no record of a scan with `tries` tries
abbrev pub IsNotScanned : ℕ → ℕ → ℕ → ScanRefusal → Type 0
IsNotScanned most ticks tries Scanning.Spent = most < ticks + tries + 2
IsNotScanned most ticks tries Scanning.Memory = ticks + tries + 2 ≤ most
IsNotScanned most ticks tries Scanning.Interfered = ticks + tries + 2 ≤ most

-- how a scan without a record leaves its desk
abbrev pub IsLeft : ℕ → DeskView → DeskView → ScanRefusal → Type 0
IsLeft tries old new Scanning.Spent = new ≡ old
IsLeft tries old new Scanning.Memory = new ≡ old
IsLeft tries old new Scanning.Interfered = (records new ≡ records old) × (ticks new ≡ ticks old + tries + 2) × (lost new ≡ lost old ++ tries ∷ []) × HasCalled (λ r. IsLostScan tries r.middles r.op) old new

-- the refusal is not `Interfered`
abbrev pub IsNotInterfered : ScanRefusal → Type 0
IsNotInterfered Scanning.Spent = Unit {0}
IsNotInterfered Scanning.Memory = Unit {0}
IsNotInterfered Scanning.Interfered = ⊥
