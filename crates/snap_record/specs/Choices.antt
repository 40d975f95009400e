-- Which steps of a script have a record: only scans may be left out.
use Rattle.std.specs.Prelude.{◌≡◌, ℕ, Bool, false, cond, List, [], ◌∷◌, ◌++◌, ⊤, length, ◌==◌, slice_index_or}
use Rattle.snap_core.specs.Sums.{total}
use Rattle.snap_board.specs.Settled.{falling}
use Rattle.snap_record.specs.declared.plan.Step.{Step}
use Rattle.snap_record.specs.declared.plan.Step.TheVariants.{Store, View, Scan}

-- the steps that are kept; steps after the end of the choices are kept too
abbrev pub chosen : List Bool → List Step → List Step
chosen bs [] = []
chosen [] (s ∷ ss) = s ∷ chosen [] ss
chosen (b ∷ bs) (s ∷ ss) = cond b (s ∷ chosen bs ss) (chosen bs ss)

abbrev pub tries_of : Step → List ℕ
tries_of (Store v) = []
tries_of View = []
tries_of (Scan tries) = tries ∷ []

-- the tries of the scans that are left out
abbrev pub left_out : List Bool → List Step → List ℕ
left_out bs [] = []
left_out [] (s ∷ ss) = []
left_out (b ∷ bs) (s ∷ ss) = cond b (left_out bs ss) (tries_of s ++ left_out bs ss)

abbrev pub IsScan : Step → Type 0
IsScan (Store v) = ⊥
IsScan View = ⊥
IsScan (Scan tries) = ⊤

-- only scans are left out
abbrev pub LeavesScans : List Bool → List Step → Type 0
LeavesScans bs [] = ⊤
LeavesScans [] (s ∷ ss) = ⊤
LeavesScans (b ∷ bs) (s ∷ ss) = (b ≡ false → IsScan s) × LeavesScans bs ss

abbrev pub one_view : Step → ℕ
one_view (Store v) = 0
one_view View = 1
one_view (Scan tries) = 0

-- the number of collects of a script
abbrev pub views_in : List Step → ℕ
views_in steps = total one_view steps

abbrev pub one_scan : Step → ℕ
one_scan (Store v) = 0
one_scan View = 0
one_scan (Scan tries) = 1

-- the number of scans of a script
abbrev pub scans_in : List Step → ℕ
scans_in steps = total one_scan steps

abbrev pub one_store : Step → ℕ
one_store (Store v) = 1
one_store View = 0
one_store (Scan tries) = 0

-- the number of stores of a script
abbrev pub stores_in : List Step → ℕ
stores_in steps = total one_store steps

-- the number of stores of the other scripts
abbrev pub stores_but : ℕ → List (List Step) → ℕ
stores_but w scripts = total (λ v. cond (v == w) 0 (stores_in (slice_index_or scripts v []))) (falling (length scripts))
