-- The columns of parts of the components, put together.
use Rattle.std.proofs.Common.{◌≡◌, ℕ, ◌+◌, ◌<◌, ◌≤◌, List, [], ◌∷◌, ◌++◌, length, Vec, Global, subst, arith, length-append}
use Rattle.std.specs.Prelude.{Result, IfOk}
use Rattle.std.specs.declared.alloc.AllocError.{AllocError}
use Rattle.std.proofs.Math.Seq.{get_or-append_seam}
use Rattle.std.proofs.lemmas.List.{get_or_append_left}
use Rattle.snap_core.specs.Calls.{Call}
use Rattle.snap_tally.specs.Grids.{AreColumnsOf}
use Rattle.snap_tally.proofs.Grids.{columns_join}
use Rattle.snap_pairs.specs.inside.Reads.{AreParts, part_start}
use Rattle.snap_views.proofs.Pieces.{starts_grow, starts_inside}

-- columns, where memory did not run out
abbrev pub AreMade : List Call → ℕ → ℕ → Result (Vec (List ℕ) Global) AllocError → Type 0
AreMade calls from to made = IfOk made (λ columns. AreColumnsOf calls from to columns.items)

-- the last part, and those before it

pub last_part : (calls : List Call) (workers : ℕ) (parts : List (Result (Vec (List ℕ) Global) AllocError)) (part : Result (Vec (List ℕ) Global) AllocError) → AreParts calls workers (parts ++ part ∷ []) →
    AreMade calls (part_start workers (length parts)) (part_start workers (length parts + 1)) part
last_part calls workers parts part h =
    subst (AreMade calls (part_start workers (length parts)) (part_start workers (length parts + 1))) (get_or-append_seam parts part [] part) (h (length parts) part (omega (arith, length-append parts (part ∷ []))))

pub parts_before : (calls : List Call) (workers : ℕ) (parts : List (Result (Vec (List ℕ) Global) AllocError)) (part : Result (Vec (List ℕ) Global) AllocError) → AreParts calls workers (parts ++ part ∷ []) → AreParts calls workers parts
parts_before calls workers parts part h = λ i none l.
    subst (AreMade calls (part_start workers i) (part_start workers (i + 1))) (get_or_append_left parts (part ∷ []) none i l) (h i none (omega (arith, l, length-append parts (part ∷ []))))

pub part_joined : (calls : List Call) (workers n m : ℕ) (low high : List (List ℕ)) → 0 < workers → m ≡ n + 1 → m ≤ workers → AreColumnsOf calls (part_start workers n) (part_start workers (n + 1)) low → AreColumnsOf calls (part_start workers m) 256 high →
    AreColumnsOf calls (part_start workers n) 256 (low ++ high)
part_joined calls workers n m low high some e within a b =
    columns_join calls (part_start workers n) (part_start workers (n + 1)) 256 low high (starts_grow n (n + 1) 256 workers some (omega arith)) (starts_inside (n + 1) 256 workers some (omega (arith, e, within))) a (subst (λ z. AreColumnsOf calls (part_start workers z) 256 high) e b)
