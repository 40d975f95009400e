-- Blocks of calls, and the keys of the printed calls of each.
use Rattle.std.specs.Prelude.{ℕ, ◌+◌, ◌*◌, ◌/◌, ◌-◌, ◌<◌, ◌≡◌, List, length, take, drop, map, filter, get_or, Result, IfOk}
use Rattle.std.specs.declared.alloc.AllocError.{AllocError}
use Rattle.std.specs.declared.alloc.Global.{Global}
use Rattle.std.specs.declared.vec.Vec.{Vec}
use Rattle.snap_core.specs.Calls.{Call}
use Rattle.snap_theory.specs.Keys.{key_of}
use Rattle.snap_theory.specs.Levels.{is_printed}

-- the keys of the printed calls with numbers from `from` to before `to`
abbrev pub keys_between : List Call → ℕ → ℕ → List (ℕ × ℕ)
keys_between calls from to = map (key_of calls) (filter (is_printed calls) (take (to - from) (drop from calls)))

-- the first number of a block, if `calls` calls are cut into `blocks` blocks
abbrev pub block_start : ℕ → ℕ → ℕ → ℕ
block_start blocks block calls = block * calls / blocks

-- the keys of a block, if memory did not run out
abbrev pub IsBlock : List Call → ℕ → ℕ → Result (Vec (ℕ × ℕ) Global) AllocError → Type 0
IsBlock calls blocks block made = IfOk made (λ keys. keys.items ≡ keys_between calls (block_start blocks block (length calls)) (block_start blocks (block + 1) (length calls)))

-- the keys of each block
abbrev pub AreBlocks : List Call → ℕ → List (Result (Vec (ℕ × ℕ) Global) AllocError) → Type 0
AreBlocks calls blocks made = (i : ℕ) (none : Result (Vec (ℕ × ℕ) Global) AllocError) → i < length made → IsBlock calls blocks i (get_or made i none)
