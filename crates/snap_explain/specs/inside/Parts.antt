-- The parts of a text that is cut at its first mark.
use Rattle.std.proofs.Common.{◌+◌, ℕ, List, [], Option, Bor, length}
use Rattle.std.specs.Option.{option_map_or}
use Rattle.snap_text.specs.Fields.{parts}

-- the parts of what is after a mark, none if there is no mark
abbrev pub parts_after : ℕ → Option (Bor (List ℕ)) → List (List ℕ)
parts_after mark rest = option_map_or (λ text. parts mark text.now) rest []

-- the number of bytes after a mark, with the mark
abbrev pub size_after : Option (Bor (List ℕ)) → ℕ
size_after rest = option_map_or (λ text. length text.now + 1) rest 0
