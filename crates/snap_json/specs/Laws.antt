-- What is proved about all lines.
use Rattle.std.specs.Prelude.{◌≡◌, ℕ, List}
use Rattle.snap_json.specs.Objects.{named_object}
use Rattle.snap_json.specs.Values.{Field, IsLineOf}

-- no two names have the same line: the escapes of a name can be undone
abbrev pub HasOneName : Type 0
HasOneName =
    (name other : List ℕ) (status others_status : ℕ) (fields others : List Field) (line : List ℕ) →
    IsLineOf (named_object name status fields) line → IsLineOf (named_object other others_status others) line → name ≡ other
