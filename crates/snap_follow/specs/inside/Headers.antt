-- The headers of texts.
use Rattle.std.specs.Prelude.{◌≡◌, ⊤, List, [], ◌∷◌, Option, Some, None, true}
use Rattle.snap_format.specs.Layout.{is_header_row}
use Rattle.snap_text.specs.Fields.{Fields}
use Rattle.snap_follow.specs.Turns.{is_header_of}
use Rattle.snap_follow.specs.declared.form.Form.{Form}

-- records are a header alone, or they are not the header of texts without stamps
abbrev pub BeginsWith : List Fields → Option Form → Type 0
BeginsWith rows None = (first : Fields) × (later : List Fields) × (rows ≡ first ∷ later) × ¬ ((is_header_row first ≡ true) × (later ≡ []))
BeginsWith rows (Some form) = (first : Fields) × (rows ≡ first ∷ []) × (is_header_of form first ≡ true)

-- a text may have this header, after those before it
abbrev pub IsAgreed : Option Form → Form → Type 0
IsAgreed None form = ⊤
IsAgreed (Some before) form = before ≡ form
