-- Which characters the bars take in a picture by lines.
use Rattle.std.specs.Prelude.{ℕ, ◌*◌, ◌-◌, ◌^◌, ◌==◌, List, Option, Some, None, filter, map, min}
use Rattle.snap_draw.specs.declared.shapes.Bar.{Bar}
use Rattle.snap_draw.specs.declared.layout.Span.{Span}

-- the character of a column, if each is step characters wide; no column of a history is past the greatest number
abbrev pub character_of : ℕ → ℕ → ℕ
character_of step column = min (column * step) (2 ^ 64 - 1)

-- a pending call has no end
abbrev pub end_character : ℕ → Option ℕ → Option ℕ
end_character step None = None
end_character step (Some column) = Some (character_of step column)

-- a bar from the character of its begin to that of its end
abbrev pub span_of : ℕ → Bar → Span
span_of step b = record { bar = b; from = character_of step b.begin; to = end_character step b.end }

-- the spans of the bars of a lane
abbrev pub spans_in : ℕ → List Bar → ℕ → List Span
spans_in step bars lane = map (span_of step) (filter (λ (b : Bar). b.lane == lane) bars)
