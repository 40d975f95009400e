-- The line of a text that is not a history.
use Rattle.std.specs.Prelude.{ℕ, [], ◌∷◌, ◌++◌, codes, decimal}
use Rattle.snap_text.specs.declared.fault.TextFault.{TextFault}
use Rattle.snap_text.specs.Words.{word_of}
use Rattle.snap_report.specs.Lines.{Line}

-- refused record R: WORD
abbrev pub refusal_line : ℕ → TextFault → Line
refusal_line place fault = codes "refused" ∷ codes "record" ∷ (decimal place ++ codes ":") ∷ word_of fault ∷ []
