-- The question that a command asks about its text, by its words.
use Rattle.std.specs.Prelude.{ℕ, Bool, true, false, List, Option, Some, None, ⊤, ◌≡◌, codes, unwrap_or}
use Rattle.snap_explain.specs.declared.view.Entries.{Entries}
use Rattle.snap_explain.specs.declared.view.Entries.TheVariants.{OfFault, Whole}
use Rattle.snap_options.specs.declared.scheme.Scheme.TheVariants.{Light}
use Rattle.snap_runs.specs.declared.asked.Asked.{Asked}
use Rattle.snap_runs.specs.declared.asked.Asked.TheVariants as asks
use Rattle.snap_runs.specs.declared.question.Question.{Question}
use Rattle.snap_runs.specs.declared.question.Question.TheVariants as questions
use Rattle.snap_words.specs.declared.drawing.Form.{Form}
use Rattle.snap_words.specs.declared.drawing.Form.TheVariants.{Lines, Page, Svg}
use Rattle.snap_words.specs.declared.drawing.Part.{Part}
use Rattle.snap_words.specs.declared.shrunk.Shrunk.{Shrunk}
use Rattle.snap_words.specs.declared.shrunk.Shrunk.TheVariants.{Witness, Picture, Map}
use Rattle.snap_commands.specs.Pictures.{window_of}

-- `shrink`, `shrink --draw`, `shrink --map`
abbrev pub witness : Shrunk → Question
witness Witness = questions.Witness
witness Picture = questions.WitnessDrawn
witness Map = questions.WitnessMap

-- with `--all`, and without
abbrev pub entries_of : Bool → Entries
entries_of true = Whole
entries_of false = OfFault

-- `explain --draw`, and `explain --faults N` with this N
abbrev pub explanation : Bool → Bool → ℕ → Question
explanation true whole faults = questions.ExplanationDrawn (entries_of whole)
explanation false whole faults = questions.Explanation (record { listed = entries_of whole; faults = faults })

-- `check --cut --quiet`, `check --cut`
abbrev pub report_of_cut : Bool → Asked
report_of_cut true = asks.Verdicts
report_of_cut false = asks.Report

-- `draw`, `draw --svg`, `draw --text`
abbrev pub picture : Form → Part → Question
picture (Page scheme) part = questions.Page scheme (window_of (Page scheme) part)
picture (Svg scheme) part = questions.Svg (unwrap_or scheme Light) (window_of (Svg scheme) part)
picture Lines part = questions.Lines (window_of Lines part)

-- the name of the only text, - for standard input
abbrev pub name_of : Option (List ℕ) → List ℕ
name_of file = unwrap_or file (codes "-")

-- `stats --json` of a text of this name, and `stats`
abbrev pub AsksCounts : Bool → List ℕ → Question → Type 0
AsksCounts true name (questions.Counts (Some asked)) = asked.now ≡ name
AsksCounts false name (questions.Counts None) = ⊤
AsksCounts json name _ = ⊥
