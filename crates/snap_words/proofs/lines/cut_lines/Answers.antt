use Rattle.std.proofs.Common.{◌≡◌, ◌≤◌, ◌∷◌, [], List, Some, None, ap, arith, codes, false, inl, inr, length, refl, sym, true}
use Rattle.std.specs.Fmt.{digits}
use Rattle.clap.specs.Words.{Text}
use Rattle.clap.proofs.OnLiterals.{clap_on_literals}
use Rattle.snap_words.specs.Cutting.{CutsUnheeding}
use Rattle.snap_words.specs.Explaining.{CutsOneWriter}
use Rattle.snap_words.specs.Limits.{many_of, usual_many}
use Rattle.snap_words.proofs.Cutting.{asks_cut_usual, cut_of}
use Rattle.snap_words.proofs.Meanings.{means}
use Rattle.snap_words.proofs.Numbers.{one_text}
use Rattle.snap_words.proofs.lines.cut_lines.Goals as goal

-- one file or none is named; this is shown apart, where the parser is not computed
no_file : length {A = Text} [] ≤ 1
no_file = omega arith

abbrev named : List Text
named = codes "a.csv" ∷ []

one_file : length named ≤ 1
one_file = let one : length named ≡ 1 = refl in omega (arith, one)

pub returns-clause-alone : goal.returns-clause-alone
unfolding clap_on_literals digits
returns-clause-alone c = λ name. cut_of {writers = None} (name ∷ codes "check" ∷ codes "--cut" ∷ []) usual_many false [] tt refl no_file refl refl refl refl

pub returns-clause-writers : goal.returns-clause-writers
unfolding clap_on_literals digits
returns-clause-writers c = λ name. cut_of {writers = Some (codes "many")} (name ∷ codes "check" ∷ codes "--cut" ∷ codes "--writers" ∷ codes "many" ∷ []) usual_many false [] refl refl no_file refl refl refl refl

pub returns-clause-events : goal.returns-clause-events
unfolding clap_on_literals digits
returns-clause-events c = λ name fits. cut_of {writers = None} (name ∷ codes "check" ∷ codes "--cut" ∷ codes "--events" ∷ codes "500" ∷ []) (many_of 500 fits) false [] tt refl no_file refl refl refl refl

pub returns-clause-quiet : goal.returns-clause-quiet
unfolding clap_on_literals digits
returns-clause-quiet c = λ name. cut_of {writers = None} (name ∷ codes "check" ∷ codes "--cut" ∷ codes "--quiet" ∷ codes "a.csv" ∷ []) usual_many true named tt refl one_file refl refl refl refl

pub returns-clause-workers : goal.returns-clause-workers
unfolding clap_on_literals
returns-clause-workers c = λ name. means (name ∷ codes "check" ∷ codes "--cut" ∷ codes "--workers" ∷ codes "4" ∷ []) (codes "check") CutsUnheeding [] refl refl (record { cut_is = refl; unheeded = inr (inl refl) }) refl

pub returns-clause-one_writer : goal.returns-clause-one_writer
unfolding clap_on_literals
returns-clause-one_writer c = λ name. means (name ∷ codes "check" ∷ codes "--cut" ∷ codes "--writers" ∷ codes "one" ∷ []) (codes "check") CutsUnheeding [] refl refl (record { cut_is = refl; unheeded = inl refl }) refl

pub returns-clause-explain : goal.returns-clause-explain
unfolding clap_on_literals
returns-clause-explain c = λ name. means _ _ _ _ refl refl (record { limit_is = asks_cut_usual _ refl refl; faults_fit = (omega arith, omega arith); one_drawn = λ _. refl; cut_is = refl; drawn_is = refl; whole_is = refl; faults_are = ap Some (sym one_text) }) refl

pub returns-clause-explain_one : goal.returns-clause-explain_one
unfolding clap_on_literals
returns-clause-explain_one c = λ name. means (name ∷ codes "explain" ∷ codes "--cut" ∷ codes "--writers" ∷ codes "one" ∷ []) (codes "explain") CutsOneWriter [] refl refl (record { cut_is = refl; one_said = refl }) refl
