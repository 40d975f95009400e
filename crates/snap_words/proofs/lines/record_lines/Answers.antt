use Rattle.std.proofs.Common.{Some, ap, arith, codes, refl, sym, ◌∷◌, []}
use Rattle.std.proofs.lemmas.Bool.{false≢true}
use Rattle.clap.proofs.OnLiterals.{clap_on_literals}
use Rattle.snap_words.proofs.Meanings.{greatest_events, means, small_events, usual_events, usual_record}
use Rattle.snap_words.proofs.Numbers.{five_text, round_more_text, rounds_text, zero_text}
use Rattle.snap_core.specs.Limits.{event_limit}
use Rattle.snap_words.specs.Jobs.{AsksTooManyRounds}
use Rattle.snap_words.proofs.lines.record_lines.Goals as goal

pub returns-clause-alone : goal.returns-clause-alone
unfolding clap_on_literals
returns-clause-alone c = λ name. usual_record _ _ _ _ _ refl refl (usual_events _ refl) (omega arith, omega arith) (omega arith) (λ judged. absurd (false≢true judged)) refl refl refl refl (sym zero_text) refl refl refl refl

pub returns-clause-judged : goal.returns-clause-judged
unfolding clap_on_literals
returns-clause-judged c = λ name. usual_record _ _ _ _ _ refl refl (usual_events _ refl) (omega arith, omega arith) (omega arith) (λ _. refl) refl refl (sym five_text) refl (sym zero_text) refl refl refl refl

pub returns-clause-scanned : goal.returns-clause-scanned
unfolding clap_on_literals
returns-clause-scanned c = λ name. usual_record _ _ _ _ _ refl refl (usual_events _ refl) (omega arith, omega arith) (omega arith) (λ judged. absurd (false≢true judged)) refl refl refl refl (sym zero_text) refl refl refl refl

pub returns-clause-stamped : goal.returns-clause-stamped
unfolding clap_on_literals
returns-clause-stamped c = λ name. usual_record _ _ _ _ _ refl refl (usual_events _ refl) (omega arith, omega arith) (omega arith) (λ judged. absurd (false≢true judged)) refl refl refl refl (sym zero_text) refl refl refl refl

pub returns-clause-seeded : goal.returns-clause-seeded
unfolding clap_on_literals
returns-clause-seeded c = λ name. usual_record _ _ _ _ _ refl refl (usual_events _ refl) (omega arith, omega arith) (omega arith) (λ judged. absurd (false≢true judged)) refl refl refl refl (sym five_text) refl refl refl refl

pub returns-clause-events : goal.returns-clause-events
unfolding clap_on_literals
returns-clause-events c = λ name. usual_record _ _ _ _ _ refl refl (greatest_events _ refl) (omega arith, omega arith) (omega arith) (λ judged. absurd (false≢true judged)) refl refl (sym rounds_text) refl (sym zero_text) refl refl refl refl

pub returns-clause-few : goal.returns-clause-few
unfolding clap_on_literals
returns-clause-few c = λ name. usual_record _ _ _ _ _ refl refl (small_events _ refl) (omega arith, omega arith) (omega arith) (λ judged. absurd (false≢true judged)) refl refl refl refl (sym zero_text) refl refl refl refl

pub returns-clause-overfull : goal.returns-clause-overfull
unfolding clap_on_literals
returns-clause-overfull c = λ name. means (name ∷ codes "record" ∷ codes "--rounds" ∷ codes "2049" ∷ []) (codes "record") AsksTooManyRounds [] refl refl (record {
  events = event_limit;
  rounds = 2049;
  limit = usual_events _ refl;
  rounds_are = ap Some (sym round_more_text);
  is_number = omega arith;
  too_many = omega arith;
}) refl
