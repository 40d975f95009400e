-- The exit status of a whole recording.
use Rattle.std.proofs.Common.{◌≡◌, ◌↔◌, ℕ, Bool, true, false, if◌then◌else◌, List, refl, arith}
use Rattle.std.specs.Prelude.{IsTrue}
use Rattle.std.proofs.lemmas.Bool.{false≢true}
use Rattle.snap_core.specs.declared.event.Event.{Event}
use Rattle.snap_core.specs.Calls.{calls_of}
use Rattle.snap_core.specs.declared.writers.Writers.{Writers}
use Rattle.snap_theory.specs.Versions.{IsAtomicBy}
use Rattle.snap_core.specs.Regular.{IsRegular}
use Rattle.snap_follow.specs.Followed.{IsStatusOf}
use Rattle.snap_follow.specs.Windows.{verdict_code}
use Rattle.snap_windows.specs.declared.judge.Verdict.{Verdict}

by_code : (writers : Writers) (events : List Event) (code : ℕ) (r a : Bool) → code ≡ (if a then 0 else if r then 1 else 2) → (IsTrue r ↔ IsRegular (calls_of events)) → (IsTrue a ↔ IsAtomicBy writers (calls_of events)) → IsStatusOf writers events code
by_code writers events code r true is regular atomic = record {
  atomic = (λ e. atomic.0 refl, λ h. is);
  only_regular = (λ e. absurd (omega (arith, e, is)), λ both. absurd (both.1 (atomic.0 refl)));
  neither = (λ e. absurd (omega (arith, e, is)), λ both. absurd (both.1 (atomic.0 refl)));
}
by_code writers events code true false is regular atomic = record {
  atomic = (λ e. absurd (omega (arith, e, is)), λ h. absurd (false≢true (atomic.1 h)));
  only_regular = (λ e. (regular.0 refl, λ h. false≢true (atomic.1 h)), λ both. is);
  neither = (λ e. absurd (omega (arith, e, is)), λ both. absurd (both.0 (regular.0 refl)));
}
by_code writers events code false false is regular atomic = record {
  atomic = (λ e. absurd (omega (arith, e, is)), λ h. absurd (false≢true (atomic.1 h)));
  only_regular = (λ e. absurd (omega (arith, e, is)), λ both. absurd (false≢true (regular.1 both.0)));
  neither = (λ e. (λ h. false≢true (regular.1 h), λ h. false≢true (atomic.1 h)), λ both. is);
}

-- what the verdict on the whole says, its exit status says
pub status_says : (writers : Writers) (events : List Event) (whole : Verdict) (code : ℕ) → code ≡ verdict_code whole → (IsTrue whole.regular ↔ IsRegular (calls_of events)) → (IsTrue whole.atomic ↔ IsAtomicBy writers (calls_of events)) → IsStatusOf writers events code
status_says writers events whole code is regular atomic = by_code writers events code whole.regular whole.atomic is regular atomic
