-- What is written of what a run has shown, by the calls that write it.
use Rattle.std.proofs.Common.{◌≡◌, ◌∙◌, ℕ, List, Option, Some, None, Result, Ok, Err, ap₂, subst, sym}
use Rattle.std.specs.Prelude.{IfOk}
use Rattle.snap_core.specs.declared.event.Event.{Event}
use Rattle.snap_core.specs.Calls.{calls_of}
use Rattle.snap_json.specs.Stats.{stats_json}
use Rattle.snap_json.specs.Values.{IsLineOf}
use Rattle.snap_stats.specs.Lines.{stats_text}
use Rattle.snap_stats.specs.Stats.{components_of, stats_of}
use Rattle.snap_stats.specs.declared.stats.ComponentStats.{ComponentStats}
use Rattle.snap_stats.specs.declared.stats.Stats.{Stats}
use Rattle.snap_check.specs.Statuses.{code_of}
use Rattle.snap_check.specs.declared.status.Status.TheVariants.{Recorded}
use Rattle.snap_runs.specs.Stats.{WritesStats}
use Rattle.snap_runs.specs.Telling.{object_name}

-- lines are written where no name is given, and an object where one is

pub lines_written : {V E : Type 0} (items : V → List ℕ) (r : Result V E) (given : Option (List ℕ)) (es : List Event) (s : Stats) (cs : List ComponentStats) → given ≡ None → s ≡ stats_of es → cs ≡ components_of (calls_of es) →
    IfOk r (λ v. items v ≡ stats_text s cs) → IfOk r (λ v. WritesStats given es (items v))
lines_written items (Ok v) given es s cs none e f h = subst (λ (n : Option (List ℕ)). WritesStats n es (items v)) (sym none) (h ∙ ap₂ stats_text e f)
lines_written items (Err x) given es s cs none e f h = tt

pub object_written : {V E : Type 0} (items : V → List ℕ) (r : Result V E) (given : Option (List ℕ)) (name shown : List ℕ) (status : ℕ) (es : List Event) (s : Stats) (cs : List ComponentStats) → given ≡ Some name → shown ≡ object_name name → status ≡ code_of Recorded → s ≡ stats_of es → cs ≡ components_of (calls_of es) →
    IfOk r (λ v. IsLineOf (stats_json shown status s cs) (items v)) → IfOk r (λ v. WritesStats given es (items v))
object_written items (Ok v) given name shown status es s cs some named is e f h =
    subst (λ (n : Option (List ℕ)). WritesStats n es (items v)) (sym some)
    (subst (λ (n : List ℕ). IsLineOf (stats_json n (code_of Recorded) (stats_of es) (components_of (calls_of es))) (items v)) named
    (subst (λ z. IsLineOf (stats_json shown z (stats_of es) (components_of (calls_of es))) (items v)) is
    (subst (λ z. IsLineOf (stats_json shown status z (components_of (calls_of es))) (items v)) e (subst (λ z. IsLineOf (stats_json shown status s z) (items v)) f h))))
object_written items (Err x) given name shown status es s cs some named is e f h = tt
