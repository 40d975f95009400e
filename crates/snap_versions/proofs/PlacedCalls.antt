-- The calls of well-formed events that stay, with ranks as numbers, have places of their own.
use Rattle.std.proofs.Common.{◌≢◌, ◌≤◌, ℕ, suc, List, [], ◌∷◌, arith}
use Rattle.snap_core.specs.declared.event.Event.{Event}
use Rattle.snap_core.specs.declared.event.Event.TheVariants.{BeginUpdate, BeginView, EndUpdate, EndView}
use Rattle.snap_core.specs.Calls.{Call, calls_from, calls_of}
use Rattle.snap_core.specs.Events.{IsWellFormed}
use Rattle.snap_core.proofs.Begun.{begun}
use Rattle.snap_core.proofs.Lists.{AllPairs-from_Pairs, In, Pairs, Pairs-filter}
use Rattle.snap_core.proofs.Members.{Pairs-map}
use Rattle.snap_theory.proofs.Timed.{AreTimed, numbered_events_timed}
use Rattle.snap_theory.specs.Versioned.{counted, kept_calls, numbered_calls, stays_as}
use Rattle.snap_versions.specs.Placed.{ArePlaced}

-- each call of a list begins at or after the place of its first event
no_earlier : (number place : ℕ) (es : List Event) (c : Call) → In c (calls_from number place es) → place ≤ c.begun
no_earlier number place es c i = let b = begun number place es c i in omega (arith, b.at_place)

begins_apart : (number place : ℕ) (es : List Event) → Pairs (λ a b. a.begun ≢ b.begun) (calls_from number place es)
begins_apart number place [] = tt
begins_apart number place (BeginUpdate p e ∷ es) = ((λ b i same. let after = no_earlier (suc number) (suc place) es b i in omega (arith, after, same)), begins_apart (suc number) (suc place) es)
begins_apart number place (BeginView p ∷ es) = ((λ b i same. let after = no_earlier (suc number) (suc place) es b i in omega (arith, after, same)), begins_apart (suc number) (suc place) es)
begins_apart number place (EndUpdate p ∷ es) = begins_apart number (suc place) es
begins_apart number place (EndView p s ∷ es) = begins_apart number (suc place) es

pub numbered_are_placed : (es : List Event) → IsWellFormed es → ArePlaced (numbered_calls (calls_of es))
unfolding calls_of
numbered_are_placed es wf =
    let t : AreTimed (numbered_calls (calls_of es)) = numbered_events_timed es wf in
    record {
      begins = AllPairs-from_Pairs _ _ (Pairs-map (λ a b. a.begun ≢ b.begun) (counted (kept_calls (calls_of es))) (kept_calls (calls_of es)) (Pairs-filter (λ a b. a.begun ≢ b.begun) (λ c. stays_as (calls_of es) c.ended c.operation) (calls_of es) (begins_apart 0 0 es)));
      ends = t.ends_apart;
      apart = t.apart;
      rises = t.made.rises;
      unanswered = t.unanswered;
    }
