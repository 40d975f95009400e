-- How many components a view lists, and how many views a history has.
use Rattle.std.proofs.Common.{◌≡◌, ℕ, suc, ◌+◌, ◌≤◌, Bool, true, false, cond, List, [], ◌∷◌, length, arith}
use Rattle.std.specs.Prelude.{nat_lt, filter}
use Rattle.std.specs.List.{All}
use Rattle.std.proofs.lemmas.List.Elements.{All-head, All-tail}
use Rattle.std.proofs.lemmas.Bool.{and_parts, ltb-true}
use Rattle.snap_core.specs.declared.entry.Entry.{Entry}
use Rattle.snap_core.specs.declared.event.Event.{Event}
use Rattle.snap_core.specs.declared.event.Event.TheVariants.{BeginUpdate, BeginView, EndUpdate, EndView}
use Rattle.snap_core.specs.Entries.{HasByteComponent, rises}
use Rattle.snap_core.specs.Bounded.{IsBoundedOrdered}
use Rattle.snap_core.specs.Events.{event_cap}
use Rattle.snap_core.specs.Calls.{calls_of, calls_from, is_view, views_of}

-- a view lists no more than 256 components

rising_short : (d : Entry) (es : List Entry) (n : ℕ) → rises (d ∷ es) ≡ true → All HasByteComponent (d ∷ es) → n ≤ d.component → length (d ∷ es) + n ≤ 256
rising_short d [] n r b l = omega (arith, All-head HasByteComponent d [] b)
rising_short d (e ∷ es) n r b l =
    let p = and_parts (nat_lt d.component e.component) (rises (e ∷ es)) r in
    omega (arith, rising_short e es (n + 1) p.1 (All-tail HasByteComponent d (e ∷ es) b) (omega (arith, ltb-true _ _ p.0)))

pub rising_few : (es : List Entry) → rises es ≡ true → All HasByteComponent es → length es ≤ 256
rising_few [] r b = omega arith
rising_few (d ∷ es) r b = omega (arith, rising_short d es 0 r b (omega arith))

-- a filter takes no more than there is
pub filter_short : {X : Type 0} (p : X → Bool) (xs : List X) → length (filter p xs) ≤ length xs
filter_short p [] = omega arith
filter_short p (x ∷ xs) = shorter (p x) (filter_short p xs)
  where
    shorter : (b : Bool) → length (filter p xs) ≤ length xs → length (cond b (x ∷ filter p xs) (filter p xs)) ≤ suc (length xs)
    shorter true h = omega (arith, h)
    shorter false h = omega (arith, h)

-- how many views a history has
pub few_views : (es : List Event) → IsBoundedOrdered es → length (views_of (calls_of es)) ≤ event_cap
unfolding views_of calls_of
few_views es k = omega (arith, filter_short is_view (calls_of es), few_calls 0 0 es, k.short)
  where
    few_calls : (n place : ℕ) (es : List Event) → length (calls_from n place es) ≤ length es
    few_calls n place [] = omega arith
    few_calls n place (BeginUpdate p e ∷ es) = omega (arith, few_calls (suc n) (suc place) es)
    few_calls n place (BeginView p ∷ es) = omega (arith, few_calls (suc n) (suc place) es)
    few_calls n place (EndUpdate p ∷ es) = omega (arith, few_calls n (suc place) es)
    few_calls n place (EndView p s ∷ es) = omega (arith, few_calls n (suc place) es)
