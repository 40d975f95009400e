-- The entries of a view that are left where its numbers are taken component by component.
use Rattle.std.proofs.Common.{◌≡◌, ◌≢◌, ℕ, ◌+◌, List, [], ◌∷◌, refl, sym, ap, ◌∙◌, inl, arith}
use Rattle.snap_core.specs.declared.entry.Entry.{Entry}
use Rattle.snap_core.specs.Entries.{AreEntries, number_in}
use Rattle.snap_conditions.specs.inside.ShownAndNext.{AreFrom, StartsFrom}
use Rattle.snap_theory.proofs.Entries.{AreSorted, sorted_tail, above, unlisted_below, listed_first, listed_behind}
use Rattle.snap_views.specs.Rows.{number_among}

-- from the first component on all are left
pub all_left : (es : List Entry) → AreEntries es → AreFrom 0 es es
all_left es h = record { rising = h.rising; starts = starts es; numbers = λ j l. refl }
  where
    starts : (es : List Entry) → StartsFrom 0 es
    starts [] = tt
    starts (e ∷ es) = omega arith

-- where the first of them lists the component

pub first_number : (k : ℕ) (all es : List Entry) (e : Entry) → AreFrom k all (e ∷ es) → e.component ≡ k → e.number ≡ number_among all k
first_number k all es e a same = ap number_in (sym (listed_first e es)) ∙ ap (number_among (e ∷ es)) same ∙ a.numbers k (omega arith)

pub behind_first : (k : ℕ) (all es : List Entry) (e : Entry) → AreFrom k all (e ∷ es) → e.component ≡ k → AreFrom (k + 1) all es
behind_first k all es e a same = record {
  rising = (sorted_tail e es s).rising;
  starts = starts es s;
  numbers = λ j l. ap number_in (sym (listed_behind j e es (λ q. omega (arith, same, l, q)))) ∙ a.numbers j (omega (arith, l));
}
  where
    s : AreSorted (e ∷ es)
    s = record { rising = a.rising }

    starts : (ds : List Entry) → AreSorted (e ∷ ds) → StartsFrom (k + 1) ds
    starts [] s = tt
    starts (d ∷ ds) s = omega (arith, above e (d ∷ ds) s d (inl refl), same)

-- where it does not

pub later_number : (k : ℕ) (all es : List Entry) (e : Entry) → AreFrom k all (e ∷ es) → e.component ≢ k → 0 ≡ number_among all k
later_number k all es e a other = ap number_in (sym (unlisted_below k e es (record { rising = a.rising }) (omega (arith, a.starts, other)))) ∙ a.numbers k (omega arith)

pub later_left : (k : ℕ) (all es : List Entry) (e : Entry) → AreFrom k all (e ∷ es) → e.component ≢ k → AreFrom (k + 1) all (e ∷ es)
later_left k all es e a other = record { rising = a.rising; starts = omega (arith, a.starts, other); numbers = λ j l. a.numbers j (omega (arith, l)) }
