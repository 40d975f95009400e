-- Regular histories, defined by the places of their events.
use Rattle.std.specs.Prelude.{◌≡◌, ℕ, ◌<◌, List, Some}
use mathlib.Core.Option.{some}
use lib.ListN.{get_elem?}
use Rattle.snap_core.specs.declared.entry.Entry.{Entry}
use Rattle.snap_core.specs.declared.event.Event.{Event}
use Rattle.snap_core.specs.declared.event.Event.TheVariants.{BeginUpdate, BeginView, EndUpdate, EndView}
use Rattle.snap_core.specs.Entries.{entry_of, number_in}
use Rattle.snap_core.specs.Events.{process_of}

abbrev pub At : List Event → ℕ → Event → Type 0
At es i e = get_elem? es i ≡ some e

-- process p has no event between its events at i and at j
pub record IsSpan (es : List Event) (p i j : ℕ) : Type 0 where
  pub order : i < j
  pub quiet : (l : ℕ) (e : Event) → i < l → l < j → At es l e → process_of e ≡ p → ⊥

-- No update with a larger number ended before a view began. What a view shows is an update that began before the view ended.
pub record IsRegularByPlaces (es : List Event) : Type 0 where
  pub fresh : (i j p : ℕ) (shown : List Entry) → At es i (BeginView p) → At es j (EndView p shown) → IsSpan es p i j
      → (f t q : ℕ) (e : Entry) → At es f (BeginUpdate q e) → At es t (EndUpdate q) → IsSpan es q f t → number_in (entry_of e.component shown) < e.number → t < i → ⊥
  pub real : (i j p : ℕ) (shown : List Entry) → At es i (BeginView p) → At es j (EndView p shown) → IsSpan es p i j
      → (k : ℕ) (e : Entry) → entry_of k shown ≡ Some e → (f : ℕ) × (q : ℕ) × At es f (BeginUpdate q e) × (f < j)
