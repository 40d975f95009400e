-- The numbers of views in a grid.
use Rattle.std.proofs.Common.{◌≡◌, ℕ, suc, ◌+◌, ◌-◌, ◌<◌, ◌≤◌, Bool, true, false, ◌&&◌, ◌||◌, List, [], ◌∷◌, ◌++◌, length, get_or, refl, sym, ap, ◌∙◌, subst, inl, inr, arith}
use Rattle.std.specs.Prelude.{nat_lt}
use Rattle.std.proofs.lemmas.Bool.{cases_lt, cases_eq, false≢true, lt-ltb, ltb-true}
use Rattle.std.proofs.lemmas.List.{length-append, get_or_append_left, get_or-append_right}
use Rattle.std.proofs.Math.Seq.{get_or-append_seam}
use Rattle.snap_core.specs.declared.event.Event.{Event}
use Rattle.snap_core.specs.Bounded.{IsBoundedOrdered}
use Rattle.snap_core.specs.Calls.{Call, calls_of, views_of, shown_number, precedes}
use Rattle.snap_grid.specs.Columns.{AreOrderedAs, GridValue, TellAlike, number, clashes, any_passes, passes, drops}
use Rattle.snap_grid.proofs.Passing.{any_at}
use Rattle.snap_theory.specs.Faults.{exceeds, is_stale, read_fault}
use Rattle.snap_views.specs.Seen.{view_in, end_or_never}
use Rattle.snap_tally.specs.Grids.{IsColumnOf, AreColumnsOf}
use Rattle.snap_tally.specs.inside.Grids.{ShowAll, ArePlaced, ArePlacesOf, IsGridOf}
use Rattle.snap_core.proofs.Ordered.{are_ordered_calls}
use Rattle.snap_index.proofs.IndexedCalls.{precedes_at}
use Rattle.snap_views.proofs.Viewed.{view_there}
use Rattle.snap_theory.proofs.FaultLists.{from_views}
use Rattle.snap_theory.proofs.Components.{fit_views}
use Rattle.snap_theory.proofs.Exceeding.{exceeds_to, exceeds_from}
use Rattle.snap_views.proofs.Shown.{small}
use Rattle.std.specs.List.{list_any}

-- places where views begin and end

pub placed : (es : List Event) → IsBoundedOrdered es → (n : ℕ) (begins ends : List ℕ) → length (views_of (calls_of es)) ≡ n → ArePlaced (calls_of es) n begins ends → ArePlacesOf (calls_of es) n begins ends
placed es kept n begins ends size h = record {
  begun = h.begun;
  ended = h.ended;
  precede = λ a b l m.
      let calls = calls_of es in
      let r = view_in calls a in
      let e = (are_ordered_calls es kept.history).answered r (from_views calls r (view_there es a (omega (arith, l, size)))) in
      precedes_at r (view_in calls b) e.place e.ends
      ∙ ap (λ z. nat_lt z (view_in calls b).begun) (sym (h.end a l ∙ ap end_or_never e.ends)) ∙ ap (nat_lt (number ends a)) (sym (h.begin b m));
}

-- columns of the components that are shown

pub columns_skip : (calls : List Call) (from k : ℕ) (columns : List (List ℕ)) → ((place : ℕ) → place < length (views_of calls) → shown_number (view_in calls place) k ≡ 0) → AreColumnsOf calls from k columns → AreColumnsOf calls from (k + 1) columns
columns_skip calls from k columns h c = record {
  each = λ j l. let old = c.each j l in (old.0, old.1, omega (arith, old.2), old.3);
  all = λ place j b a l t. elim (cases_eq j k) [
    | inl same ↦ absurd (let none = h place b in let here = ap (shown_number (view_in calls place)) same in omega (arith, none, here, t))
    | inr other ↦ c.all place j b a (omega (arith, l, other)) t
  ];
}

pub columns_add : (calls : List Call) (from k : ℕ) (columns : List (List ℕ)) (column : List ℕ) → from ≤ k → IsColumnOf calls k column → AreColumnsOf calls from k columns → AreColumnsOf calls from (k + 1) (columns ++ column ∷ [])
columns_add calls from k columns column low new c = record {
  each = λ j l. elim (cases_lt j (length columns)) [
    | inl b ↦ let old = c.each j b in (old.0, old.1, omega (arith, old.2), subst (IsColumnOf calls old.0) (sym (get_or_append_left columns (column ∷ []) [] j b)) old.3)
    | inr b ↦
        let here : j ≡ length columns = omega (arith, b, l, length-append columns (column ∷ [])) in
        (k, low, omega arith, subst (IsColumnOf calls k) (sym (last j here)) new)
  ];
  all = λ place j b a l t. elim (cases_eq j k) [
    | inl same ↦ (length columns, omega (arith, length-append columns (column ∷ [])), subst (λ z. IsColumnOf calls z (get_or (columns ++ column ∷ []) (length columns) [])) (sym same) (subst (IsColumnOf calls k) (sym (last (length columns) refl)) new))
    | inr other ↦
        let old = c.all place j b a (omega (arith, l, other)) t in
        (old.0, omega (arith, old.1, length-append columns (column ∷ [])), subst (IsColumnOf calls j) (sym (get_or_append_left columns (column ∷ []) [] old.0 old.1)) old.2)
  ];
}
  where
    last : (j : ℕ) → j ≡ length columns → get_or (columns ++ column ∷ []) j [] ≡ column
    last j e = ap (λ z. get_or (columns ++ column ∷ []) z []) e ∙ get_or-append_seam columns column [] []

-- the columns of the components before one and from there on
pub columns_join : (calls : List Call) (from edge to : ℕ) (low high : List (List ℕ)) → from ≤ edge → edge ≤ to → AreColumnsOf calls from edge low → AreColumnsOf calls edge to high → AreColumnsOf calls from to (low ++ high)
columns_join calls from edge to low high l0 l1 a b = record {
  each = λ j l. elim (cases_lt j (length low)) [
    | inl near ↦ let x = a.each j near in (x.0, x.1, omega (arith, x.2, l1), subst (IsColumnOf calls x.0) (sym (get_or_append_left low high [] j near)) x.3)
    | inr far ↦
        let x = b.each (j - length low) (omega (arith, l, far, length-append low high)) in
        (x.0, omega (arith, x.1, l0), x.2, subst (IsColumnOf calls x.0) (sym (get_or-append_right low high (length low) j [] refl (omega (arith, far)))) x.3)
  ];
  all = λ place k p f t s. elim (cases_lt k edge) [
    | inl below ↦
        let x = a.all place k p f below s in
        (x.0, omega (arith, x.1, length-append low high), subst (IsColumnOf calls k) (sym (get_or_append_left low high [] x.0 x.1)) x.2)
    | inr above ↦
        let x = b.all place k p (omega (arith, above)) t s in
        let past : (length low + x.0) - length low ≡ x.0 = omega arith in (
          length low + x.0,
          omega (arith, x.1, length-append low high),
          subst (IsColumnOf calls k) (sym (get_or-append_right low high (length low) (length low + x.0) [] refl (omega arith) ∙ ap (λ z. get_or high z []) past)) x.2,
        )
  ];
}

bool_same : (p q : Bool) → (p ≡ true → q ≡ true) → (q ≡ true → p ≡ true) → p ≡ q
bool_same true q h g = sym (h refl)
bool_same false true h g = g refl
bool_same false false h g = refl

any_index : (p : List ℕ → Bool) (xs : List (List ℕ)) → list_any p xs ≡ true → (j : ℕ) × (j < length xs) × (p (get_or xs j []) ≡ true)
any_index p [] h = absurd (false≢true h)
any_index p (x ∷ xs) h = at (p x) refl (any_index p xs)
  where
    at : (b : Bool) → p x ≡ b → (list_any p xs ≡ true → (j : ℕ) × (j < length xs) × (p (get_or xs j []) ≡ true)) → (j : ℕ) × (j < length (x ∷ xs)) × (p (get_or (x ∷ xs) j []) ≡ true)
    at true t rest = (0, omega arith, t)
    at false t rest = let r = rest (sym (ap (λ b. b || list_any p xs) t) ∙ h) in (suc r.0, omega (arith, r.1), r.2)

pub show_all : (es : List Event) → IsBoundedOrdered es → (columns : List (List ℕ)) → AreColumnsOf (calls_of es) 0 256 columns → ShowAll (calls_of es) columns
unfolding any_passes
show_all es kept columns c = record {
  count = λ j m. (c.each j m).3.count;
  exceed = λ a b m n. bool_same (exceeds (view_in calls a) (view_in calls b)) (any_passes true columns a b) (to a b m n) (from a b m n);
}
  where
    calls : List Call
    calls = calls_of es

    to : (a b : ℕ) → a < length (views_of (calls_of es)) → b < length (views_of (calls_of es)) → exceeds (view_in (calls_of es) a) (view_in (calls_of es) b) ≡ true → any_passes true columns a b ≡ true
    to a b m n h =
        let r = view_in calls a in
        let x = exceeds_to r (view_in calls b) h in
        let fits = fit_views es kept.fit r (from_views calls r (view_there es a m)).there in
        let byte = small r x.component fits (omega (arith, x.more)) in
        let j = c.all a x.component m (omega arith) byte (omega (arith, x.more)) in
        any_at true columns j.0 a b j.1 (lt-ltb _ _ (omega (arith, x.more, j.2.each a m, j.2.each b n)))

    from : (a b : ℕ) → a < length (views_of (calls_of es)) → b < length (views_of (calls_of es)) → any_passes true columns a b ≡ true → exceeds (view_in (calls_of es) a) (view_in (calls_of es) b) ≡ true
    from a b m n h =
        let j = any_index (λ column. passes true (number column a) (number column b)) columns h in
        let k = c.each j.0 j.1 in
        exceeds_from (view_in calls a) (view_in calls b) k.0 (omega (arith, ltb-true _ _ j.2, k.3.each a m, k.3.each b n))

-- columns in which rows compare as they do in these show the same
same_passes : (columns keys : List (List ℕ)) (n a b : ℕ) → ((j : ℕ) → j < length columns → length (get_or columns j []) ≡ n) → AreOrderedAs columns keys → a < n → b < n → any_passes true columns a b ≡ any_passes true keys a b
unfolding any_passes
same_passes columns keys n a b rows h l m = bool_same (any_passes true columns a b) (any_passes true keys a b) to from
  where
    to : any_passes true columns a b ≡ true → any_passes true keys a b ≡ true
    to p =
        let j = any_index (λ column. passes true (number column a) (number column b)) columns p in
        let t = h.all j.0 j.1 in
        any_at true keys t.0 a b t.1 (t.2.order b a (omega (arith, m, rows j.0 j.1)) (omega (arith, l, rows j.0 j.1)) ∙ j.2)

    from : any_passes true keys a b ≡ true → any_passes true columns a b ≡ true
    from p =
        let t = any_index (λ column. passes true (number column a) (number column b)) keys p in
        let j = h.each t.0 t.1 in
        any_at true columns j.0 a b j.1 (sym (j.2.order b a (omega (arith, m, rows j.0 j.1)) (omega (arith, l, rows j.0 j.1))) ∙ t.2)

pub show_keys : (calls : List Call) (columns keys : List (List ℕ)) → ShowAll calls columns → AreOrderedAs columns keys → ShowAll calls keys
show_keys calls columns keys shown h = record {
  count = λ t m. let j = h.each t m in j.2.count ∙ shown.count j.0 j.1;
  exceed = λ a b l m. shown.exceed a b l m ∙ same_passes columns keys (length (views_of calls)) a b shown.count h l m;
}

pub show_alike : (calls : List Call) (columns keys : List (List ℕ)) → ShowAll calls columns → TellAlike columns keys → ShowAll calls keys
show_alike calls columns keys shown h = record {
  count = h.rows (length (views_of calls)) shown.count;
  exceed = λ a b l m. shown.exceed a b l m ∙ sym (h.same a b);
}

-- the grid of columns and places

pub any_less : (columns : List (List ℕ)) (a b : ℕ) → any_passes false columns a b ≡ any_passes true columns b a
unfolding any_passes
any_less columns a b = refl

pub is_grid : (es : List Event) → IsBoundedOrdered es → (g : GridValue) (columns : List (List ℕ)) (begins ends : List ℕ) → g ≡ record { columns = columns; begins = begins; ends = ends } → ShowAll (calls_of es) columns →
    ArePlacesOf (calls_of es) (length (views_of (calls_of es))) begins ends → IsGridOf es g
unfolding clashes drops is_stale read_fault
is_grid es kept g columns begins ends e shown places = subst (IsGridOf es) (sym e) (record {
  kept = kept;
  rows = places.begun;
  clash = λ a b l m.
      let calls = calls_of es in
      sym (
      ap (λ z. z && (precedes (view_in calls a) (view_in calls b) || exceeds (view_in calls b) (view_in calls a))) (shown.exceed a b l m)
      ∙ ap (λ z. any_passes true columns a b && (z || exceeds (view_in calls b) (view_in calls a))) (places.precede a b l m)
      ∙ ap (λ z. any_passes true columns a b && (nat_lt (number ends a) (number begins b) || z)) (shown.exceed b a m l ∙ sym (any_less columns a b))
      );
  drop = λ a b l m.
      let calls = calls_of es in
      sym (
      ap (λ z. z && precedes (view_in calls a) (view_in calls b)) (shown.exceed a b l m)
      ∙ ap (λ z. any_passes true columns a b && z) (places.precede a b l m)
      );
})
