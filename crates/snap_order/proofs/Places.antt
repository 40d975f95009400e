-- The completed views by their places, as an index gives them.
use Rattle.std.proofs.Common.{◌≡◌, ◌<◌, ◌+◌, ◌&&◌, ◌||◌, ℕ, Bool, true, false, cond, List, [], ◌∷◌, length, get_or, slice_get, Some, None, refl, sym, ap, ◌∙◌, inl, inr, arith}
use Rattle.std.specs.Prelude.{count_by, filter}
use Rattle.std.specs.List.{list_any}
use Rattle.std.specs.Option.{option_map, option_and_then}
use Rattle.std.proofs.lemmas.Bool.{cases_lt}
use Rattle.std.proofs.lemmas.List.{get_or_past}
use Rattle.std.proofs.lemmas.Option.{slice_get-get_or, slice_get_past}
use Rattle.snap_core.specs.declared.entry.Entry.{Entry}
use Rattle.snap_core.specs.Calls.{Call, call_numbered, is_view, views_of, nobody}
use Rattle.snap_core.proofs.Lists.{count-cons}
use Rattle.snap_index.specs.IndexedCalls.{entries_shown, answer_of}
use Rattle.snap_index.proofs.Known.{call_within}
use Rattle.snap_views.specs.Seen.{view_in}

pub found : {X Y : Type 0} (f : X → Y) (xs : List X) (place : ℕ) (d : X) (y : Y) → place < length xs → Some y ≡ option_map f (slice_get xs place) → y ≡ f (get_or xs place d)
found f xs place d y l h = let e : Some y ≡ Some (f (get_or xs place d)) = h ∙ ap (option_map f) (slice_get-get_or xs place d l) in cc

pub not_lost : {X Y : Type 0} (f : X → Y) (xs : List X) (place : ℕ) (d : X) → place < length xs → None ≡ option_map f (slice_get xs place) → ⊥
not_lost f xs place d l h = let e : None ≡ Some (f (get_or xs place d)) = h ∙ ap (option_map f) (slice_get-get_or xs place d l) in cc

-- a count over the completed views
pub count_views : (calls : List Call) (p : Call → Bool) → count_by p (views_of calls) ≡ count_by (λ s. is_view s && p s) calls
unfolding views_of
count_views calls p = go calls
  where
    go : (xs : List Call) → count_by p (filter is_view xs) ≡ count_by (λ s. is_view s && p s) xs
    go [] = refl
    go (x ∷ xs) = at (is_view x) refl (go xs)
      where
        at : (a : Bool) → is_view x ≡ a → count_by p (filter is_view xs) ≡ count_by (λ s. is_view s && p s) xs → count_by p (cond (is_view x) (x ∷ filter is_view xs) (filter is_view xs)) ≡ count_by (λ s. is_view s && p s) (x ∷ xs)
        at true e rest = ap (λ z. count_by p (cond z (x ∷ filter is_view xs) (filter is_view xs))) e ∙ count-cons p x (filter is_view xs) ∙ ap (λ z. cond (p x) 1 0 + z) rest ∙ ap (λ z. cond (z && p x) 1 0 + count_by (λ s. is_view s && p s) xs) (sym e) ∙ sym (count-cons (λ s. is_view s && p s) x xs)
        at false e rest =
            let none : cond (is_view x && p x) 1 0 ≡ 0 = ap {B = ℕ} (λ z. cond (z && p x) 1 0) e in
            let more = count-cons (λ s. is_view s && p s) x xs in
            let same : count_by p (cond (is_view x) (x ∷ filter is_view xs) (filter is_view xs)) ≡ count_by p (filter is_view xs) = ap (λ z. count_by p (cond z (x ∷ filter is_view xs) (filter is_view xs))) e in
            omega (arith, none, more, same, rest)

-- a test of some completed view
pub any_views : (calls : List Call) (p : Call → Bool) → list_any p (views_of calls) ≡ list_any (λ s. is_view s && p s) calls
unfolding views_of
any_views calls p = go calls
  where
    go : (xs : List Call) → list_any p (filter is_view xs) ≡ list_any (λ s. is_view s && p s) xs
    go [] = refl
    go (x ∷ xs) = at (is_view x) refl (go xs)
      where
        at : (a : Bool) → is_view x ≡ a → list_any p (filter is_view xs) ≡ list_any (λ s. is_view s && p s) xs → list_any p (cond (is_view x) (x ∷ filter is_view xs) (filter is_view xs)) ≡ list_any (λ s. is_view s && p s) (x ∷ xs)
        at true e rest = ap (λ z. list_any p (cond z (x ∷ filter is_view xs) (filter is_view xs))) e ∙ ap (λ z. p x || z) rest ∙ ap (λ z. (z && p x) || list_any (λ s. is_view s && p s) xs) (sym e)
        at false e rest = ap (λ z. list_any p (cond z (x ∷ filter is_view xs) (filter is_view xs))) e ∙ rest ∙ ap (λ z. (z && p x) || list_any (λ s. is_view s && p s) xs) (sym e)

-- what an index answers at a place
pub read_view : (calls : List Call) (place : ℕ) (es : List Entry) → Some es ≡ option_map entries_shown (slice_get (views_of calls) place) → es ≡ entries_shown (view_in calls place)
read_view calls place es h = elim (cases_lt place (length (views_of calls))) [
  | inl within ↦ found entries_shown (views_of calls) place nobody es within h
  | inr past ↦ absurd (let none : Some es ≡ None = h ∙ ap (option_map entries_shown) (slice_get_past (views_of calls) place past) in cc)
]

-- beyond the views it answers nothing
pub no_view : (calls : List Call) (place : ℕ) → None ≡ option_map entries_shown (slice_get (views_of calls) place) → [] ≡ entries_shown (view_in calls place)
no_view calls place h = elim (cases_lt place (length (views_of calls))) [
  | inl within ↦ absurd (not_lost entries_shown (views_of calls) place nobody within h)
  | inr past ↦ sym (ap entries_shown (get_or_past (views_of calls) place nobody past))
]

-- what it answers of a call
pub answer_at : (calls : List Call) (number : ℕ) → number < length calls → option_and_then answer_of (slice_get calls number) ≡ answer_of (call_numbered calls number)
answer_at calls number l = ap (option_and_then answer_of) (call_within calls number l)
