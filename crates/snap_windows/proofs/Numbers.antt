-- What a view shows of later updates than what was left.
use Rattle.std.proofs.Common.{◌≡◌, ℕ, ◌<◌, ◌≤◌, Bool, true, false, cond, List, [], ◌∷◌, ◌++◌, append-nil, map, Option, None, refl, ap, ◌∙◌, arith, nat_lt}
use Rattle.std.specs.Prelude.{filter}
use Rattle.std.proofs.lemmas.Bool.{ltb-true, lt-ltb, ne_eqb, and_parts, and_from, false_from_ne_true}
use Rattle.std.proofs.lemmas.List.{map-append}
use Rattle.std.proofs.lemmas.List.Elements.{filter-append}
use Rattle.snap_core.specs.declared.entry.Entry.{Entry}
use Rattle.snap_core.specs.Entries.{number_in, rises, has_zero, view_refusal, AreEntries}
use Rattle.snap_core.proofs.Rising.{refusal_by}
use Rattle.snap_theory.specs.Renumbered.{renumbered_entry, is_later, renumbered_entries}

is_later_then : (left : ℕ → Option Entry) (e : Entry) → 0 < (renumbered_entry left e).number → is_later left e ≡ true
is_later_then left e h = lt-ltb (number_in (left e.component)) e.number (omega (arith, h))

not_later_then : (left : ℕ → Option Entry) (e : Entry) → (renumbered_entry left e).number ≤ 0 → is_later left e ≡ false
not_later_then left e h = false_from_ne_true _ (λ t. omega (arith, h, ltb-true (number_in (left e.component)) e.number t))

renumbered_one : (left : ℕ → Option Entry) (e : Entry) (b : Bool) → map (renumbered_entry left) (cond b (e ∷ []) []) ≡ cond b (renumbered_entry left e ∷ []) []
renumbered_one left e true = refl
renumbered_one left e false = refl

renumbered_push : (left : ℕ → Option Entry) (es : List Entry) (e : Entry) → renumbered_entries left (es ++ e ∷ []) ≡ renumbered_entries left es ++ cond (is_later left e) (renumbered_entry left e ∷ []) []
renumbered_push left es e =
    ap (map (renumbered_entry left)) (filter-append (is_later left) es (e ∷ []))
    ∙ map-append (renumbered_entry left) (filter (is_later left) es) (cond (is_later left e) (e ∷ []) [])
    ∙ ap (λ z. renumbered_entries left es ++ z) (renumbered_one left e (is_later left e))

pub pushed_later : (left : ℕ → Option Entry) (es : List Entry) (e : Entry) → 0 < (renumbered_entry left e).number → renumbered_entries left (es ++ e ∷ []) ≡ renumbered_entries left es ++ renumbered_entry left e ∷ []
pushed_later left es e h = renumbered_push left es e ∙ ap (λ b. renumbered_entries left es ++ cond b (renumbered_entry left e ∷ []) []) (is_later_then left e h)

pub pushed_other : (left : ℕ → Option Entry) (es : List Entry) (e : Entry) → (renumbered_entry left e).number ≤ 0 → renumbered_entries left (es ++ e ∷ []) ≡ renumbered_entries left es
pushed_other left es e h = renumbered_push left es e ∙ ap (λ b. renumbered_entries left es ++ cond b (renumbered_entry left e ∷ []) []) (not_later_then left e h) ∙ append-nil (renumbered_entries left es)

-- entries that are left out leave a list that rises

abbrev Above : ℕ → List Entry → Type 0
Above k [] = Unit {0}
Above k (e ∷ es) = k < e.component

above_later : (left : ℕ → Option Entry) (k : ℕ) (es : List Entry) → Above k es → rises es ≡ true → Above k (renumbered_entries left es)
above_later left k [] h r = tt
above_later left k (e ∷ es) h r = go (is_later left e) (above_later left k es (lower es r) (tail es r))
  where
    lower : (es : List Entry) → rises (e ∷ es) ≡ true → Above k es
    lower [] r = tt
    lower (d ∷ es) r = omega (arith, h, ltb-true e.component d.component (and_parts (nat_lt e.component d.component) (rises (d ∷ es)) r).0)

    tail : (es : List Entry) → rises (e ∷ es) ≡ true → rises es ≡ true
    tail [] r = refl
    tail (d ∷ es) r = (and_parts (nat_lt e.component d.component) (rises (d ∷ es)) r).1

    go : (b : Bool) → Above k (renumbered_entries left es) → Above k (map (renumbered_entry left) (cond b (e ∷ filter (is_later left) es) (filter (is_later left) es)))
    go true a = h
    go false a = a

above_rises : (e : Entry) (es : List Entry) → Above e.component es → rises es ≡ true → rises (e ∷ es) ≡ true
above_rises e [] a r = refl
above_rises e (d ∷ es) a r = and_from (nat_lt e.component d.component) (rises (d ∷ es)) (lt-ltb e.component d.component a) r

later_rises : (left : ℕ → Option Entry) (es : List Entry) → rises es ≡ true → rises (renumbered_entries left es) ≡ true
later_rises left [] r = refl
later_rises left (e ∷ es) r = go (is_later left e) (later_rises left es (tail es r).0)
  where
    tail : (es : List Entry) → rises (e ∷ es) ≡ true → (rises es ≡ true) × Above e.component es
    tail [] r = (refl, tt)
    tail (d ∷ es) r = let p = and_parts (nat_lt e.component d.component) (rises (d ∷ es)) r in (p.1, ltb-true e.component d.component p.0)

    go : (b : Bool) → rises (renumbered_entries left es) ≡ true → rises (map (renumbered_entry left) (cond b (e ∷ filter (is_later left) es) (filter (is_later left) es))) ≡ true
    go true rest = above_rises (renumbered_entry left e) (renumbered_entries left es) (above_later left e.component es (tail es r).1 (tail es r).0) rest
    go false rest = rest

later_positive : (left : ℕ → Option Entry) (es : List Entry) → has_zero (renumbered_entries left es) ≡ false
later_positive left [] = refl
later_positive left (e ∷ es) = go (is_later left e) refl (later_positive left es)
  where
    go : (b : Bool) → is_later left e ≡ b → has_zero (renumbered_entries left es) ≡ false → has_zero (map (renumbered_entry left) (cond b (e ∷ filter (is_later left) es) (filter (is_later left) es))) ≡ false
    go true t rest = rw (ne_eqb (renumbered_entry left e).number 0 (λ z. omega (arith, z, ltb-true (number_in (left e.component)) e.number t))) rest
    go false t rest = rest

-- so they are a view
pub view_accepted : (left : ℕ → Option Entry) (es : List Entry) → AreEntries es → view_refusal (renumbered_entries left es) ≡ None
view_accepted left es h = refusal_by (renumbered_entries left es) true false (later_rises left es h.rising) (later_positive left es)
