-- The versions that entries and views show.
use Rattle.std.proofs.Common.{◌≡◌, ◌<◌, ◌+◌, ◌++◌, ◌∷◌, [], inl, inr, ℕ, Bool, true, false, cond, not, ◌&&◌, ◌||◌, List, length, take, get_or, Some, refl, sym, ap, ◌∙◌, arith}
use Rattle.std.specs.Prelude.{◌==◌}
use Rattle.std.specs.List.{list_any}
use Rattle.std.proofs.lemmas.Bool.{cases_eq, eq-eqb, ne_eqb}
use Rattle.std.proofs.lemmas.List.{take_more}
use Rattle.std.proofs.lemmas.List.Folds.{list_any-append}
use Rattle.snap_core.specs.declared.entry.Entry.{Entry}
use Rattle.snap_core.specs.Entries.{AreEntries, entry_of}
use Rattle.snap_core.specs.Calls.{Call}
use Rattle.snap_theory.specs.Versioned.{is_version, shows_version}
use Rattle.snap_theory.proofs.Entries.{AreSorted, above, listed_behind, sorted, sorted_tail, unlisted}
use Rattle.snap_versions.specs.inside.Unshown.{is_shown, version}

abbrev pub is_version_of : ℕ → ℕ → Entry → Bool
is_version_of k n e = (e.component == k) && (e.number == n)

-- some entry has version n of component k
abbrev pub lists_version : List Entry → ℕ → ℕ → Bool
lists_version es k n = list_any (is_version_of k n) es

or_false : (b : Bool) → (b || false) ≡ b
or_false true = refl
or_false false = refl

-- one test more
any_more : {X : Type 0} (p : X → Bool) (xs : List X) (x : X) → list_any p (xs ++ x ∷ []) ≡ (list_any p xs || p x)
any_more p xs x = list_any-append p xs (x ∷ []) ∙ ap (λ b. list_any p xs || b) (or_false (p x))

-- what is left after one more is left out
less : (a s t : Bool) → ((a && not s) && not t) ≡ (a && not (s || t))
less true true t = refl
less true false t = refl
less false s t = refl

pub entry_left_out : (es : List Entry) (i : ℕ) (e : Entry) (k n : ℕ) (old before after : Bool) → i < length es → e ≡ get_or es i e → before ≡ (old && not (lists_version (take i es) k n)) → after ≡ (before && not (is_version_of k n e)) → after ≡ (old && not (lists_version (take (i + 1) es) k n))
entry_left_out es i e k n old before after l is h step =
    step ∙ ap (λ b. b && not (is_version_of k n e)) h ∙ less old (lists_version (take i es) k n) (is_version_of k n e)
    ∙ ap (λ b. old && not b) (sym (any_more (is_version_of k n) (take i es) e) ∙ ap (λ z. lists_version (take i es ++ z ∷ []) k n) is ∙ sym (ap (λ z. lists_version z k n) (take_more es i e l)))

-- entries that rise by component show a version if they list it
pub shown_listed : (es : List Entry) → AreSorted es → (k n : ℕ) → lists_version es k n ≡ is_version (version k n) (entry_of k es)
shown_listed [] s k n = refl
shown_listed (e ∷ es) s k n = elim (cases_eq e.component k) [
  | inl q ↦
      ap (λ b. (b && (e.number == n)) || lists_version es k n) (eq-eqb e.component k q)
      ∙ ap (λ b. (e.number == n) || b) (shown_listed es (sorted_tail e es s) k n ∙ ap (is_version (version k n)) (unlisted k es (λ d i same. omega (arith, above e es s d i, q, same))))
      ∙ or_false (e.number == n)
      ∙ sym (ap (λ b. is_version (version k n) (cond b (Some e) (entry_of k es))) (eq-eqb e.component k q))
  | inr q ↦
      ap (λ b. (b && (e.number == n)) || lists_version es k n) (ne_eqb e.component k q)
      ∙ shown_listed es (sorted_tail e es s) k n
      ∙ sym (ap (is_version (version k n)) (listed_behind k e es q))
]

pub shown_in_view : (es : List Entry) → AreEntries es → (k n : ℕ) → lists_version es k n ≡ is_version (version k n) (entry_of k es)
shown_in_view es h = shown_listed es (sorted es h)

-- one view more
pub call_left_out : (calls : List Call) (c : Call) (k n : ℕ) (old before after b : Bool) → shows_version (version k n) c ≡ b → before ≡ (old && not (is_shown calls k n)) → after ≡ (before && not b) → after ≡ (old && not (is_shown (calls ++ c ∷ []) k n))
call_left_out calls c k n old before after b is h step =
    step ∙ ap (λ z. z && not b) h ∙ less old (is_shown calls k n) b
    ∙ ap (λ z. old && not (is_shown calls k n || z)) (sym is)
    ∙ ap (λ z. old && not z) (sym (any_more (shows_version (version k n)) calls c))
