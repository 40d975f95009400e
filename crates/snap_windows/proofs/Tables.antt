-- Tables of last updates.
use Rattle.std.proofs.Common.{◌≡◌, ℕ, ◌<◌, cond, List, [], ◌∷◌, ◌++◌, length, Option, Some, None, refl, sym, ap, ◌∙◌, inl, inr, arith, slice_index_or, slice_set, replicate}
use Rattle.std.proofs.lemmas.Bool.{eq-eqb, ne_eqb, cases_lt, cases_eq}
use Rattle.std.proofs.lemmas.List.{get_or-replicate, get_or_past, length-replicate, get_or-set_same, get_or-set_other}
use Rattle.snap_core.specs.declared.entry.Entry.{Entry}
use Rattle.snap_core.specs.declared.event.Event.{Event}
use Rattle.snap_core.specs.declared.event.Event.TheVariants.{BeginUpdate, BeginView, EndUpdate, EndView}
use Rattle.snap_windows.specs.declared.last.Wrote.{Wrote}
use Rattle.snap_windows.specs.Last.{wrote_by, last_update, HasLast}

-- a table of nothing

abbrev empty : Option Wrote
empty = None

none_in : (n k : ℕ) → slice_index_or (replicate n empty) k None ≡ empty
none_in n k = elim (cases_lt k n) [
  | inl l ↦ get_or-replicate n k empty None l
  | inr g ↦ get_or_past (replicate n empty) k None (omega (arith, length-replicate n empty))
]

pub nothing_noted : (table : List (Option Wrote)) → table ≡ replicate 256 empty → HasLast table []
nothing_noted table e k = ap (λ z. slice_index_or z k None) e ∙ none_in 256 k

-- one event more

last_push : (k : ℕ) (o : Option Wrote) (es : List Event) (e : Event) → last_update k o (es ++ e ∷ []) ≡ wrote_by k e (last_update k o es)
last_push k o [] e = refl
last_push k o (x ∷ es) e = last_push k (wrote_by k x o) es e

pub noted : (table : List (Option Wrote)) (es : List Event) (p : ℕ) (e : Entry) → e.component < length table → HasLast table es → HasLast (slice_set table e.component (Some (record { process = p; entry = e }))) (es ++ BeginUpdate p e ∷ [])
noted table es p e fits h = each
  where
    here : Option Wrote
    here = Some (record { process = p; entry = e })

    new : List (Option Wrote)
    new = slice_set table e.component here

    at : slice_index_or new e.component None ≡ here
    at = get_or-set_same table e.component here None fits

    away : (k : ℕ) → (k ≡ e.component → ⊥) → slice_index_or new k None ≡ slice_index_or table k None
    away k n = get_or-set_other table e.component k here None n

    each : (k : ℕ) → slice_index_or new k None ≡ last_update k None (es ++ BeginUpdate p e ∷ [])
    each k = elim (cases_eq e.component k) [
      | inl s ↦ ap (λ z. slice_index_or new z None) (sym s) ∙ at ∙ sym (last_push k None es (BeginUpdate p e) ∙ ap (λ b. cond b here (last_update k None es)) (eq-eqb e.component k s))
      | inr n ↦ away k (λ s. n (sym s)) ∙ h k ∙ sym (last_push k None es (BeginUpdate p e) ∙ ap (λ b. cond b here (last_update k None es)) (ne_eqb e.component k n))
    ]

pub not_noted : (table : List (Option Wrote)) (es : List Event) (x : Event) → ((p : ℕ) (e : Entry) → x ≡ BeginUpdate p e → ⊥) → HasLast table es → HasLast table (es ++ x ∷ [])
not_noted table es x n h k = h k ∙ sym (last_push k None es x ∙ kept k x n)
  where
    kept : (k : ℕ) (x : Event) → ((p : ℕ) (e : Entry) → x ≡ BeginUpdate p e → ⊥) → wrote_by k x (last_update k None es) ≡ last_update k None es
    kept k (BeginUpdate p e) n = absurd (n p e refl)
    kept k (BeginView p) n = refl
    kept k (EndUpdate p) n = refl
    kept k (EndView p s) n = refl
