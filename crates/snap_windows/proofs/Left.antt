-- What a list of events leaves of a component, by its last update.
use Rattle.std.proofs.Common.{◌≡◌, ◌⊎◌, ℕ, suc, Bool, true, false, cond, not, List, [], ◌∷◌, Option, Some, None, refl, sym, ap, ◌∙◌, inl, inr}
use Rattle.std.specs.Prelude.{◌==◌}
use Rattle.std.specs.List.{list_any}
use Rattle.std.proofs.lemmas.Bool.{eqb-true, eqb-false, eq-eqb, false≢true, false_from_ne_true, and_parts, and_from, not-true, not_from_false}
use Rattle.snap_core.specs.declared.entry.Entry.{Entry}
use Rattle.snap_core.specs.declared.event.Event.{Event}
use Rattle.snap_core.specs.declared.event.Event.TheVariants.{BeginUpdate, BeginView, EndUpdate, EndView}
use Rattle.snap_core.specs.Calls.{calls_from, calls_of}
use Rattle.snap_core.specs.Events.{IsSingleWriter}
use Rattle.snap_core.specs.Orders.{last_written}
use Rattle.snap_core.specs.Refusals.{has_other_writer, is_by_other}
use Rattle.snap_core.proofs.Lists.{In, Contains-from_In, any_from, any_to}
use Rattle.snap_theory.specs.Windows.{left_by}
use Rattle.snap_windows.specs.declared.last.Wrote.{Wrote}
use Rattle.snap_windows.specs.Last.{HasLast, HasLeft, entry_in, last_update}

entry_cond : (b : Bool) (w : Wrote) (o : Option Wrote) → cond b (Some w.entry) (entry_in o) ≡ entry_in (cond b (Some w) o)
entry_cond true w o = refl
entry_cond false w o = refl

last_is : (k n place : ℕ) (w : Option Wrote) (es : List Event) → last_written k (entry_in w) (calls_from n place es) ≡ entry_in (last_update k w es)
last_is k n place w [] = refl
last_is k n place w (BeginUpdate p e ∷ es) =
    ap (λ z. last_written k z (calls_from (suc n) (suc place) es)) (entry_cond (e.component == k) (record { process = p; entry = e }) w)
    ∙ last_is k (suc n) (suc place) (cond (e.component == k) (Some (record { process = p; entry = e })) w) es
last_is k n place w (BeginView p ∷ es) = last_is k (suc n) (suc place) w es
last_is k n place w (EndUpdate p ∷ es) = last_is k n (suc place) w es
last_is k n place w (EndView p s ∷ es) = last_is k n (suc place) w es

pub left_is_last : (table : List (Option Wrote)) (es : List Event) → HasLast table es → HasLeft table (left_by es)
unfolding calls_of
left_is_last table es h k = ap entry_in (h k) ∙ sym (last_is k 0 0 None es)

-- the last update of a component, where there is one

last_in : (k : ℕ) (o : Option Wrote) (es : List Event) (w : Wrote) → last_update k o es ≡ Some w → (o ≡ Some w) ⊎ (In (BeginUpdate w.process w.entry) es × (w.entry.component ≡ k))
last_in k o [] w h = inl h
last_in k o (BeginUpdate p e ∷ es) w h = go (e.component == k) refl (last_in k (cond (e.component == k) (Some (record { process = p; entry = e })) o) es w h)
  where
    go : (b : Bool) → (e.component == k) ≡ b → (cond b (Some (record { process = p; entry = e })) o ≡ Some w) ⊎ (In (BeginUpdate w.process w.entry) es × (w.entry.component ≡ k)) → (o ≡ Some w) ⊎ (In (BeginUpdate w.process w.entry) (BeginUpdate p e ∷ es) × (w.entry.component ≡ k))
    go b t (inr i) = inr (inr i.0, i.1)
    go true t (inl q) =
        let is : record { process = p; entry = e } ≡ w = cc in
        inr (inl (ap (λ (z : Wrote). BeginUpdate z.process z.entry) is), sym (ap (λ (z : Wrote). z.entry.component) is) ∙ eqb-true _ _ t)
    go false t (inl q) = inl q
last_in k o (BeginView p ∷ es) w h = go (last_in k o es w h)
  where
    go : (o ≡ Some w) ⊎ (In (BeginUpdate w.process w.entry) es × (w.entry.component ≡ k)) → (o ≡ Some w) ⊎ (In (BeginUpdate w.process w.entry) (BeginView p ∷ es) × (w.entry.component ≡ k))
    go (inl q) = inl q
    go (inr i) = inr (inr i.0, i.1)
last_in k o (EndUpdate p ∷ es) w h = go (last_in k o es w h)
  where
    go : (o ≡ Some w) ⊎ (In (BeginUpdate w.process w.entry) es × (w.entry.component ≡ k)) → (o ≡ Some w) ⊎ (In (BeginUpdate w.process w.entry) (EndUpdate p ∷ es) × (w.entry.component ≡ k))
    go (inl q) = inl q
    go (inr i) = inr (inr i.0, i.1)
last_in k o (EndView p s ∷ es) w h = go (last_in k o es w h)
  where
    go : (o ≡ Some w) ⊎ (In (BeginUpdate w.process w.entry) es × (w.entry.component ≡ k)) → (o ≡ Some w) ⊎ (In (BeginUpdate w.process w.entry) (EndView p s ∷ es) × (w.entry.component ≡ k))
    go (inl q) = inl q
    go (inr i) = inr (inr i.0, i.1)

last_some : (k : ℕ) (w : Wrote) (es : List Event) → last_update k (Some w) es ≡ None → ⊥
last_some k w [] h = let g : Some w ≡ None = h in cc
last_some k w (BeginUpdate p e ∷ es) h = go (e.component == k) h (last_some k (record { process = p; entry = e }) es) (last_some k w es)
  where
    go : (b : Bool) → last_update k (cond b (Some (record { process = p; entry = e })) (Some w)) es ≡ None → (last_update k (Some (record { process = p; entry = e })) es ≡ None → ⊥) → (last_update k (Some w) es ≡ None → ⊥) → ⊥
    go true h a b = a h
    go false h a b = b h
last_some k w (BeginView p ∷ es) h = last_some k w es h
last_some k w (EndUpdate p ∷ es) h = last_some k w es h
last_some k w (EndView p s ∷ es) h = last_some k w es h

last_none : (k : ℕ) (o : Option Wrote) (es : List Event) → last_update k o es ≡ None → (p : ℕ) (e : Entry) → In (BeginUpdate p e) es → e.component ≡ k → ⊥
last_none k o [] h p e i s = i
last_none k o (BeginUpdate q d ∷ es) h p e (inl x) s =
    let same : d ≡ e = cc in
    let t : (d.component == k) ≡ true = eq-eqb _ _ (ap (λ (z : Entry). z.component) same ∙ s) in
    last_some k (record { process = q; entry = d }) es (sym (ap (λ b. last_update k (cond b (Some (record { process = q; entry = d })) o) es) t) ∙ h)
last_none k o (BeginUpdate q d ∷ es) h p e (inr i) s = last_none k (cond (d.component == k) (Some (record { process = q; entry = d })) o) es h p e i s
last_none k o (BeginView q ∷ es) h p e (inl x) s = cc
last_none k o (BeginView q ∷ es) h p e (inr i) s = last_none k o es h p e i s
last_none k o (EndUpdate q ∷ es) h p e (inl x) s = cc
last_none k o (EndUpdate q ∷ es) h p e (inr i) s = last_none k o es h p e i s
last_none k o (EndView q z ∷ es) h p e (inl x) s = cc
last_none k o (EndView q z ∷ es) h p e (inr i) s = last_none k o es h p e i s

-- whether another process writes a component, by its last update

pub by_other : (p k : ℕ) (es : List Event) → list_any (is_by_other p k) es ≡ true → (q : ℕ) × (e : Entry) × In (BeginUpdate q e) es × (e.component ≡ k) × (q ≡ p → ⊥)
by_other p k es t = let r = any_to (is_by_other p k) es t in go r.it r.there r.passes
  where
    go : (x : Event) → In x es → is_by_other p k x ≡ true → (q : ℕ) × (e : Entry) × In (BeginUpdate q e) es × (e.component ≡ k) × (q ≡ p → ⊥)
    go (BeginUpdate q e) i t = let a = and_parts (e.component == k) (not (q == p)) t in (q, e, i, eqb-true _ _ a.0, eqb-false _ _ (not-true _ a.1))
    go (BeginView q) i t = absurd (false≢true t)
    go (EndUpdate q) i t = absurd (false≢true t)
    go (EndView q z) i t = absurd (false≢true t)

pub writer_none : (es : List Event) (p : ℕ) (e : Entry) → last_update e.component None es ≡ None → has_other_writer es (BeginUpdate p e) ≡ false
writer_none es p e h = false_from_ne_true _ (λ t. let o = by_other p e.component es t in last_none e.component None es h o.0 o.1 o.2 o.3)

pub writer_some : (es : List Event) (p : ℕ) (e : Entry) (w : Wrote) → IsSingleWriter es → last_update e.component None es ≡ Some w → not (w.process == p) ≡ has_other_writer es (BeginUpdate p e)
writer_some es p e w single h = go (last_in e.component None es w h) (w.process == p) refl
  where
    go : (None ≡ Some w) ⊎ (In (BeginUpdate w.process w.entry) es × (w.entry.component ≡ e.component)) → (b : Bool) → (w.process == p) ≡ b → not b ≡ has_other_writer es (BeginUpdate p e)
    go (inl q) b t = absurd (cc)
    go (inr i) true t = sym (false_from_ne_true _ (λ u.
        let o = by_other p e.component es u in
        o.4 (sym (single w.process o.0 w.entry o.1 (Contains-from_In _ _ i.0) (Contains-from_In _ _ o.2) (i.1 ∙ sym o.3)) ∙ eqb-true _ _ t)))
    go (inr i) false t = sym (any_from (is_by_other p e.component) es (BeginUpdate w.process w.entry) i.0 (and_from _ _ (eq-eqb _ _ i.1) (not_from_false _ t)))
