-- A view shows the last entry of each component exactly where each of its entries is one, and it has as many.
use Rattle.std.proofs.Common.{◌≡◌, ◌↔◌, ℕ, zero, suc, ◌+◌, ◌<◌, Bool, true, false, cond, List, [], ◌∷◌, length, length-set, set, get_or, get_or-set_same, get_or-set_other, Option, Some, None, refl, sym, ap, ◌∙◌, subst, inl, inr, arith}
use Rattle.std.specs.Prelude.{◌==◌, is_some, count_by}
use Rattle.std.specs.List.{All}
use Rattle.std.proofs.lemmas.List.Elements.{All-contains}
use Rattle.std.proofs.lemmas.List.Sums.{sum_by-set, get_or-le-sum_by}
use Rattle.std.proofs.lemmas.Bool.{false≢true, ltb-true, and_parts, eqb-true, eq-eqb}
use Rattle.snap_core.specs.declared.entry.Entry.{Entry}
use Rattle.snap_core.specs.Entries.{HasByteComponent, entry_of, rises}
use Rattle.snap_core.proofs.Lists.{In, In-get_or, Contains-from_In, count-cons}
use Rattle.snap_theory.proofs.Renumbered.{rises_tail}
use Rattle.snap_order.specs.inside.Shown.{IsLast, ShowsLast, AreCounted}

-- each entry is the last of its component
abbrev pub AreLast : List (Option Entry) → List Entry → Type 0
AreLast last es = (e : Entry) → In e es → get_or last e.component None ≡ Some e

pub rises_above : (e : Entry) (es : List Entry) → rises (e ∷ es) ≡ true → (d : Entry) → In d es → e.component < d.component
rises_above e [] h d i = absurd i
rises_above e (c ∷ es) h d (inl q) = let l : e.component < c.component = ltb-true _ _ (and_parts _ _ h).0 in subst (λ (z : Entry). e.component < z.component) q l
rises_above e (c ∷ es) h d (inr i) =
    let l : e.component < c.component = ltb-true _ _ (and_parts _ _ h).0 in
    let m : c.component < d.component = rises_above c es (and_parts _ _ h).1 d i in
    omega (arith, l, m)

-- an entry is that of its component
pub own_entry : (es : List Entry) → rises es ≡ true → (e : Entry) → In e es → entry_of e.component es ≡ Some e
own_entry [] r e i = absurd i
own_entry (d ∷ es) r e (inl q) = ap (λ z. cond z (Some d) (entry_of e.component es)) (eq-eqb d.component e.component (ap (λ (z : Entry). z.component) q)) ∙ ap Some q
own_entry (d ∷ es) r e (inr i) = at (d.component == e.component) refl (own_entry es (rises_tail d es r) e i)
  where
    at : (t : Bool) → (d.component == e.component) ≡ t → entry_of e.component es ≡ Some e → cond (d.component == e.component) (Some d) (entry_of e.component es) ≡ Some e
    at true t rest = absurd (let q = eqb-true d.component e.component t in let m = rises_above d es r e i in omega (arith, q, m))
    at false t rest = ap (λ z. cond z (Some d) (entry_of e.component es)) t ∙ rest

-- without an entry there is none
no_last : (last : List (Option Entry)) → count_by is_some last ≡ 0 → (k : ℕ) → k < length last → get_or last k None ≡ None
no_last last h k l = go (get_or last k None) refl
  where
    go : (o : Option Entry) → get_or last k None ≡ o → get_or last k None ≡ None
    go None e = e
    go (Some d) e = let m = get_or-le-sum_by (λ (o : Option Entry). cond (is_some o) 1 0) last k None l in let q : cond (is_some (get_or last k None)) 1 0 ≡ 1 = ap {B = ℕ} (λ o. cond (is_some o) 1 0) e in absurd (omega (arith, h, m, q))

-- without one of its entries a board has one less
one_less : (last : List (Option Entry)) (e : Entry) → e.component < length last → get_or last e.component None ≡ Some e → count_by is_some (set last e.component None) + 1 ≡ count_by is_some last
one_less last e l h =
    let s = sum_by-set (λ (o : Option Entry). cond (is_some o) 1 0) last e.component None None l in
    let q : cond (is_some (get_or last e.component None)) 1 0 ≡ 1 = ap {B = ℕ} (λ o. cond (is_some o) 1 0) h in
    omega (arith, s, q)

still_last : (last : List (Option Entry)) (e : Entry) (es : List Entry) → rises (e ∷ es) ≡ true → AreLast last (e ∷ es) → AreLast (set last e.component None) es
still_last last e es r h d i =
    let m = rises_above e es r d i in
    get_or-set_other last e.component d.component None None (λ q. absurd (omega (arith, m, q))) ∙ h d (inr i)

pub shows_from : (es : List Entry) (last : List (Option Entry)) → rises es ≡ true → ((e : Entry) → In e es → e.component < length last) → AreLast last es → length es ≡ count_by is_some last → (k : ℕ) → k < length last → entry_of k es ≡ get_or last k None
shows_from [] last r b h n k l = sym (no_last last (sym n) k l)
shows_from (e ∷ es) last r b h n k l =
    let p = one_less last e (b e (inl refl)) (h e (inl refl)) in
    let s = length-set last e.component None in
    at (e.component == k) refl (λ l. shows_from es (set last e.component None) (rises_tail e es r) (λ d i. let m = b d (inr i) in omega (arith, m, s)) (still_last last e es r h) (omega (arith, n, p)) k (omega (arith, l, s)))
  where
    at : (t : Bool) → (e.component == k) ≡ t → (k < length last → entry_of k es ≡ get_or (set last e.component None) k None) → cond (e.component == k) (Some e) (entry_of k es) ≡ get_or last k None
    at true t rest = let q = eqb-true e.component k t in ap (λ z. cond z (Some e) (entry_of k es)) t ∙ sym (h e (inl refl)) ∙ ap (λ z. get_or last z None) q
    at false t rest =
        ap (λ z. cond z (Some e) (entry_of k es)) t ∙ rest l ∙ get_or-set_other last e.component k None None (λ q. false≢true (sym t ∙ eq-eqb e.component k (sym q)))

none_counts : (last : List (Option Entry)) → ((k : ℕ) → k < length last → get_or last k None ≡ None) → count_by is_some last ≡ 0
none_counts [] h = refl
none_counts (o ∷ os) h =
    let first : o ≡ None = h zero (omega arith) in
    let rest : count_by is_some os ≡ 0 = none_counts os (λ k l. h (suc k) (omega arith)) in
    let q : count_by is_some (o ∷ os) ≡ 0 + count_by is_some os = count-cons is_some o os ∙ ap (λ z. cond (is_some z) 1 0 + count_by is_some os) first in
    omega (arith, q, rest)

pub not_shown : (es : List Entry) (k : ℕ) → ((d : Entry) → In d es → k < d.component) → entry_of k es ≡ None
not_shown [] k h = refl
not_shown (d ∷ es) k h = at (d.component == k) refl (not_shown es k (λ c i. h c (inr i)))
  where
    at : (t : Bool) → (d.component == k) ≡ t → entry_of k es ≡ None → cond (d.component == k) (Some d) (entry_of k es) ≡ None
    at true t rest = absurd (let q = eqb-true d.component k t in let m = h d (inl refl) in omega (arith, q, m))
    at false t rest = ap (λ z. cond z (Some d) (entry_of k es)) t ∙ rest

pub shows_to : (es : List Entry) (last : List (Option Entry)) → rises es ≡ true → ((e : Entry) → In e es → e.component < length last) → ((k : ℕ) → k < length last → entry_of k es ≡ get_or last k None) → AreLast last es × (length es ≡ count_by is_some last)
shows_to [] last r b h = (λ e i. absurd i, sym (none_counts last (λ k l. sym (h k l))))
shows_to (e ∷ es) last r b h =
    let s = length-set last e.component None in
    let rest = shows_to es (set last e.component None) (rises_tail e es r) (λ d i. let m = b d (inr i) in omega (arith, m, s)) (λ k l. without k (omega (arith, l, s))) in
    let p = one_less last e (b e (inl refl)) head in
    (each rest.0, omega (arith, rest.1, p))
  where
    head : get_or last e.component None ≡ Some e
    head = sym (h e.component (b e (inl refl))) ∙ ap (λ z. cond z (Some e) (entry_of e.component es)) (eq-eqb e.component e.component refl)

    without : (k : ℕ) → k < length last → entry_of k es ≡ get_or (set last e.component None) k None
    without k l = at (e.component == k) refl
      where
        at : (t : Bool) → (e.component == k) ≡ t → entry_of k es ≡ get_or (set last e.component None) k None
        at true t =
            let q = eqb-true e.component k t in
            not_shown es k (λ d i. let m = rises_above e es r d i in omega (arith, m, q)) ∙ sym (get_or-set_same last e.component None None (b e (inl refl))) ∙ ap (λ z. get_or (set last e.component None) z None) q
        at false t =
            sym (ap (λ z. cond z (Some e) (entry_of k es)) t) ∙ h k l ∙ sym (get_or-set_other last e.component k None None (λ q. false≢true (sym t ∙ eq-eqb e.component k (sym q))))

    each : AreLast (set last e.component None) es → AreLast last (e ∷ es)
    each f d (inl q) = ap (λ (z : Entry). get_or last z.component None) (sym q) ∙ head ∙ ap Some q
    each f d (inr i) =
        let m = rises_above e es r d i in
        sym (get_or-set_other last e.component d.component None None (λ q. absurd (omega (arith, m, q)))) ∙ f d i

-- the test by the entries alone
pub matching : (es : List Entry) (last : List (Option Entry)) (written : ℕ) → rises es ≡ true → All HasByteComponent es → AreCounted last written → (All (IsLast last) es × (length es ≡ written)) ↔ ShowsLast es last
matching es last written r b n = (
  λ h k l. shows_from es last r below (λ e i. All-contains (IsLast last) es e h.0 (Contains-from_In _ _ i)) (h.1 ∙ n.count) k (omega (arith, l, n.each)),
  λ h. let m = shows_to es last r below (λ k l. h k (omega (arith, l, n.each))) in (λ k d l. m.0 _ (In-get_or es k d l), m.1 ∙ sym n.count),
)
  where
    below : (e : Entry) → In e es → e.component < length last
    below e i = let m = All-contains HasByteComponent es e b (Contains-from_In _ _ i) in omega (arith, m, n.each)
