-- What a view that is kept shows.
use Rattle.std.proofs.Common.{◌≡◌, ◌≢◌, ℕ, Bool, true, false, cond, List, [], ◌∷◌, Some, None, refl, sym, ap, ◌∙◌, inl, inr, arith}
use Rattle.std.specs.Prelude.{◌==◌}
use Rattle.std.proofs.lemmas.Bool.{eqb-true, eq-eqb, false≢true}
use Rattle.snap_core.specs.declared.entry.Entry.{Entry}
use Rattle.snap_core.specs.Entries.{AreEntries, entry_of, number_in}
use Rattle.snap_core.specs.Calls.{Call, Operation, Updates, Views, entries_of, is_view, is_answer, shown, shown_number}
use Rattle.snap_core.proofs.Lists.{In}
use Rattle.snap_theory.proofs.Entries.{AreSorted, sorted, sorted_tail, above, listed_first, listed_behind}
use Rattle.snap_theory.specs.Kept.{alone, kept_entries, kept_operation, kept_call}

entry_kept : (numbers : ℕ → ℕ) (k : ℕ) (es : List Entry) (e : Entry) → entry_of k es ≡ Some e → e.number ≡ numbers k → entry_of k (kept_entries numbers es) ≡ Some (alone e)
entry_kept numbers k [] e h n = absurd (cc)
entry_kept numbers k (d ∷ es) e h n = go (d.component == k) refl (d.number == numbers d.component) refl (entry_kept numbers k es e)
  where
    K : List Entry
    K = kept_entries numbers es

    head : (q : Bool) → (d.number == numbers d.component) ≡ q → kept_entries numbers (d ∷ es) ≡ cond q (alone d ∷ K) K
    head q t = ap (λ z. cond z (alone d ∷ K) K) t

    at : (b : Bool) → (d.component == k) ≡ b → entry_of k (d ∷ es) ≡ cond b (Some d) (entry_of k es)
    at b t = ap (λ z. cond z (Some d) (entry_of k es)) t

    at_alone : (b : Bool) → (d.component == k) ≡ b → entry_of k (alone d ∷ K) ≡ cond b (Some (alone d)) (entry_of k K)
    at_alone b t = ap (λ z. cond z (Some (alone d)) (entry_of k K)) t

    go : (b : Bool) → (d.component == k) ≡ b → (q : Bool) → (d.number == numbers d.component) ≡ q → (entry_of k es ≡ Some e → e.number ≡ numbers k → entry_of k K ≡ Some (alone e)) → entry_of k (kept_entries numbers (d ∷ es)) ≡ Some (alone e)
    go true t true u more =
        let g : Some d ≡ Some e = sym (at true t) ∙ h in
        let f : d ≡ e = cc in
        ap (entry_of k) (head true u) ∙ at_alone true t ∙ ap (λ z. Some (alone z)) f
    go true t false u more =
        let g : Some d ≡ Some e = sym (at true t) ∙ h in
        let f : d ≡ e = cc in
        let v : d.number ≡ numbers d.component = ap (λ (z : Entry). z.number) f ∙ n ∙ sym (ap numbers (eqb-true _ _ t)) in
        absurd (false≢true (sym u ∙ eq-eqb _ _ v))
    go false t true u more = ap (entry_of k) (head true u) ∙ at_alone false t ∙ more (sym (at false t) ∙ h) n
    go false t false u more = ap (entry_of k) (head false u) ∙ more (sym (at false t) ∙ h) n

entry_left : (numbers : ℕ → ℕ) (k : ℕ) (es : List Entry) → ((d : Entry) → In d es → d.component ≡ k → d.number ≢ numbers k) → entry_of k (kept_entries numbers es) ≡ None
entry_left numbers k [] h = refl
entry_left numbers k (d ∷ es) h = go (d.component == k) refl (d.number == numbers d.component) refl (entry_left numbers k es (λ c i. h c (inr i)))
  where
    K : List Entry
    K = kept_entries numbers es

    head : (q : Bool) → (d.number == numbers d.component) ≡ q → kept_entries numbers (d ∷ es) ≡ cond q (alone d ∷ K) K
    head q t = ap (λ z. cond z (alone d ∷ K) K) t

    go : (b : Bool) → (d.component == k) ≡ b → (q : Bool) → (d.number == numbers d.component) ≡ q → entry_of k K ≡ None → entry_of k (kept_entries numbers (d ∷ es)) ≡ None
    go true t true u more = let c : d.component ≡ k = eqb-true _ _ t in absurd (h d (inl refl) c (eqb-true _ _ u ∙ ap numbers c))
    go false t true u more = ap (entry_of k) (head true u) ∙ ap (λ z. cond z (Some (alone d)) (entry_of k K)) t ∙ more
    go b t false u more = ap (entry_of k) (head false u) ∙ more

listed_in : (es : List Entry) → AreSorted es → (d : Entry) → In d es → entry_of d.component es ≡ Some d
listed_in [] s d i = absurd i
listed_in (e ∷ es) s d (inl i) = ap (λ (z : Entry). entry_of z.component (e ∷ es)) (sym i) ∙ listed_first e es ∙ ap Some i
listed_in (e ∷ es) s d (inr i) = listed_behind d.component e es (λ q. let l = above e es s d i in omega (arith, l, q)) ∙ listed_in es (sorted_tail e es s) d i

entries_kept : (numbers : ℕ → ℕ) (o : Operation) → entries_of (kept_operation numbers o) ≡ kept_entries numbers (entries_of o)
entries_kept numbers (Updates e) = refl
entries_kept numbers (Views None) = refl
entries_kept numbers (Views (Some es)) = refl

pub shown_kept : (keeps : ℕ → Bool) (numbers : ℕ → ℕ) (n : ℕ) (r : Call) (k : ℕ) (e : Entry) → shown r k ≡ Some e → e.number ≡ numbers k → shown (kept_call keeps numbers n r) k ≡ Some (alone e)
unfolding shown
shown_kept keeps numbers n r k e h m = ap (entry_of k) (entries_kept numbers r.operation) ∙ entry_kept numbers k (entries_of r.operation) e h m

-- a view that shows another number of a component shows nothing of it
pub shown_left : (keeps : ℕ → Bool) (numbers : ℕ → ℕ) (n : ℕ) (r : Call) (k : ℕ) → AreEntries (entries_of r.operation) → shown_number r k ≢ numbers k → shown (kept_call keeps numbers n r) k ≡ None
unfolding shown shown_number
shown_left keeps numbers n r k s h = ap (entry_of k) (entries_kept numbers r.operation) ∙ entry_left numbers k (entries_of r.operation) (λ d i c m. h (ap number_in (ap (λ z. entry_of z (entries_of r.operation)) (sym c) ∙ listed_in (entries_of r.operation) (sorted (entries_of r.operation) s) d i) ∙ m))

view_kept : (numbers : ℕ → ℕ) (o : Operation) → is_answer o ≡ true → is_answer (kept_operation numbers o) ≡ true
view_kept numbers (Updates e) h = h
view_kept numbers (Views None) h = h
view_kept numbers (Views (Some es)) h = refl

pub is_view_kept : (keeps : ℕ → Bool) (numbers : ℕ → ℕ) (n : ℕ) (r : Call) → is_view r ≡ true → is_view (kept_call keeps numbers n r) ≡ true
unfolding is_view
is_view_kept keeps numbers n r h = view_kept numbers r.operation h

-- a view that shows nothing of a component shows nothing of it
pub shown_nothing : (keeps : ℕ → Bool) (numbers : ℕ → ℕ) (n : ℕ) (r : Call) (k : ℕ) → AreEntries (entries_of r.operation) → shown r k ≡ None → shown (kept_call keeps numbers n r) k ≡ None
unfolding shown
shown_nothing keeps numbers n r k s h = ap (entry_of k) (entries_kept numbers r.operation) ∙ entry_left numbers k (entries_of r.operation) none
  where
    none : (d : Entry) → In d (entries_of r.operation) → d.component ≡ k → d.number ≢ numbers k
    none d i c m = let g : Some d ≡ None = sym (listed_in (entries_of r.operation) (sorted (entries_of r.operation) s) d i) ∙ ap (λ z. entry_of z (entries_of r.operation)) c ∙ h in cc
