-- The entries of a view, which rise by component.
use Rattle.std.proofs.Common.{◌≡◌, ◌≢◌, ℕ, ◌<◌, true, cond, List, [], ◌∷◌, Some, None, refl, sym, ap, ◌∙◌, subst, inl, inr, arith}
use Rattle.std.specs.Prelude.{nat_lt}
use Rattle.std.proofs.lemmas.Bool.{ltb-true, eq-eqb, ne_eqb, and_parts}
use Rattle.snap_core.specs.declared.entry.Entry.{Entry}
use Rattle.snap_core.specs.Entries.{rises, entry_of, AreEntries}
use Rattle.snap_core.proofs.Lists.{In}

-- stands where a place has no entry
abbrev pub nothing : Entry
nothing = record { component = 0; number = 0; value = 0 }

pub record AreSorted (es : List Entry) : Type 0 where
  pub rising : rises es ≡ true

pub sorted : (es : List Entry) → AreEntries es → AreSorted es
sorted es h = record { rising = h.rising }

pub sorted_tail : (e : Entry) (es : List Entry) → AreSorted (e ∷ es) → AreSorted es
sorted_tail e [] s = record { rising = refl }
sorted_tail e (d ∷ es) s = record { rising = (and_parts (nat_lt e.component d.component) (rises (d ∷ es)) s.rising).1 }

-- the components after the first are above it
pub above : (e : Entry) (es : List Entry) → AreSorted (e ∷ es) → (d : Entry) → In d es → e.component < d.component
above e [] s d i = absurd i
above e (c ∷ es) s d (inl i) = subst (λ (z : Entry). e.component < z.component) i (ltb-true e.component c.component (and_parts (nat_lt e.component c.component) (rises (c ∷ es)) s.rising).0)
above e (c ∷ es) s d (inr i) =
    let l = ltb-true e.component c.component (and_parts (nat_lt e.component c.component) (rises (c ∷ es)) s.rising).0 in
    omega (arith, above c es (sorted_tail e (c ∷ es) s) d i)

-- a component that is none of those listed
pub unlisted : (k : ℕ) (es : List Entry) → ((d : Entry) → In d es → k ≢ d.component) → entry_of k es ≡ None
unlisted k [] h = refl
unlisted k (e ∷ es) h = ap (λ b. cond b (Some e) (entry_of k es)) (ne_eqb e.component k (λ s. h e (inl refl) (sym s))) ∙ unlisted k es (λ d i. h d (inr i))

pub unlisted_below : (k : ℕ) (e : Entry) (es : List Entry) → AreSorted (e ∷ es) → k < e.component → entry_of k (e ∷ es) ≡ None
unlisted_below k e es s l = unlisted k (e ∷ es) not
  where
    not : (d : Entry) → In d (e ∷ es) → k ≢ d.component
    not d (inl i) same = let q : e.component ≡ d.component = ap (λ (z : Entry). z.component) i in omega (arith, l, q, same)
    not d (inr i) same = omega (arith, l, above e es s d i, same)

pub listed_first : (e : Entry) (es : List Entry) → entry_of e.component (e ∷ es) ≡ Some e
listed_first e es = ap (λ b. cond b (Some e) (entry_of e.component es)) (eq-eqb e.component e.component refl)

pub listed_behind : (k : ℕ) (e : Entry) (es : List Entry) → e.component ≢ k → entry_of k (e ∷ es) ≡ entry_of k es
listed_behind k e es h = ap (λ b. cond b (Some e) (entry_of k es)) (ne_eqb e.component k h)
