-- The last update of a component in a list.
use Rattle.std.proofs.Common.{◌≡◌, ◌⊎◌, ℕ, Bool, true, false, cond, List, [], ◌∷◌, ◌++◌, Option, Some, refl, ap, ◌∙◌, inl, inr, None}
use Rattle.std.specs.Prelude.{◌==◌}
use Rattle.std.proofs.lemmas.Bool.{eqb-true, eq-eqb, ne_eqb}
use Rattle.snap_core.specs.declared.entry.Entry.{Entry}
use Rattle.snap_core.specs.Calls.{Call, Operation, Updates, Views}
use Rattle.snap_core.specs.Orders.{last_written, written_by}
use Rattle.snap_core.proofs.Lists.{In}

pub last_written-append : (k : ℕ) (o : Option Entry) (xs ys : List Call) → last_written k o (xs ++ ys) ≡ last_written k (last_written k o xs) ys
last_written-append k o [] ys = refl
last_written-append k o (x ∷ xs) ys = last_written-append k (written_by x.operation k o) xs ys

-- an update of component k
pub record Writes (k : ℕ) (u : Call) (e : Entry) : Type 0 where
  pub writes : u.operation ≡ Updates e
  pub component : e.component ≡ k

pub written_at : (k : ℕ) (o : Option Entry) (u : Call) (e : Entry) → Writes k u e → written_by u.operation k o ≡ Some e
written_at k o u e w = ap (λ p. written_by p k o) w.writes ∙ ap (λ b. cond b (Some e) o) (eq-eqb e.component k w.component)

pub written_not : (k : ℕ) (o : Option Entry) (u : Call) → ((d : Entry) → Writes k u d → ⊥) → written_by u.operation k o ≡ o
written_not k o u none = go u.operation refl
  where
    go : (p : Operation) → u.operation ≡ p → written_by p k o ≡ o
    go (Updates d) i = ap (λ b. cond b (Some d) o) (ne_eqb d.component k (λ c. none d (record { writes = i; component = c })))
    go (Views (Some es)) i = refl
    go (Views None) i = refl

pub last_written_none : (k : ℕ) (o : Option Entry) (xs : List Call) → ((u : Call) (d : Entry) → In u xs → Writes k u d → ⊥) → last_written k o xs ≡ o
last_written_none k o [] none = refl
last_written_none k o (x ∷ xs) none = last_written_none k (written_by x.operation k o) xs (λ u d i. none u d (inr i)) ∙ written_not k o x (λ d. none x d (inl refl))

pub last_written_at : (k : ℕ) (o : Option Entry) (xs ys : List Call) (u : Call) (e : Entry) → Writes k u e → ((v : Call) (d : Entry) → In v ys → Writes k v d → ⊥) → last_written k o (xs ++ u ∷ ys) ≡ Some e
last_written_at k o xs ys u e w none =
    last_written-append k o xs (u ∷ ys)
    ∙ last_written_none k (written_by u.operation k (last_written k o xs)) ys none
    ∙ written_at k (last_written k o xs) u e w

-- where the last update of a list comes from
pub record Written (k : ℕ) (xs : List Call) (o : Option Entry) : Type 0 where
  pub call : Call
  pub entry : Entry
  pub there : In call xs
  pub writes : Writes k call entry
  pub last : o ≡ Some entry

pub last_written_from : (k : ℕ) (o : Option Entry) (xs : List Call) → (last_written k o xs ≡ o) ⊎ Written k xs (last_written k o xs)
last_written_from k o [] = inl refl
last_written_from k o (x ∷ xs) = go x.operation refl (last_written_from k (written_by x.operation k o) xs)
  where
    later : (p : Option Entry) → Written k xs p → Written k (x ∷ xs) p
    later p w = record { call = w.call; entry = w.entry; there = inr w.there; writes = w.writes; last = w.last }

    go : (p : Operation) → x.operation ≡ p → (last_written k (written_by x.operation k o) xs ≡ written_by x.operation k o) ⊎ Written k xs (last_written k (written_by x.operation k o) xs)
        → (last_written k (written_by x.operation k o) xs ≡ o) ⊎ Written k (x ∷ xs) (last_written k (written_by x.operation k o) xs)
    go p i (inr w) = inr (later _ w)
    go (Updates d) i (inl s) = at (d.component == k) refl
      where
        at : (b : Bool) → (d.component == k) ≡ b → (last_written k (written_by x.operation k o) xs ≡ o) ⊎ Written k (x ∷ xs) (last_written k (written_by x.operation k o) xs)
        at true t = let w : Writes k x d = record { writes = i; component = eqb-true d.component k t } in inr (record { call = x; entry = d; there = inl refl; writes = w; last = s ∙ written_at k o x d w })
        at false t = inl (s ∙ ap (λ p. written_by p k o) i ∙ ap (λ b. cond b (Some d) o) t)
    go (Views (Some es)) i (inl s) = inl (s ∙ ap (λ p. written_by p k o) i)
    go (Views None) i (inl s) = inl (s ∙ ap (λ p. written_by p k o) i)
