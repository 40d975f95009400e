-- What the last update of a component in a list is, where updates stand in the order of their numbers.
use Rattle.std.proofs.Common.{◌≡◌, ◌≢◌, ◌⊎◌, ℕ, ◌≤◌, Bool, true, false, cond, List, [], ◌∷◌, ◌++◌, Option, Some, None, refl, sym, ap, ◌∙◌, inl, inr, arith}
use Rattle.std.specs.Prelude.{◌==◌}
use Rattle.std.specs.List.{Contains}
use Rattle.std.proofs.lemmas.Bool.{false≢true, eqb-true, eqb-false, cases_order}
use Rattle.snap_core.specs.declared.entry.Entry.{Entry}
use Rattle.snap_core.specs.Calls.{Call, Operation, Updates, Views, precedes}
use Rattle.snap_core.specs.Orders.{last_written, written_by}
use Rattle.snap_core.proofs.Lists.{In, Pairs}
use Rattle.snap_core.proofs.Facts.{AreCalls}
use Rattle.snap_core.proofs.Ordered.{AreOrderedCalls}
use Rattle.snap_theory.specs.Versions.{IsLaterVersion}
use Rattle.snap_theory.proofs.LastWritten.{last_written-append}

-- the update whose entry a component has in the end
pub record LastOf (k : ℕ) (xs : List Call) (o : Option Entry) : Type 0 where
  pub call : Call
  pub entry : Entry
  pub there : In call xs
  pub writes : call.operation ≡ Updates entry
  pub component : entry.component ≡ k
  pub is : o ≡ Some entry
  pub most : (c : Call) (d : Entry) → In c xs → c.operation ≡ Updates d → d.component ≡ k → d.number ≤ entry.number

-- no update of the component, and what stood before the list
pub record NoneOf (k : ℕ) (xs : List Call) (o p : Option Entry) : Type 0 where
  pub none : (c : Call) (d : Entry) → In c xs → c.operation ≡ Updates d → d.component ≡ k → ⊥
  pub is : p ≡ o

same_entry : (o : Operation) (d e : Entry) → o ≡ Updates d → o ≡ Updates e → d ≡ e
same_entry o d e g h = let s : Updates d ≡ Updates e = sym g ∙ h in cc

pub last_of : (k : ℕ) (o : Option Entry) (xs : List Call) → Pairs IsLaterVersion xs → NoneOf k xs o (last_written k o xs) ⊎ LastOf k xs (last_written k o xs)
last_of k o [] p = inl (record { none = λ c d i. absurd i; is = refl })
last_of k o (x ∷ xs) p = go (last_of k (written_by x.operation k o) xs p.1)
  where
    kept : (q : Operation) → x.operation ≡ q → ((d : Entry) → q ≡ Updates d → d.component ≡ k → ⊥) → NoneOf k xs (written_by x.operation k o) (last_written k (written_by x.operation k o) xs) → written_by x.operation k o ≡ o → NoneOf k (x ∷ xs) o (last_written k (written_by x.operation k o) xs)
    kept q i other n same = record { none = none; is = n.is ∙ same }
      where
        none : (c : Call) (d : Entry) → In c (x ∷ xs) → c.operation ≡ Updates d → d.component ≡ k → ⊥
        none c d (inl e) w h = other d (sym i ∙ ap (λ (z : Call). z.operation) e ∙ w) h
        none c d (inr j) w h = n.none c d j w h

    at : (q : Operation) → x.operation ≡ q → NoneOf k xs (written_by x.operation k o) (last_written k (written_by x.operation k o) xs) → NoneOf k (x ∷ xs) o (last_written k (written_by x.operation k o) xs) ⊎ LastOf k (x ∷ xs) (last_written k (written_by x.operation k o) xs)
    at (Views answer) i n = inl (kept (Views answer) i (λ d w h. cc) n (ap (λ z. written_by z k o) i))
    at (Updates d) i n = test (d.component == k) refl
      where
        written : (b : Bool) → (d.component == k) ≡ b → written_by x.operation k o ≡ cond b (Some d) o
        written b t = ap (λ z. written_by z k o) i ∙ ap (λ z. cond z (Some d) o) t

        test : (b : Bool) → (d.component == k) ≡ b → NoneOf k (x ∷ xs) o (last_written k (written_by x.operation k o) xs) ⊎ LastOf k (x ∷ xs) (last_written k (written_by x.operation k o) xs)
        test true t = inr (record { call = x; entry = d; there = inl refl; writes = i; component = eqb-true d.component k t; is = n.is ∙ written true t; most = most })
          where
            most : (c : Call) (e : Entry) → In c (x ∷ xs) → c.operation ≡ Updates e → e.component ≡ k → e.number ≤ d.number
            most c e (inl s) w h = let g = same_entry c.operation e d w (ap (λ (z : Call). z.operation) (sym s) ∙ i) in omega (arith, ap (λ (z : Entry). z.number) g)
            most c e (inr j) w h = absurd (n.none c e j w h)
        test false t = inl (kept (Updates d) i (λ e w h. eqb-false d.component k t (ap (λ (z : Entry). z.component) (same_entry (Updates d) d e refl w) ∙ h)) n (written false t))

    go : NoneOf k xs (written_by x.operation k o) (last_written k (written_by x.operation k o) xs) ⊎ LastOf k xs (last_written k (written_by x.operation k o) xs) → NoneOf k (x ∷ xs) o (last_written k (written_by x.operation k o) xs) ⊎ LastOf k (x ∷ xs) (last_written k (written_by x.operation k o) xs)
    go (inl n) = at x.operation refl n
    go (inr w) = inr (record { call = w.call; entry = w.entry; there = inr w.there; writes = w.writes; component = w.component; is = w.is; most = most })
      where
        most : (c : Call) (d : Entry) → In c (x ∷ xs) → c.operation ≡ Updates d → d.component ≡ k → d.number ≤ w.entry.number
        most c d (inl e) v h = omega (arith, p.0 w.call w.there d w.entry (ap (λ (z : Call). z.operation) e ∙ v) w.writes (h ∙ sym w.component))
        most c d (inr j) v h = w.most c d j v h

-- an update that neither is nor precedes one before it has a greater number
pub later : (calls : List Call) → AreCalls calls → (a b : Call) → Contains calls a → Contains calls b → precedes b a ≡ false → a ≢ b → IsLaterVersion a b
later calls f a b i j free other d e v w same = elim (cases_order d.number e.number) [
  | inl eq ↦ absurd (other (f.one a b d e (record { there = i; writes = v }) (record { there = j; writes = w }) same eq))
  | inr (inl less) ↦ less
  | inr (inr more) ↦ absurd (false≢true (sym free ∙ f.follows b a e d (record { there = j; writes = w }) (record { there = i; writes = v }) (sym same) more))
]

-- two lists of the same updates leave the same
pub same_last : (calls : List Call) → AreOrderedCalls calls → (k : ℕ) (xs ys : List Call) → Pairs IsLaterVersion xs → Pairs IsLaterVersion ys → ((c : Call) → In c xs → Contains calls c) → ((c : Call) (e : Entry) → c.operation ≡ Updates e → In c xs → In c ys) → ((c : Call) (e : Entry) → c.operation ≡ Updates e → In c ys → In c xs) → last_written k None xs ≡ last_written k None ys
same_last calls f k xs ys p q there to from = go (last_of k None xs p) (last_of k None ys q)
  where
    go : NoneOf k xs None (last_written k None xs) ⊎ LastOf k xs (last_written k None xs) → NoneOf k ys None (last_written k None ys) ⊎ LastOf k ys (last_written k None ys) → last_written k None xs ≡ last_written k None ys
    go (inl n) (inl m) = n.is ∙ sym m.is
    go (inl n) (inr w) = absurd (n.none w.call w.entry (from w.call w.entry w.writes w.there) w.writes w.component)
    go (inr w) (inl n) = absurd (n.none w.call w.entry (to w.call w.entry w.writes w.there) w.writes w.component)
    go (inr w) (inr v) =
        let i : In v.call xs = from v.call v.entry v.writes v.there in
        let a = w.most v.call v.entry i v.writes v.component in
        let b = v.most w.call w.entry (to w.call w.entry w.writes w.there) w.writes w.component in
        let one = f.one w.call v.call w.entry v.entry (record { there = there w.call w.there; writes = w.writes }) (record { there = there v.call i; writes = v.writes }) (w.component ∙ sym v.component) (omega (arith, a, b)) in
        let e = same_entry w.call.operation w.entry v.entry w.writes (ap (λ (z : Call). z.operation) one ∙ v.writes) in
        w.is ∙ ap Some e ∙ sym v.is

-- a list after another begins with what that left
pub last_behind : (k : ℕ) (o p : Option Entry) (xs ys : List Call) → last_written k o xs ≡ p → last_written k o (xs ++ ys) ≡ last_written k p ys
last_behind k o p xs ys e = last_written-append k o xs ys ∙ ap (λ z. last_written k z ys) e
