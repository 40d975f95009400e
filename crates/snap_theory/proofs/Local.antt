-- The tests of faults against the conditions, and the conditions against regularity.
use Rattle.std.proofs.Common.{◌≡◌, ◌⊎◌, ℕ, suc, ◌<◌, ◌≤◌, true, false, not, ◌&&◌, ◌||◌, List, Option, Some, None, refl, sym, ap, ◌∙◌, subst, inl, inr, arith}
use Rattle.std.specs.Prelude.{◌==◌}
use Rattle.std.specs.List.{list_any}
use Rattle.std.proofs.lemmas.Bool.{false≢true, false_from_ne_true, not-false, and_parts, and_from, or_cases, or_left, or_right, eqb-true, eq-eqb, cases_order, not_from_true}
use Rattle.snap_core.specs.declared.entry.Entry.{Entry}
use Rattle.snap_core.specs.Calls.{Call, Operation, Updates, Views, precedes, shown, shown_number}
use Rattle.snap_core.specs.Regular.{IsViewOf, IsUpdateOf, IsBegunBeforeEnd, IsRegular}
use Rattle.snap_theory.specs.Conditions.{MeetsConditions}
use Rattle.snap_core.specs.Calls.{is_update_numbered, writes_number}
use Rattle.snap_theory.specs.Faults.{writes_entry, is_unwritten, integrity_fault, old_fault, early_fault, exceeds, read_fault, write_fault}
use Rattle.snap_core.proofs.Lists.{In, In-from_Contains, Contains-from_In, any_from, any_to}
use Rattle.snap_core.proofs.Facts.{shown_in, shown_number_at, shows_positive, precedes_to, precedes_from, precedes_later}
use Rattle.snap_theory.proofs.Exceeding.{exceeds_from, exceeds_to}
use Rattle.snap_core.proofs.Ordered.{AreOrderedCalls, before_later, begins_no_later}

-- the conditions on one view alone
pub record MeetsLocal (calls : List Call) : Type 0 where
  pub integrity : (r : Call) (k : ℕ) (e : Entry) → IsViewOf calls r → shown r k ≡ Some e → (c : Call) × IsUpdateOf calls c e
  pub early : (r c : Call) (e : Entry) → IsViewOf calls r → IsUpdateOf calls c e → precedes r c ≡ true → shown_number r e.component < e.number
  pub old : (r c : Call) (e : Entry) → IsViewOf calls r → IsUpdateOf calls c e → precedes c r ≡ true → e.number ≤ shown_number r e.component

-- each test of one view alone fails
pub record PassesLocal (calls : List Call) : Type 0 where
  pub integrity : (r : Call) (k : ℕ) → IsViewOf calls r → integrity_fault calls r k ≡ false
  pub old : (r : Call) (k : ℕ) → IsViewOf calls r → old_fault calls r k ≡ false
  pub early : (r : Call) (k : ℕ) → IsViewOf calls r → early_fault calls r k ≡ false

-- and each test of a view against others
pub record PassesAll (calls : List Call) : Type 0 where
  pub local : PassesLocal calls
  pub read : (r s : Call) → IsViewOf calls r → IsViewOf calls s → read_fault r s ≡ false
  pub write : (r : Call) (j k : ℕ) → IsViewOf calls r → write_fault calls r j k ≡ false

pub same_entry : (d e : Entry) → d.component ≡ e.component → d.number ≡ e.number → d.value ≡ e.value → d ≡ e
same_entry d e p q r =
    let P : ℕ → ℕ → ℕ → Entry = λ k n v. record { component = k; number = n; value = v } in
    ap (λ k. P k d.number d.value) p ∙ ap (λ n. P e.component n d.value) q ∙ ap (λ v. P e.component e.number v) r

-- what the tests on a call say
pub record IsNumbered (calls : List Call) (k n : ℕ) (c : Call) : Type 0 where
  pub entry : Entry
  pub update : IsUpdateOf calls c entry
  pub component : entry.component ≡ k
  pub number : entry.number ≡ n

pub numbered_to : (calls : List Call) (k n : ℕ) (c : Call) → In c calls → is_update_numbered k n c ≡ true → IsNumbered calls k n c
unfolding is_update_numbered
numbered_to calls k n c i h = go c.operation refl h
  where
    go : (o : Operation) → c.operation ≡ o → writes_number o k n ≡ true → IsNumbered calls k n c
    go (Updates e) w t =
        let p = and_parts (e.component == k) (e.number == n) t in
        record { entry = e; update = record { there = Contains-from_In calls c i; writes = w }; component = eqb-true _ _ p.0; number = eqb-true _ _ p.1 }
    go (Views (Some es)) w t = absurd (false≢true t)
    go (Views None) w t = absurd (false≢true t)

pub numbered_from : (k n : ℕ) (c : Call) (e : Entry) → c.operation ≡ Updates e → e.component ≡ k → e.number ≡ n → is_update_numbered k n c ≡ true
unfolding is_update_numbered
numbered_from k n c e w p q = ap (λ o. writes_number o k n) w ∙ and_from _ _ (eq-eqb _ _ p) (eq-eqb _ _ q)

entry_to : (calls : List Call) (e : Entry) (c : Call) → In c calls → writes_entry c.operation e ≡ true → IsUpdateOf calls c e
entry_to calls e c i h = go c.operation refl h
  where
    go : (o : Operation) → c.operation ≡ o → writes_entry o e ≡ true → IsUpdateOf calls c e
    go (Updates d) w t =
        let p = and_parts (d.component == e.component) ((d.number == e.number) && (d.value == e.value)) t in
        let q = and_parts (d.number == e.number) (d.value == e.value) p.1 in
        record { there = Contains-from_In calls c i; writes = w ∙ ap Updates (same_entry d e (eqb-true _ _ p.0) (eqb-true _ _ q.0) (eqb-true _ _ q.1)) }
    go (Views (Some es)) w t = absurd (false≢true t)
    go (Views None) w t = absurd (false≢true t)

entry_from : (e : Entry) (c : Call) → c.operation ≡ Updates e → writes_entry c.operation e ≡ true
entry_from e c w = ap (λ o. writes_entry o e) w ∙ and_from _ _ (eq-eqb e.component e.component refl) (and_from _ _ (eq-eqb e.number e.number refl) (eq-eqb e.value e.value refl))

-- from the tests to the conditions

integrity_condition : (calls : List Call) → (r : Call) (k : ℕ) (e : Entry) → integrity_fault calls r k ≡ false → shown r k ≡ Some e → (c : Call) × IsUpdateOf calls c e
unfolding integrity_fault
integrity_condition calls r k e t s =
    let h : not (list_any (λ c. writes_entry c.operation e) calls) ≡ false = sym (ap (is_unwritten calls) s) ∙ t in
    let p = any_to (λ c. writes_entry c.operation e) calls (not-false _ h) in
    (p.it, entry_to calls e p.it p.there p.passes)

-- an update of no greater number than one that precedes a call precedes it too
pub earlier_precedes : (calls : List Call) → AreOrderedCalls calls → (a c b : Call) (d e : Entry) → IsUpdateOf calls a d → IsUpdateOf calls c e → d.component ≡ e.component → d.number ≤ e.number → precedes c b ≡ true → precedes a b ≡ true
unfolding precedes
earlier_precedes calls f a c b d e x y same l h = elim (cases_order d.number e.number) [
  | inl eq ↦ subst (λ z. precedes z b ≡ true) (sym (f.one a c d e x y same eq)) h
  | inr (inl less) ↦ let p = precedes_to c b h in before_later a.ended p.place b.begun (f.ends a c d e p.place x y same less p.ends) p.before
  | inr (inr more) ↦ absurd (omega arith)
]

old_condition : (calls : List Call) → AreOrderedCalls calls → (r c : Call) (e : Entry) → old_fault calls r e.component ≡ false → IsUpdateOf calls c e → precedes c r ≡ true → e.number ≤ shown_number r e.component
unfolding old_fault
old_condition calls f r c e t u h = omega (arith, not_more)
  where
    not_more : ¬ (shown_number r e.component < e.number)
    not_more l =
        let x = f.earlier c e (suc (shown_number r e.component)) u (omega arith) l in
        let g = earlier_precedes calls f x.call c r x.entry e x.update u x.component (omega (arith, x.number)) h in
        false≢true (sym t ∙ any_from (λ a. is_update_numbered e.component (suc (shown_number r e.component)) a && precedes a r) calls x.call (In-from_Contains calls x.call x.update.there)
        (and_from _ _ (numbered_from e.component (suc (shown_number r e.component)) x.call x.entry x.update.writes x.component x.number) g))

early_condition : (calls : List Call) → AreOrderedCalls calls → ((k : ℕ) (d : Entry) (r : Call) → IsViewOf calls r → shown r k ≡ Some d → (x : Call) × IsUpdateOf calls x d) → (r c : Call) (e : Entry) → early_fault calls r e.component ≡ false → IsViewOf calls r → IsUpdateOf calls c e → precedes r c ≡ true → shown_number r e.component < e.number
unfolding early_fault
early_condition calls f written r c e t v u h = omega (arith, not_less)
  where
    not_less : ¬ (e.number ≤ shown_number r e.component)
    not_less l =
        let s = shows_positive r e.component (omega (arith, f.positive c e u)) in
        let x = written e.component s.entry r v s.is in
        let n = shown_number_at r e.component s.entry s.is in
        let k = (shown_in r e.component s.entry s.is).1 in
        let g = precedes_later r c x.0 h (begins_no_later calls f c x.0 e s.entry u x.1 (sym k) (omega (arith, n))) in
        false≢true (sym t ∙ any_from (λ a. is_update_numbered e.component (shown_number r e.component) a && precedes r a) calls x.0 (In-from_Contains calls x.0 x.1.there)
        (and_from _ _ (numbered_from e.component (shown_number r e.component) x.0 s.entry x.1.writes k (sym n)) g))

pub local_from_tests : (calls : List Call) → AreOrderedCalls calls → PassesLocal calls → MeetsLocal calls
local_from_tests calls f t = record {
  integrity = λ r k e v s. integrity_condition calls r k e (t.integrity r k v) s;
  early = λ r c e v u h. early_condition calls f (λ k d s w. integrity_condition calls s k d (t.integrity s k w)) r c e (t.early r e.component v) v u h;
  old = λ r c e v u h. old_condition calls f r c e (t.old r e.component v) u h;
}

read_condition : (calls : List Call) → (r s : Call) → read_fault r s ≡ false → (precedes r s ≡ true) ⊎ ((k : ℕ) × (shown_number r k < shown_number s k)) → (j : ℕ) → shown_number r j ≤ shown_number s j
unfolding read_fault
read_condition calls r s t h j = omega (arith, not_more)
  where
    later : (precedes r s ≡ true) ⊎ ((k : ℕ) × (shown_number r k < shown_number s k)) → (precedes r s || exceeds s r) ≡ true
    later (inl p) = or_left _ _ p
    later (inr x) = or_right _ _ (exceeds_from s r x.0 x.1)

    not_more : ¬ (shown_number s j < shown_number r j)
    not_more l = false≢true (sym t ∙ and_from _ _ (exceeds_from r s j l) (later h))

write_condition : (calls : List Call) → AreOrderedCalls calls → MeetsLocal calls → (r a b : Call) (d e : Entry) → write_fault calls r d.component e.component ≡ false → IsViewOf calls r → IsUpdateOf calls a d → IsUpdateOf calls b e → precedes a b ≡ true → e.number ≤ shown_number r e.component → d.number ≤ shown_number r d.component
unfolding write_fault
write_condition calls f m r a b d e t v x y h l = omega (arith, not_more)
  where
    not_more : ¬ (shown_number r d.component < d.number)
    not_more g =
        let z = f.earlier a d (suc (shown_number r d.component)) x (omega arith) g in
        let s = shows_positive r e.component (omega (arith, f.positive b e y)) in
        let w = m.integrity r e.component s.entry v s.is in
        let n = shown_number_at r e.component s.entry s.is in
        let k = (shown_in r e.component s.entry s.is).1 in
        let later = precedes_later z.call b w.0 (earlier_precedes calls f z.call a b z.entry d z.update x z.component (omega (arith, z.number)) h) (begins_no_later calls f b w.0 e s.entry y w.1 (sym k) (omega (arith, n))) in
        let inner = any_from (λ c. is_update_numbered e.component (shown_number r e.component) c && precedes z.call c) calls w.0 (In-from_Contains calls w.0 w.1.there)
        (and_from _ _ (numbered_from e.component (shown_number r e.component) w.0 s.entry w.1.writes k (sym n)) later) in
        false≢true (sym t ∙ any_from (λ c. is_update_numbered d.component (suc (shown_number r d.component)) c && list_any (λ q. is_update_numbered e.component (shown_number r e.component) q && precedes c q) calls) calls z.call (In-from_Contains calls z.call z.update.there)
        (and_from _ _ (numbered_from d.component (suc (shown_number r d.component)) z.call z.entry z.update.writes z.component z.number) inner))

pub conditions_from_tests : (calls : List Call) → AreOrderedCalls calls → PassesAll calls → MeetsConditions calls
conditions_from_tests calls f t =
    let m = local_from_tests calls f t.local in
    record {
      integrity = m.integrity;
      proximity_early = m.early;
      proximity_old = m.old;
      read = λ r s v w h. read_condition calls r s (t.read r s v w) h;
      write = λ r a b d e v x y h l. write_condition calls f m r a b d e (t.write r d.component e.component v) v x y h l;
    }

-- from the conditions to the tests

integrity_test : (calls : List Call) → MeetsLocal calls → (r : Call) (k : ℕ) → IsViewOf calls r → integrity_fault calls r k ≡ false
unfolding integrity_fault
integrity_test calls m r k v = go (shown r k) refl
  where
    go : (o : Option Entry) → shown r k ≡ o → is_unwritten calls o ≡ false
    go None s = refl
    go (Some e) s =
        let c = m.integrity r k e v s in
        not_from_true _ (any_from (λ z. writes_entry z.operation e) calls c.0 (In-from_Contains calls c.0 c.1.there) (entry_from e c.0 c.1.writes))

old_test : (calls : List Call) → MeetsLocal calls → (r : Call) (k : ℕ) → IsViewOf calls r → old_fault calls r k ≡ false
unfolding old_fault
old_test calls m r k v = false_from_ne_true _ wrong
  where
    wrong : list_any (λ a. is_update_numbered k (suc (shown_number r k)) a && precedes a r) calls ≡ true → ⊥
    wrong h =
        let x = any_to (λ a. is_update_numbered k (suc (shown_number r k)) a && precedes a r) calls h in
        let p = and_parts _ _ x.passes in
        let n = numbered_to calls k (suc (shown_number r k)) x.it x.there p.0 in
        let l = m.old r x.it n.entry v n.update p.1 in
        let l' : n.entry.number ≤ shown_number r k = subst (λ z. n.entry.number ≤ shown_number r z) n.component l in
        omega (arith, n.number)

early_test : (calls : List Call) → MeetsLocal calls → (r : Call) (k : ℕ) → IsViewOf calls r → early_fault calls r k ≡ false
unfolding early_fault
early_test calls m r k v = false_from_ne_true _ wrong
  where
    wrong : list_any (λ a. is_update_numbered k (shown_number r k) a && precedes r a) calls ≡ true → ⊥
    wrong h =
        let x = any_to (λ a. is_update_numbered k (shown_number r k) a && precedes r a) calls h in
        let p = and_parts _ _ x.passes in
        let n = numbered_to calls k (shown_number r k) x.it x.there p.0 in
        let l = m.early r x.it n.entry v n.update p.1 in
        let l' : shown_number r k < n.entry.number = subst (λ z. shown_number r z < n.entry.number) n.component l in
        omega (arith, n.number)

read_test : (calls : List Call) → MeetsConditions calls → (r s : Call) → IsViewOf calls r → IsViewOf calls s → read_fault r s ≡ false
unfolding read_fault
read_test calls m r s v w = false_from_ne_true _ wrong
  where
    either : (precedes r s ≡ true) ⊎ (exceeds s r ≡ true) → (precedes r s ≡ true) ⊎ ((k : ℕ) × (shown_number r k < shown_number s k))
    either (inl h) = inl h
    either (inr h) = let x = exceeds_to s r h in inr (x.component, x.more)

    wrong : (exceeds r s && (precedes r s || exceeds s r)) ≡ true → ⊥
    wrong h =
        let p = and_parts _ _ h in
        let x = exceeds_to r s p.0 in
        omega (arith, x.more, m.read r s v w (either (or_cases _ _ p.1)) x.component)

write_test : (calls : List Call) → MeetsConditions calls → (r : Call) (j k : ℕ) → IsViewOf calls r → write_fault calls r j k ≡ false
unfolding write_fault
write_test calls m r j k v = false_from_ne_true _ wrong
  where
    wrong : list_any (λ a. is_update_numbered j (suc (shown_number r j)) a && list_any (λ b. is_update_numbered k (shown_number r k) b && precedes a b) calls) calls ≡ true → ⊥
    wrong h =
        let x = any_to (λ a. is_update_numbered j (suc (shown_number r j)) a && list_any (λ b. is_update_numbered k (shown_number r k) b && precedes a b) calls) calls h in
        let p = and_parts _ _ x.passes in
        let y = any_to (λ b. is_update_numbered k (shown_number r k) b && precedes x.it b) calls p.1 in
        let q = and_parts _ _ y.passes in
        let a = numbered_to calls j (suc (shown_number r j)) x.it x.there p.0 in
        let b = numbered_to calls k (shown_number r k) y.it y.there q.0 in
        let shows : b.entry.number ≤ shown_number r b.entry.component = subst (λ z. b.entry.number ≤ shown_number r z) (sym b.component) (omega (arith, b.number)) in
        let l = m.write r x.it y.it a.entry b.entry v a.update b.update q.1 shows in
        let l' : a.entry.number ≤ shown_number r j = subst (λ z. a.entry.number ≤ shown_number r z) a.component l in
        omega (arith, a.number)

pub local_tests : (calls : List Call) → MeetsLocal calls → PassesLocal calls
local_tests calls m = record { integrity = integrity_test calls m; old = old_test calls m; early = early_test calls m }

pub local_of : (calls : List Call) → MeetsConditions calls → MeetsLocal calls
local_of calls m = record { integrity = m.integrity; early = m.proximity_early; old = m.proximity_old }

pub all_tests : (calls : List Call) → MeetsConditions calls → PassesAll calls
all_tests calls m = record { local = local_tests calls (local_of calls m); read = read_test calls m; write = write_test calls m }

-- regular, and the conditions on one view alone

pub regular_meets : (calls : List Call) → AreOrderedCalls calls → IsRegular calls → MeetsLocal calls
regular_meets calls f g = record { integrity = written; early = early; old = old }
  where
    written : (r : Call) (k : ℕ) (e : Entry) → IsViewOf calls r → shown r k ≡ Some e → (c : Call) × IsUpdateOf calls c e
    written r k e v s = let x = g.not_early r k e v s in (x.0, x.1)

    old : (r c : Call) (e : Entry) → IsViewOf calls r → IsUpdateOf calls c e → precedes c r ≡ true → e.number ≤ shown_number r e.component
    old r c e v u h = let not_more : ¬ (shown_number r e.component < e.number) = λ l. false≢true (sym (g.not_old r c e v u l) ∙ h) in omega (arith, not_more)

    early : (r c : Call) (e : Entry) → IsViewOf calls r → IsUpdateOf calls c e → precedes r c ≡ true → shown_number r e.component < e.number
    early r c e v u h = omega (arith, not_less)
      where
        not_less : ¬ (e.number ≤ shown_number r e.component)
        not_less l =
            let s = shows_positive r e.component (omega (arith, f.positive c e u)) in
            let x = g.not_early r e.component s.entry v s.is in
            let n = shown_number_at r e.component s.entry s.is in
            let k = (shown_in r e.component s.entry s.is).1 in
            let b = begins_no_later calls f c x.0 e s.entry u x.1 (sym k) (omega (arith, n)) in
            let p = precedes_to r c h in
            let same : Some p.place ≡ Some x.2.place = sym p.ends ∙ x.2.ends in
            let place : p.place ≡ x.2.place = cc in
            omega (arith, p.before, x.2.before, b, place)

pub meets_regular : (calls : List Call) → AreOrderedCalls calls → MeetsLocal calls → IsRegular calls
meets_regular calls f m = record { not_old = not_old; not_early = not_early }
  where
    not_old : (r c : Call) (e : Entry) → IsViewOf calls r → IsUpdateOf calls c e → shown_number r e.component < e.number → precedes c r ≡ false
    not_old r c e v u l = false_from_ne_true _ (λ h. omega (arith, m.old r c e v u h))

    not_early : (r : Call) (k : ℕ) (e : Entry) → IsViewOf calls r → shown r k ≡ Some e → (c : Call) × IsUpdateOf calls c e × IsBegunBeforeEnd c r
    not_early r k e v s =
        let x = m.integrity r k e v s in
        let t = f.answered r v in
        let n = shown_number_at r k e s in
        let comp = (shown_in r k e s).1 in
        let not_after : ¬ (t.place < x.0.begun) = λ l.
        let h = m.early r x.0 e v x.1 (precedes_from r x.0 (record { place = t.place; ends = t.ends; before = l })) in
        let h' : shown_number r k < e.number = subst (λ z. shown_number r z < e.number) comp h in omega (arith, n) in
        let other = f.apart r x.0 t.place v.there x.1.there t.ends in
        (x.0, x.1, record { place = t.place; ends = t.ends; before = omega (arith, not_after, other) })
