-- The latest begin and the earliest end of updates: each bounds them, and is that of one.
use Rattle.std.proofs.Common.{◌≡◌, ◌⊎◌, ℕ, ◌≤◌, Bool, true, false, cond, min, max, List, [], ◌∷◌, Option, Some, None, refl, sym, ap, ◌∙◌, subst, inl, inr, arith}
use Rattle.std.specs.Prelude.{nat_le}
use Rattle.std.proofs.lemmas.Bool.{false≢true, and_parts, and_from, eqb-true, eq-eqb, leb-true, leb-false, le-leb}
use Rattle.snap_core.specs.declared.entry.Entry.{Entry}
use Rattle.snap_core.specs.Calls.{Call, Operation, Updates, Views}
use Rattle.snap_core.proofs.Lists.{In}
use Rattle.snap_theory.specs.Intervals.{is_up_to, is_from_on, earlier, latest_begin, earliest_end}

-- an update of a component, with a number up to another or from it on
pub record UpTo (e : Entry) (c : Call) : Type 0 where
  pub entry : Entry
  pub writes : c.operation ≡ Updates entry
  pub component : entry.component ≡ e.component
  pub number : entry.number ≤ e.number

pub record FromOn (e : Entry) (c : Call) : Type 0 where
  pub entry : Entry
  pub writes : c.operation ≡ Updates entry
  pub component : entry.component ≡ e.component
  pub number : e.number ≤ entry.number

up_to : (e : Entry) (c : Call) → is_up_to e c.operation ≡ true → UpTo e c
up_to e c t = go c.operation refl t
  where
    go : (o : Operation) → c.operation ≡ o → is_up_to e o ≡ true → UpTo e c
    go (Updates d) w t = let p = and_parts _ _ t in record { entry = d; writes = w; component = eqb-true _ _ p.0; number = leb-true _ _ p.1 }
    go (Views answer) w t = absurd (false≢true t)

is_up : (e : Entry) (c : Call) → UpTo e c → is_up_to e c.operation ≡ true
is_up e c u = ap (is_up_to e) u.writes ∙ and_from _ _ (eq-eqb _ _ u.component) (le-leb _ _ u.number)

from_on : (e : Entry) (c : Call) → is_from_on e c.operation ≡ true → FromOn e c
from_on e c t = go c.operation refl t
  where
    go : (o : Operation) → c.operation ≡ o → is_from_on e o ≡ true → FromOn e c
    go (Updates d) w t = let p = and_parts _ _ t in record { entry = d; writes = w; component = eqb-true _ _ p.0; number = leb-true _ _ p.1 }
    go (Views answer) w t = absurd (false≢true t)

is_from : (e : Entry) (c : Call) → FromOn e c → is_from_on e c.operation ≡ true
is_from e c u = ap (is_from_on e) u.writes ∙ and_from _ _ (eq-eqb _ _ u.component) (le-leb _ _ u.number)

-- the latest begin

pub begins_by : (calls : List Call) (e : Entry) (c : Call) → In c calls → UpTo e c → c.begun ≤ latest_begin calls e
begins_by [] e c i u = absurd i
begins_by (x ∷ calls) e c (inl same) u =
    let t : is_up_to e x.operation ≡ true = ap (λ z. is_up_to e z.operation) same ∙ is_up e c u in
    let at = ap (λ b. cond b (max x.begun (latest_begin calls e)) (latest_begin calls e)) t in
    let begun : x.begun ≡ c.begun = ap (λ z. z.begun) same in
    omega (arith, at, begun)
begins_by (x ∷ calls) e c (inr i) u = go (is_up_to e x.operation) refl (begins_by calls e c i u)
  where
    go : (b : Bool) → is_up_to e x.operation ≡ b → c.begun ≤ latest_begin calls e → c.begun ≤ latest_begin (x ∷ calls) e
    go true t l = let at = ap (λ b. cond b (max x.begun (latest_begin calls e)) (latest_begin calls e)) t in omega (arith, at, l)
    go false t l = let at = ap (λ b. cond b (max x.begun (latest_begin calls e)) (latest_begin calls e)) t in omega (arith, at, l)

pub record Begins (calls : List Call) (e : Entry) (place : ℕ) : Type 0 where
  pub call : Call
  pub there : In call calls
  pub is : UpTo e call
  pub begun : call.begun ≡ place

latest_of : (calls : List Call) (e : Entry) → (latest_begin calls e ≡ 0) ⊎ Begins calls e (latest_begin calls e)
latest_of [] e = inl refl
latest_of (x ∷ calls) e = go (is_up_to e x.operation) refl (latest_of calls e)
  where
    later : (place : ℕ) → Begins calls e place → Begins (x ∷ calls) e place
    later place b = record { call = b.call; there = inr b.there; is = b.is; begun = b.begun }

    greater : (t : is_up_to e x.operation ≡ true) (n : ℕ) → n ≡ max x.begun (latest_begin calls e) → (latest_begin calls e ≡ 0) ⊎ Begins calls e (latest_begin calls e) → (n ≡ 0) ⊎ Begins (x ∷ calls) e n
    greater t n is rest = by (nat_le (latest_begin calls e) x.begun) refl rest
      where
        by : (b : Bool) → nat_le (latest_begin calls e) x.begun ≡ b → (latest_begin calls e ≡ 0) ⊎ Begins calls e (latest_begin calls e) → (n ≡ 0) ⊎ Begins (x ∷ calls) e n
        by true l rest = inr (record { call = x; there = inl refl; is = up_to e x t; begun = let low = leb-true _ _ l in omega (arith, low, is) })
        by false l (inl zero) = inr (record { call = x; there = inl refl; is = up_to e x t; begun = omega (arith, zero, is) })
        by false l (inr b) = let less = leb-false _ _ l in inr (later n (subst (Begins calls e) (let same : latest_begin calls e ≡ n = omega (arith, less, is) in same) b))

    go : (b : Bool) → is_up_to e x.operation ≡ b → (latest_begin calls e ≡ 0) ⊎ Begins calls e (latest_begin calls e) → (latest_begin (x ∷ calls) e ≡ 0) ⊎ Begins (x ∷ calls) e (latest_begin (x ∷ calls) e)
    go true t rest = greater t (latest_begin (x ∷ calls) e) (ap (λ b. cond b (max x.begun (latest_begin calls e)) (latest_begin calls e)) t) rest
    go false t (inl zero) = inl (ap (λ b. cond b (max x.begun (latest_begin calls e)) (latest_begin calls e)) t ∙ zero)
    go false t (inr b) = inr (later _ (subst (Begins calls e) (sym (ap (λ b. cond b (max x.begun (latest_begin calls e)) (latest_begin calls e)) t)) b))

-- of an update of the calls the latest begin is that of one of them
pub latest : (calls : List Call) (e : Entry) (c : Call) → In c calls → UpTo e c → Begins calls e (latest_begin calls e)
latest calls e c i u = elim (latest_of calls e) [
  | inl zero ↦ record { call = c; there = i; is = u; begun = let l = begins_by calls e c i u in omega (arith, l, zero) }
  | inr b ↦ b
]

-- the earliest end

pub record Ends (calls : List Call) (e : Entry) (place : ℕ) : Type 0 where
  pub call : Call
  pub there : In call calls
  pub is : FromOn e call
  pub ended : call.ended ≡ Some place

pub record EndsBy (o : Option ℕ) (place : ℕ) : Type 0 where
  pub end : ℕ
  pub is : o ≡ Some end
  pub by : end ≤ place

earlier_left : (o : Option ℕ) (place : ℕ) → EndsBy (earlier (Some place) o) place
earlier_left None place = record { end = place; is = refl; by = omega arith }
earlier_left (Some other) place = record { end = min place other; is = refl; by = omega arith }

earlier_right : (o p : Option ℕ) (place : ℕ) → EndsBy p place → EndsBy (earlier o p) place
earlier_right None p place h = h
earlier_right (Some other) p place h = subst (λ z. EndsBy (earlier (Some other) z) place) (sym h.is) (record { end = min other h.end; is = refl; by = let l = h.by in omega (arith, l) })

pub ends_by : (calls : List Call) (e : Entry) (c : Call) (place : ℕ) → In c calls → FromOn e c → c.ended ≡ Some place → EndsBy (earliest_end calls e) place
ends_by [] e c place i u is = absurd i
ends_by (x ∷ calls) e c place (inl same) u is =
    let t : is_from_on e x.operation ≡ true = ap (λ z. is_from_on e z.operation) same ∙ is_from e c u in
    let at = ap (λ b. cond b (earlier x.ended (earliest_end calls e)) (earliest_end calls e)) t in
    let end : x.ended ≡ Some place = ap (λ z. z.ended) same ∙ is in
    subst (λ z. EndsBy z place) (sym (at ∙ ap (λ z. earlier z (earliest_end calls e)) end)) (earlier_left (earliest_end calls e) place)
ends_by (x ∷ calls) e c place (inr i) u is = go (is_from_on e x.operation) refl (ends_by calls e c place i u is)
  where
    go : (b : Bool) → is_from_on e x.operation ≡ b → EndsBy (earliest_end calls e) place → EndsBy (earliest_end (x ∷ calls) e) place
    go true t h = subst (λ z. EndsBy z place) (sym (ap (λ b. cond b (earlier x.ended (earliest_end calls e)) (earliest_end calls e)) t)) (earlier_right x.ended (earliest_end calls e) place h)
    go false t h = subst (λ z. EndsBy z place) (sym (ap (λ b. cond b (earlier x.ended (earliest_end calls e)) (earliest_end calls e)) t)) h

-- an earlier end is one of the two
earlier_of : (o p : Option ℕ) (place : ℕ) → earlier o p ≡ Some place → (o ≡ Some place) ⊎ (p ≡ Some place)
earlier_of None p place h = inr h
earlier_of (Some a) None place h = inl h
earlier_of (Some a) (Some b) place h = go (nat_le a b) refl
  where
    is : min a b ≡ place
    is = cc h

    go : (t : Bool) → nat_le a b ≡ t → (Some a ≡ Some place) ⊎ (Some b ≡ Some place)
    go true l = let low = leb-true _ _ l in inl (ap Some (omega (arith, low, is)))
    go false l = let less = leb-false _ _ l in inr (ap Some (omega (arith, less, is)))

-- an end that the updates from one on have is that of one of them
pub earliest : (calls : List Call) (e : Entry) (place : ℕ) → earliest_end calls e ≡ Some place → Ends calls e place
earliest [] e place h = absurd (cc h)
earliest (x ∷ calls) e place h = go (is_from_on e x.operation) refl (earliest calls e place)
  where
    later : Ends calls e place → Ends (x ∷ calls) e place
    later b = record { call = b.call; there = inr b.there; is = b.is; ended = b.ended }

    go : (b : Bool) → is_from_on e x.operation ≡ b → (earliest_end calls e ≡ Some place → Ends calls e place) → Ends (x ∷ calls) e place
    go true t after = elim (earlier_of x.ended (earliest_end calls e) place (sym (ap (λ b. cond b (earlier x.ended (earliest_end calls e)) (earliest_end calls e)) t) ∙ h)) [
      | inl own ↦ record { call = x; there = inl refl; is = from_on e x t; ended = own }
      | inr rest ↦ later (after rest)
    ]
    go false t after = later (after (sym (ap (λ b. cond b (earlier x.ended (earliest_end calls e)) (earliest_end calls e)) t) ∙ h))
