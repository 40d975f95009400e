-- The latest begins of sorted updates, one after another.
use Rattle.std.proofs.Common.{◌≡◌, ◌≢◌, ◌⊎◌, ℕ, zero, suc, ◌+◌, ◌-◌, ◌<◌, ◌≤◌, max, List, map, take, length, get_or, refl, sym, ap, ◌∙◌, subst, inl, inr, arith, length-take-le}
use Rattle.std.proofs.lemmas.Bool.{cases_order}
use Rattle.std.proofs.lemmas.List.{get_or-map, get_or-take}
use Rattle.snap_core.specs.declared.entry.Entry.{Entry}
use Rattle.snap_core.specs.Calls.{Call}
use Rattle.snap_core.proofs.Lists.{In}
use Rattle.snap_theory.proofs.Intervals.{UpTo, Begins, begins_by, latest}
use Rattle.snap_versions.specs.declared.update.Update.{Update}
use Rattle.snap_versions.specs.inside.Updates.{update_call, update_calls, AreSorted, begin_among}
use Rattle.snap_versions.proofs.Sorted.{at, there, component_rises, number_rises, one_version, entry_at}

-- a call is that of an earlier update with the same component
record Before (us : List Update) (d : Update) (i : ℕ) (c : Call) : Type 0 where
  pub place : ℕ
  pub before : place < i
  pub component : (get_or us place d).entry.component ≡ (get_or us i d).entry.component
  pub is : update_call (get_or us place d) ≡ c

-- an update up to another begins with it, or comes before it
up_to_is : (us : List Update) → AreSorted us → (d : Update) (i : ℕ) → i < length us → (c : Call) → In c (update_calls us) → UpTo (get_or us i d).entry c → (c.begun ≡ (get_or us i d).begun) ⊎ Before us d i c
up_to_is us s d i l c t u =
    let a = at us d c t in
    let e = entry_at us d c a u.entry u.writes in
    let component = ap (λ (x : Entry). x.component) e ∙ u.component in
    elim (cases_order a.place i) [
      | inl same ↦ inl (sym (ap (λ (x : Call). x.begun) a.is) ∙ ap (λ k. (get_or us k d).begun) same)
      | inr (inl less) ↦ inr (record { place = a.place; before = less; component = component; is = a.is })
      | inr (inr more) ↦
          let number = ap (λ (x : Entry). x.number) e in
          let low = u.number in
          let high = number_rises us s d i a.place (omega (arith, more)) a.within (sym component) in
          inl (ap (λ (x : Call). x.begun) (sym a.is ∙ one_version us s d a.place i a.within l component (omega (arith, number, low, high))))
    ]

own : (us : List Update) (d : Update) (i : ℕ) → UpTo (get_or us i d).entry (update_call (get_or us i d))
own us d i = record { entry = (get_or us i d).entry; writes = refl; component = refl; number = omega arith }

attained : (us : List Update) (d : Update) (i : ℕ) → i < length us → Begins (update_calls us) (get_or us i d).entry (begin_among us (get_or us i d))
attained us d i l = latest (update_calls us) (get_or us i d).entry (update_call (get_or us i d)) (there us d i l) (own us d i)

own_begin : (us : List Update) (d : Update) (i : ℕ) → i < length us → (get_or us i d).begun ≤ begin_among us (get_or us i d)
own_begin us d i l = begins_by (update_calls us) (get_or us i d).entry (update_call (get_or us i d)) (there us d i l) (own us d i)

-- the first update of a component
pub latest_first : (us : List Update) → AreSorted us → (d : Update) (i : ℕ) → i < length us → ((j : ℕ) → j + 1 ≡ i → (get_or us j d).entry.component ≢ (get_or us i d).entry.component) →
    begin_among us (get_or us i d) ≡ (get_or us i d).begun
latest_first us s d i l new =
    let b = attained us d i l in
    elim (up_to_is us s d i l b.call b.there b.is) [
      | inl begun ↦ sym b.begun ∙ begun
      | inr before ↦ absurd (none i l new before)
    ]
  where
    none : (i : ℕ) → i < length us → ((j : ℕ) → j + 1 ≡ i → (get_or us j d).entry.component ≢ (get_or us i d).entry.component) → {c : Call} → Before us d i c → ⊥
    none zero l new b = let m = b.before in omega (arith, m)
    none (suc p) l new b =
        let m = b.before in
        let low = component_rises us s d b.place p (omega (arith, m)) (omega (arith, l)) in
        let high = component_rises us s d p (suc p) (omega arith) l in
        let same = b.component in
        new p (omega arith) (omega (arith, low, high, same))

-- an update behind another one of its component
pub latest_next : (us : List Update) → AreSorted us → (d : Update) (i : ℕ) → i + 1 < length us → (get_or us i d).entry.component ≡ (get_or us (i + 1) d).entry.component →
    begin_among us (get_or us (i + 1) d) ≡ max (get_or us (i + 1) d).begun (begin_among us (get_or us i d))
latest_next us s d i l one =
    let b = attained us d (i + 1) l in
    let begun = b.begun in
    let own_low = own_begin us d (i + 1) l in
    let low = lower in
    elim (up_to_is us s d (i + 1) l b.call b.there b.is) [
      | inl e ↦ omega (arith, begun, own_low, low, e)
      | inr before ↦ let high = upper b.call b.there before in omega (arith, begun, own_low, low, high)
    ]
  where
    lower : begin_among us (get_or us i d) ≤ begin_among us (get_or us (i + 1) d)
    lower =
        let b = attained us d i (omega (arith, l)) in
        let number = b.is.number in
        let rises = number_rises us s d i (i + 1) (omega arith) l one in
        let begun = b.begun in
        let by = begins_by (update_calls us) (get_or us (i + 1) d).entry b.call b.there (record { entry = b.is.entry; writes = b.is.writes; component = b.is.component ∙ one; number = omega (arith, number, rises) }) in
        omega (arith, begun, by)

    upper : (c : Call) → In c (update_calls us) → Before us d (i + 1) c → c.begun ≤ begin_among us (get_or us i d)
    upper c t b =
        let before = b.before in
        let component = b.component ∙ sym one in
        begins_by (update_calls us) (get_or us i d).entry c t
        (record { entry = (get_or us b.place d).entry; writes = sym (ap (λ (x : Call). x.operation) b.is); component = component; number = number_rises us s d b.place i (omega (arith, before)) (omega (arith, l)) component })

-- the same by the latest begins up to the updates before one
pub latest_behind : (us : List Update) → AreSorted us → (d : Update) (place : ℕ) → 0 < place → place < length us →
    (get_or us (place - 1) d).entry.component ≡ (get_or us (place - 1 + 1) d).entry.component → (begins : List ℕ) → begins ≡ map (begin_among us) (take place us) →
    begin_among us (get_or us place d) ≡ max (get_or us place d).begun (get_or begins (place - 1) 0)
latest_behind us s d place some l one begins are =
    let back : place - 1 + 1 ≡ place = omega (arith, some) in
    let size = length-take-le place us (omega (arith, l)) in
    let read : get_or begins (place - 1) 0 ≡ begin_among us (get_or us (place - 1) d) =
    ap (λ z. get_or z (place - 1) 0) are ∙ get_or-map (begin_among us) (take place us) (place - 1) d 0 (omega (arith, size, some))
    ∙ ap (begin_among us) (get_or-take place us (place - 1) d (omega (arith, some))) in
    subst (λ k. begin_among us (get_or us k d) ≡ max (get_or us k d).begun (get_or begins (place - 1) 0)) back
    (latest_next us s d (place - 1) (omega (arith, some, l)) one ∙ ap (max (get_or us (place - 1 + 1) d).begun) (sym read))

-- an update with another component than the one before it
pub latest_new : (us : List Update) → AreSorted us → (d : Update) (place : ℕ) → place < length us → (0 < place → (get_or us (place - 1) d).entry.component ≢ (get_or us (place - 1 + 1) d).entry.component) →
    begin_among us (get_or us place d) ≡ (get_or us place d).begun
latest_new us s d place l new = latest_first us s d place l (λ j next same.
    let p : place - 1 ≡ j = omega (arith, next) in
    let q : place - 1 + 1 ≡ place = omega (arith, next) in
    new (omega (arith, next)) (ap (λ k. (get_or us k d).entry.component) p ∙ same ∙ ap (λ k. (get_or us k d).entry.component) (sym q)))
