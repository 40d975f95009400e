-- The earliest ends of sorted updates, one after another.
use Rattle.std.proofs.Common.{◌≡◌, ◌≢◌, ◌⊎◌, ℕ, ◌+◌, ◌<◌, Bool, true, false, min, List, length, get_or, Option, Some, None, refl, sym, ap, ◌∙◌, subst, inl, inr, arith}
use Rattle.std.specs.Prelude.{nat_le}
use Rattle.std.proofs.lemmas.Bool.{cases_order, leb-true, leb-false}
use Rattle.snap_core.specs.declared.entry.Entry.{Entry}
use Rattle.snap_core.specs.Calls.{Call}
use Rattle.snap_core.proofs.Lists.{In}
use Rattle.snap_theory.specs.Intervals.{earlier}
use Rattle.snap_theory.proofs.Intervals.{FromOn, EndsBy, ends_by, earliest}
use Rattle.snap_versions.specs.declared.update.Update.{Update}
use Rattle.snap_versions.specs.inside.Updates.{update_call, update_calls, AreSorted, end_among}
use Rattle.snap_versions.proofs.Sorted.{at, there, component_rises, number_rises, one_version, entry_at}

-- ends of which each comes by the other are the same
pub same_ends : (o p : Option ℕ) → ((place : ℕ) → o ≡ Some place → EndsBy p place) → ((place : ℕ) → p ≡ Some place → EndsBy o place) → o ≡ p
same_ends None None f g = refl
same_ends None (Some b) f g = let h = g b refl in let is = h.is in cc
same_ends (Some a) None f g = let h = f a refl in let is = h.is in cc
same_ends (Some a) (Some b) f g =
    let h = f a refl in
    let k = g b refl in
    let first : b ≡ h.end = let is = h.is in cc in
    let second : a ≡ k.end = let is = k.is in cc in
    let low = h.by in
    let high = k.by in
    ap Some (omega (arith, first, second, low, high))

-- the earlier of two ends comes by each, and is one of the two
earlier_left : (o p : Option ℕ) (place : ℕ) → o ≡ Some place → EndsBy (earlier o p) place
earlier_left None p place h = absurd (cc h)
earlier_left (Some a) None place h = record { end = a; is = refl; by = let e : a ≡ place = cc h in omega (arith, e) }
earlier_left (Some a) (Some b) place h = record { end = min a b; is = refl; by = let e : a ≡ place = cc h in omega (arith, e) }

earlier_right : (o p : Option ℕ) (place : ℕ) → EndsBy p place → EndsBy (earlier o p) place
earlier_right None p place h = h
earlier_right (Some other) p place h = subst (λ z. EndsBy (earlier (Some other) z) place) (sym h.is) (record { end = min other h.end; is = refl; by = let l = h.by in omega (arith, l) })

earlier_of : (o p : Option ℕ) (place : ℕ) → earlier o p ≡ Some place → (o ≡ Some place) ⊎ (p ≡ Some place)
earlier_of None p place h = inr h
earlier_of (Some a) None place h = inl h
earlier_of (Some a) (Some b) place h = go (nat_le a b) refl
  where
    is : min a b ≡ place
    is = cc h

    go : (t : Bool) → nat_le a b ≡ t → (Some a ≡ Some place) ⊎ (Some b ≡ Some place)
    go true l = let low = leb-true _ _ l in inl (ap Some (omega (arith, low, is)))
    go false l = let less = leb-false _ _ l in inr (ap Some (omega (arith, less, is)))

-- a call is that of a later update with the same component
record Behind (us : List Update) (d : Update) (i : ℕ) (c : Call) : Type 0 where
  pub place : ℕ
  pub within : place < length us
  pub behind : i < place
  pub component : (get_or us i d).entry.component ≡ (get_or us place d).entry.component
  pub is : update_call (get_or us place d) ≡ c

-- an update from another on is the same, or stands behind it
from_on_is : (us : List Update) → AreSorted us → (d : Update) (i : ℕ) → i < length us → (c : Call) → In c (update_calls us) → FromOn (get_or us i d).entry c → (update_call (get_or us i d) ≡ c) ⊎ Behind us d i c
from_on_is us s d i l c t u =
    let a = at us d c t in
    let e = entry_at us d c a u.entry u.writes in
    let component = ap (λ (x : Entry). x.component) e ∙ u.component in
    elim (cases_order a.place i) [
      | inl same ↦ inl (ap (λ k. update_call (get_or us k d)) (sym same) ∙ a.is)
      | inr (inl less) ↦
          let number = ap (λ (x : Entry). x.number) e in
          let high = u.number in
          let low = number_rises us s d a.place i (omega (arith, less)) l component in
          inl (one_version us s d i a.place l a.within (sym component) (omega (arith, number, low, high)) ∙ a.is)
      | inr (inr more) ↦ inr (record { place = a.place; within = a.within; behind = more; component = sym component; is = a.is })
    ]

own_end : (us : List Update) (d : Update) (i : ℕ) → i < length us → (place : ℕ) → (get_or us i d).ended ≡ Some place → EndsBy (end_among us (get_or us i d)) place
own_end us d i l place is =
    ends_by (update_calls us) (get_or us i d).entry (update_call (get_or us i d)) place (there us d i l) (record { entry = (get_or us i d).entry; writes = refl; component = refl; number = omega arith }) is

by_itself : (o : Option ℕ) (place : ℕ) → o ≡ Some place → EndsBy o place
by_itself o place h = record { end = place; is = h; by = omega arith }

-- the last update of a component
pub earliest_last : (us : List Update) → AreSorted us → (d : Update) (i : ℕ) → i < length us → (i + 1 < length us → (get_or us i d).entry.component ≢ (get_or us (i + 1) d).entry.component) →
    end_among us (get_or us i d) ≡ (get_or us i d).ended
earliest_last us s d i l last = same_ends _ _ first (own_end us d i l)
  where
    none : {c : Call} → Behind us d i c → ⊥
    none b =
        let m = b.behind in
        let within = b.within in
        let low = component_rises us s d i (i + 1) (omega arith) (omega (arith, m, within)) in
        let high = component_rises us s d (i + 1) b.place (omega (arith, m)) within in
        let same = b.component in
        last (omega (arith, m, within)) (omega (arith, low, high, same))

    first : (place : ℕ) → end_among us (get_or us i d) ≡ Some place → EndsBy (get_or us i d).ended place
    first place h =
        let e = earliest (update_calls us) (get_or us i d).entry place h in
        elim (from_on_is us s d i l e.call e.there e.is) [
          | inl same ↦ by_itself _ place (ap (λ (x : Call). x.ended) same ∙ e.ended)
          | inr behind ↦ absurd (none behind)
        ]

-- an update with another one of its component behind it
pub earliest_next : (us : List Update) → AreSorted us → (d : Update) (i : ℕ) → i + 1 < length us → (get_or us i d).entry.component ≡ (get_or us (i + 1) d).entry.component →
    end_among us (get_or us i d) ≡ earlier (get_or us i d).ended (end_among us (get_or us (i + 1) d))
earliest_next us s d i l one = same_ends _ _ first second
  where
    within : i < length us
    within = omega (arith, l)

    first : (place : ℕ) → end_among us (get_or us i d) ≡ Some place → EndsBy (earlier (get_or us i d).ended (end_among us (get_or us (i + 1) d))) place
    first place h =
        let e = earliest (update_calls us) (get_or us i d).entry place h in
        elim (from_on_is us s d i within e.call e.there e.is) [
          | inl same ↦ earlier_left _ _ place (ap (λ (x : Call). x.ended) same ∙ e.ended)
          | inr b ↦
              let m = b.behind in
              let component = sym b.component ∙ one in
              let number = number_rises us s d (i + 1) b.place (omega (arith, m)) b.within (sym component) in
              earlier_right _ _ place (ends_by (update_calls us) (get_or us (i + 1) d).entry e.call place e.there
              (record { entry = (get_or us b.place d).entry; writes = sym (ap (λ (x : Call). x.operation) b.is); component = component; number = number }) e.ended)
        ]

    second : (place : ℕ) → earlier (get_or us i d).ended (end_among us (get_or us (i + 1) d)) ≡ Some place → EndsBy (end_among us (get_or us i d)) place
    second place h = elim (earlier_of _ _ place h) [
      | inl own ↦ own_end us d i within place own
      | inr rest ↦
          let e = earliest (update_calls us) (get_or us (i + 1) d).entry place rest in
          let number = e.is.number in
          let rises = number_rises us s d i (i + 1) (omega arith) l one in
          ends_by (update_calls us) (get_or us i d).entry e.call place e.there
          (record { entry = e.is.entry; writes = e.is.writes; component = e.is.component ∙ sym one; number = omega (arith, number, rises) }) e.ended
    ]
