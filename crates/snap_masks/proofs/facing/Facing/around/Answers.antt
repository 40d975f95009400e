use Rattle.std.proofs.Common.{◌≡◌, ◌<◌, ◌≤◌, ◌+◌, ◌-◌, ℕ, suc, List, length, get_or, sym, ap, ◌∙◌, inl, inr, arith}
use Rattle.std.specs.Prelude.{nat_lt, min}
use Rattle.std.proofs.lemmas.Bool.{cases_lt, cases_eq, lt-ltb, le-ltb}
use Rattle.std.proofs.lemmas.List.{get_or_default}
use Rattle.snap_masks.specs.declared.bounds.Bounds.{Bounds}
use Rattle.snap_masks.specs.Numbers.{number}
use Rattle.snap_masks.specs.Masks.{mask_by}
use Rattle.snap_masks.specs.inside.Tables.{AreUnder}
use Rattle.snap_masks.proofs.Bits.{mask_none, mask_same}
use Rattle.snap_masks.proofs.facing.Facing.around.Goals as goal

-- the first two masks of a table have no number and the last two have all, so they stand for each x before and after it
module _ (numbers : List ℕ) (bounds : Bounds) (under : List ℕ) (x place : ℕ) (tables : AreUnder numbers bounds under) (some : 0 < length under) (e : place ≡ min (x + 1 - bounds.least) (length under - 2)) where
  below_at : get_or under place 0 ≡ mask_by (λ n. nat_lt n x) numbers
  below_at = elim (cases_eq place 0) [
    | inl none ↦
        ap (λ p. get_or under p 0) none ∙ tables.first
        ∙ sym (mask_none (λ n. nat_lt n x) numbers (λ i l. le-ltb _ _ (omega (arith, none, e, (tables.bounded i l).0, (tables.long some).0))))
    | inr other ↦
        let next : place ≡ suc (place - 1) = omega (arith, other) in
        ap (λ p. get_or under p 0) next ∙ tables.tabled (place - 1) (omega (arith, next, e, (tables.long some).0))
        ∙ mask_same (λ n. nat_lt n (bounds.least + (place - 1))) (λ n. nat_lt n x) numbers (λ i l. same other (get_or numbers i 0) (tables.bounded i l).0 (tables.bounded i l).1)
  ]
    where
      same : (place ≡ 0 → Prim.⊥) → (n : ℕ) → bounds.least ≤ n → n ≤ bounds.greatest → nat_lt n (bounds.least + (place - 1)) ≡ nat_lt n x
      same other n l m = elim (cases_lt n x) [
        | inl under_x ↦ lt-ltb _ _ (omega (arith, l, m, under_x, other, e, (tables.long some).1)) ∙ sym (lt-ltb _ _ under_x)
        | inr above ↦ le-ltb _ _ (omega (arith, l, above, other, e)) ∙ sym (le-ltb _ _ above)
      ]

  at_most_at : get_or under (place + 1) 0 ≡ mask_by (λ n. nat_lt n (x + 1)) numbers
  at_most_at =
      let next : place + 1 ≡ suc place = omega arith in
      ap (λ p. get_or under p 0) next ∙ tables.tabled place (omega (arith, e, (tables.long some).0))
      ∙ mask_same (λ n. nat_lt n (bounds.least + place)) (λ n. nat_lt n (x + 1)) numbers (λ i l. same (get_or numbers i 0) (tables.bounded i l).0 (tables.bounded i l).1)
    where
      same : (n : ℕ) → bounds.least ≤ n → n ≤ bounds.greatest → nat_lt n (bounds.least + place) ≡ nat_lt n (x + 1)
      same n l m = elim (cases_lt n (x + 1)) [
        | inl under_x ↦ lt-ltb _ _ (omega (arith, l, m, under_x, e, (tables.long some).1)) ∙ sym (lt-ltb _ _ under_x)
        | inr above ↦ le-ltb _ _ (omega (arith, l, above, e)) ∙ sym (le-ltb _ _ above)
      ]

pub returns-clause-below : goal.returns-clause-below
returns-clause-below c =
    let me = c.args.self.now in
    let place : c.min-place.result ≡ min (number me.theirs.now c.args.row + 1 - me.bounds.least) (length me.under.now - 2) = omega (arith, c.min-place.ensures, c.saturating_sub-behind.ensures, c.from.ensures, c.from-x.ensures) in
    get_or_default me.under.now c.min-place.result c.index-self-place.result 0 (omega (arith, place, (me.tables.long c.requires.tabled).0)) ∙ below_at me.ours.now me.bounds me.under.now (number me.theirs.now c.args.row) c.min-place.result me.tables c.requires.tabled place

pub returns-clause-at_most : goal.returns-clause-at_most
returns-clause-at_most c =
    let me = c.args.self.now in
    let place : c.min-place.result ≡ min (number me.theirs.now c.args.row + 1 - me.bounds.least) (length me.under.now - 2) = omega (arith, c.min-place.ensures, c.saturating_sub-behind.ensures, c.from.ensures, c.from-x.ensures) in
    get_or_default me.under.now (c.min-place.result + 1) c.index-self-place-2.result 0 (omega (arith, place, (me.tables.long c.requires.tabled).0)) ∙ at_most_at me.ours.now me.bounds me.under.now (number me.theirs.now c.args.row) c.min-place.result me.tables c.requires.tabled place
