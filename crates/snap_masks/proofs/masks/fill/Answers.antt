use Rattle.std.proofs.Common.{◌≡◌, ◌≤◌, ◌<◌, ◌+◌, ◌-◌, ◌^◌, ℕ, suc, List, take, set, length, get_or, refl, sym, ap, ◌∙◌, inl, inr, arith, length-set, get_or-set_same, get_or-set_other}
use Rattle.std.specs.Prelude.{nat_lt, ◌==◌, bit_or}
use Rattle.std.proofs.lemmas.Bool.{cases_eq, eq-eqb, ne_eqb, le-ltb}
use Rattle.std.proofs.lemmas.List.{take_all, get_or_default}
use Rattle.snap_masks.specs.Masks.{mask_by}
use Rattle.snap_masks.proofs.Bits.{mask_none, mask_set, mask_more_no, up_or}
use Rattle.snap_masks.proofs.masks.fill.Goals as goal

-- the table with one more number put
put : (numbers table : List ℕ) (least i new : ℕ) → i < length numbers → least ≤ get_or numbers i 0 → get_or numbers i 0 - least + 1 < length table → new ≡ bit_or (get_or table (get_or numbers i 0 - least + 1) 0) (2 ^ i) →
    ((x : ℕ) → suc x < length table → get_or table (suc x) 0 ≡ mask_by (λ n. n == least + x) (take i numbers)) →
    (x : ℕ) → suc x < length table → get_or (set table (get_or numbers i 0 - least + 1) new) (suc x) 0 ≡ mask_by (λ n. n == least + x) (take (i + 1) numbers)
put numbers table least i new l low m e h x k = elim (cases_eq (get_or numbers i 0) (least + x)) [
  | inl same ↦
      let place : get_or numbers i 0 - least + 1 ≡ suc x = omega (arith, same, low) in
      ap (λ z. get_or (set table z new) (suc x) 0) place ∙ get_or-set_same table (suc x) new 0 k ∙ e ∙ ap (λ z. bit_or (get_or table z 0) (2 ^ i)) place
      ∙ mask_set (λ n. n == least + x) numbers i (get_or table (suc x) 0) l (eq-eqb _ _ same) (h x k)
  | inr other ↦ get_or-set_other table (get_or numbers i 0 - least + 1) (suc x) new 0 (λ q. other (omega (arith, q, low))) ∙ h x k ∙ sym (mask_more_no (λ n. n == least + x) numbers i l (ne_eqb _ _ other))
]

pub overflow_sub-numbers : goal.overflow_sub-numbers
overflow_sub-numbers c = c.requires.least c.loop-i.i c.loop-i-test.true

pub bounds-table-numbers : goal.bounds-table-numbers
bounds-table-numbers c = omega (arith, c.requires.within c.loop-i.i c.loop-i-test.true, c.loop-i.invariant.size)

pub loop-i-preserved : goal.loop-i-preserved
loop-i-preserved c =
    let numbers = c.args.numbers.now in
    let least = c.args.least in
    let i = c.loop-i.i in
    let place : get_or numbers i 0 - least + 1 < length c.loop-i.table = omega (arith, c.requires.within i c.loop-i-test.true, c.loop-i.invariant.size) in
    let put_is = c.set.ensures ∙ ap (λ m. bit_or m (2 ^ i)) (get_or_default c.loop-i.table (get_or numbers i 0 - least + 1) c.index-table-numbers.result 0 place) in
    record {
      size = length-set _ _ _ ∙ c.loop-i.invariant.size;
      first = get_or-set_other c.loop-i.table (get_or numbers i 0 - least + 1) 0 _ 0 (λ q. absurd (omega (arith, q))) ∙ c.loop-i.invariant.first;
      equal = λ x k. put numbers c.loop-i.table least i _ c.loop-i-test.true (c.requires.least i c.loop-i-test.true) place put_is (λ y m. c.loop-i.invariant.equal y (omega (arith, m, c.loop-i.invariant.size))) x (omega (arith, k, c.loop-i.invariant.size));
    }

pub loop-x-init : goal.loop-x-init
loop-x-init c = record {
  size = c.loop-i.invariant.size;
  below = λ x l m.
      let zero : x ≡ 0 = omega (arith, l) in
      ap (λ z. get_or c.loop-i.table z 0) zero ∙ c.loop-i.invariant.first ∙ sym (mask_none (λ n. nat_lt n (c.args.least + x)) c.args.numbers.now (λ i k. le-ltb _ _ (omega (arith, zero, c.requires.least i k))));
  equal = λ x l m. c.loop-i.invariant.equal x m ∙ ap (mask_by (λ n. n == c.args.least + x)) (take_all c.loop-i.i c.args.numbers.now c.loop-i-test.false);
}

-- a step of the joins
joined : (numbers table : List ℕ) (least x y size : ℕ) → 1 ≤ x → y ≡ x - 1 → x < size → ((x' : ℕ) → x' < x → x' < size → get_or table x' 0 ≡ mask_by (λ n. nat_lt n (least + x')) numbers) →
    ((x' : ℕ) → x ≤ suc x' → suc x' < size → get_or table (suc x') 0 ≡ mask_by (λ n. n == least + x') numbers) → bit_or (get_or table x 0) (get_or table y 0) ≡ mask_by (λ n. nat_lt n (least + x)) numbers
joined numbers table least x y size l e m h g =
    let place : x ≡ suc y = omega (arith, e, l) in
    let here : get_or table x 0 ≡ mask_by (λ n. n == least + y) numbers = ap (λ z. get_or table z 0) place ∙ g y (omega (arith, place)) (omega (arith, m, place)) in
    let next : least + y + 1 ≡ least + x = omega (arith, place) in
    (λ i. bit_or (here i) (h y (omega (arith, place)) (omega (arith, m, place)) i)) ∙ up_or numbers (least + y) ∙ ap (λ z. mask_by (λ n. nat_lt n z) numbers) next

pub loop-x-preserved : goal.loop-x-preserved
loop-x-preserved c =
    let both = joined c.args.numbers.now c.loop-x.table c.args.least c.loop-x.x (c.loop-x.x - 1) (length c.args.table.now) (omega arith) refl (omega (arith, c.loop-x-test.true, c.loop-x.invariant.size)) c.loop-x.invariant.below c.loop-x.invariant.equal in
    let here : c.loop-x.x < length c.loop-x.table = omega (arith, c.loop-x-test.true, c.loop-x.invariant.size, c.loop-i.invariant.size) in
    let new : c.or.result ≡ bit_or (get_or c.loop-x.table c.loop-x.x 0) (get_or c.loop-x.table (c.loop-x.x - 1) 0) =
    c.or.ensures ∙ (λ i. bit_or ((c.index-table-x.is ∙ get_or_default c.loop-x.table c.loop-x.x c.index-table-x.result 0 here) i) ((c.index-table-x-in-loop-x.is ∙ get_or_default c.loop-x.table (c.loop-x.x - 1) c.index-table-x-in-loop-x.result 0 (omega (arith, here))) i)) in
    record {
      size = length-set _ _ _ ∙ c.loop-x.invariant.size;
      below = λ x l m. elim (cases_eq x c.loop-x.x) [
        | inl same ↦ ap (λ z. get_or (set c.loop-x.table c.loop-x.x c.or.result) z 0) same ∙ get_or-set_same c.loop-x.table c.loop-x.x _ 0 (omega (arith, m, same, c.loop-x.invariant.size)) ∙ new ∙ both ∙ ap (λ z. mask_by (λ n. nat_lt n (c.args.least + z)) c.args.numbers.now) (sym same)
        | inr other ↦ get_or-set_other c.loop-x.table c.loop-x.x x _ 0 other ∙ c.loop-x.invariant.below x (omega (arith, l, other)) m
      ];
      equal = λ x l m. get_or-set_other c.loop-x.table c.loop-x.x (suc x) _ 0 (λ q. absurd (omega (arith, q, l))) ∙ c.loop-x.invariant.equal x (omega (arith, l)) m;
    }
