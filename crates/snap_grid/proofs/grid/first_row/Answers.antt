use Rattle.std.proofs.Common.{◌≡◌, ◌+◌, ℕ, Bool, true, false, cond, Some, None, refl, sym, ap, ◌∙◌, inl, inr, arith}
use Rattle.std.specs.Int.{bit_at}
use Rattle.std.specs.Prelude.{find}
use Rattle.std.specs.List.{range_with_len}
use Rattle.std.proofs.lemmas.Bool.{cases_lt}
use Rattle.std.proofs.lemmas.Nat.Bits.{bit_at-zero}
use Rattle.snap_masks.specs.Masks.{mask_below, IsFirstBit}
use Rattle.snap_masks.proofs.Bits.{bit_below, bit_not_below}
use Rattle.snap_grid.proofs.Clashing.{find_first, find_nothing}
use Rattle.snap_grid.proofs.grid.first_row.Goals as goal

clear : (b : Bool) (x : ℕ) → x ≡ cond b 1 0 → x ≡ 0 → b ≡ false
clear true x e h = absurd (omega (arith, e, h))
clear false x e h = refl

is_set : (b : Bool) (x : ℕ) → x ≡ cond b 1 0 → x ≡ 1 → b ≡ true
is_set true x e h = refl
is_set false x e h = absurd (omega (arith, e, h))

no_row : (from n rows : ℕ) (p : ℕ → Bool) → rows ≡ mask_below (λ a. p (from + a)) n → rows ≡ 0 → None ≡ find p (range_with_len from n)
no_row from n rows p e none = sym (find_nothing p n from (λ a l. clear (p (from + a)) (bit_at rows a) (ap (λ m. bit_at m a) e ∙ bit_below (λ a. p (from + a)) n a l) (ap (λ m. bit_at m a) none ∙ bit_at-zero a)))

some_row : (from n rows t : ℕ) (p : ℕ → Bool) → rows ≡ mask_below (λ a. p (from + a)) n → IsFirstBit rows (Some t) → Some (from + t) ≡ find p (range_with_len from n)
some_row from n rows t p e first = elim (cases_lt t n) [
  | inl l ↦ sym (find_first p n from t l (is_set (p (from + t)) (bit_at rows t) (ap (λ m. bit_at m t) e ∙ bit_below (λ a. p (from + a)) n t l) first.1)
      (λ a m. clear (p (from + a)) (bit_at rows a) (ap (λ z. bit_at z a) e ∙ bit_below (λ a. p (from + a)) n a (omega (arith, m, l))) (first.2 a m)))
  | inr l ↦ absurd (omega (arith, first.1, ap (λ z. bit_at z t) e, bit_not_below (λ a. p (from + a)) n t l))
]

pub overflow_add-result : goal.overflow_add-result
overflow_add-result c = record { fits = omega (arith, c.requires, c.in_ok-first.ensures.0) }

pub returns-in_err-first : goal.returns-in_err-first
returns-in_err-first c = λ n p e. c.from_residual.ensures ∙ no_row c.args.from n c.args.rows.now p e c.in_err-first.ensures

pub returns : goal.returns
returns c = λ n p e. some_row c.args.from n c.args.rows.now c.in_ok-first.first p e c.in_ok-first.ensures
