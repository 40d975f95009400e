use Rattle.std.proofs.Common.{◌≡◌, ◌<◌, ◌≤◌, ◌+◌, ℕ, suc, length, take, get_or}
use Rattle.std.specs.Prelude.{nat_lt, ◌==◌}
use Rattle.snap_masks.specs.Masks.{mask_by}
use Rattle.snap_masks.proofs.masks.fill.Given as goal

abbrev pub invariant-loop-i : goal.invariant-loop-i
invariant-loop-i l = record {
  size : length l.table ≡ length l.fn.table;
  first : get_or l.table 0 0 ≡ 0;
  equal : (x : ℕ) → suc x < length l.fn.table → get_or l.table (suc x) 0 ≡ mask_by (λ n. n == l.least + x) (take l.i l.numbers);
}

abbrev pub invariant-loop-x : goal.invariant-loop-x
invariant-loop-x l = record {
  size : length l.table ≡ length l.fn.table;
  below : (x : ℕ) → x < l.x → x < length l.fn.table → get_or l.table x 0 ≡ mask_by (λ n. nat_lt n (l.least + x)) l.numbers;
  equal : (x : ℕ) → l.x ≤ suc x → suc x < length l.fn.table → get_or l.table (suc x) 0 ≡ mask_by (λ n. n == l.least + x) l.numbers;
}
