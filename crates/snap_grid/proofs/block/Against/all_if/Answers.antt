use Rattle.std.proofs.Common.{sym, ◌∙◌, ap, cond, ℕ}
use Rattle.std.proofs.lemmas.Nat.Bits.{bit_at-zero}
use Rattle.snap_masks.proofs.Bits.{mask_from_bits}
use Rattle.snap_grid.proofs.block.Against.all_if.Goals as goal

pub returns-else-all : goal.returns-else-all
returns-else-all c = c.none.ensures ∙ mask_from_bits (λ a. c.args.all) c.args.self.now.ours 0 (λ i l. bit_at-zero i ∙ sym (ap {B = ℕ} (λ b. cond b 1 0) c.if-all.false)) (λ i l. bit_at-zero i)
