use Rattle.std.proofs.Common.{length, sym, arith}
use Rattle.std.specs.Prelude.{nat_lt}
use Rattle.std.proofs.lemmas.Bool.{lt-ltb, le-ltb}
use Rattle.std.proofs.lemmas.List.Sums.{position_or_len_is}
use Rattle.snap_conditions.proofs.write.first_behind.Goals as goal

pub returns-then-ended-begins : goal.returns-then-ended-begins
returns-then-ended-begins c =
    sym (position_or_len_is (λ b. nat_lt c.args.ended b) c.args.begins.now c.loop-i.i 0 (omega (arith, c.loop-i-test.true)) (λ k l. le-ltb _ _ (c.loop-i.invariant k l)) (λ l. lt-ltb _ _ c.if-ended-begins.true))

pub returns : goal.returns
returns c =
    sym (position_or_len_is (λ b. nat_lt c.args.ended b) c.args.begins.now (length c.args.begins.now) 0 (omega arith) (λ k l. le-ltb _ _ (c.loop-i.invariant k (omega (arith, l, c.loop-i-test.false)))) (λ l. absurd (omega (arith, l))))
