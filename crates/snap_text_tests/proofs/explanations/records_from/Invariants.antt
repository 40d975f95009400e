use Rattle.std.proofs.Common.{◌≡◌, vec_len}
use Rattle.snap_text_tests.proofs.explanations.records_from.Given as goal

abbrev pub invariant-loop-place : goal.invariant-loop-place
invariant-loop-place l = vec_len l.records ≡ l.place
