use Rattle.std.proofs.Common.{rules}
use Rattle.snap_account.proofs.limit.TickLimit.new.Goals as goal

pub returns-then-not-contains-clause-given : goal.returns-then-not-contains-clause-given
returns-then-not-contains-clause-given c = search rules

pub invariant_of-result : goal.invariant_of-result
invariant_of-result c = search rules
