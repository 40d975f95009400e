use Rattle.std.proofs.Common.{ap, sym}
use Rattle.snap_explain.specs.Refusals.{rule_of as spec_rule_of}
use Rattle.snap_explain.proofs.refusal.rule_of.Goals as goal

pub returns-in-BadData : goal.returns-in-BadData
returns-in-BadData c = sym (ap spec_rule_of c.in-BadData.is)
