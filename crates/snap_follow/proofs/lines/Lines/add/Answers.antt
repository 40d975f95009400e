use Rattle.std.proofs.Common.{subst, sym}
use Rattle.snap_follow.specs.Bytes.{AreWholeLines}
use Rattle.snap_follow.proofs.Sending.{added_whole}
use Rattle.snap_follow.proofs.lines.Lines.add.Goals as goal

pub invariant_of-self : goal.invariant_of-self
invariant_of-self c = subst AreWholeLines (sym c.extend_from_slice.ensures.items) (added_whole c.extend_from_slice.result c.self.inside.bytes.items c.args.lines.now c.self.invariant c.requires)
