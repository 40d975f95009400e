use Rattle.std.proofs.Common.{refl}
use Rattle.snap_masks.proofs.Lanes.{set_lanes, set_number}
use Rattle.snap_masks.proofs.mask.Mask.set.Goals as goal

pub invariant_of-self : goal.invariant_of-self
invariant_of-self c = set_lanes c.self.inside.lanes c.args.row _ c.self.invariant c.requires refl

pub returns : goal.returns
returns c = rw (← c.self.view_is) (set_number c.self.inside.lanes c.args.row _ c.self.invariant c.requires refl)
