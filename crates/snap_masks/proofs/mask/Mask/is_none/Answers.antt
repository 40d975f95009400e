use Rattle.std.proofs.lemmas.Bool.{eqb-true}
use Rattle.snap_masks.proofs.Lanes.{fold_none}
use Rattle.snap_masks.proofs.mask.Mask.is_none.Goals as goal

pub returns : goal.returns
returns c = rw (← c.self.view_is) (λ h. (fold_none c.self.inside.lanes 0 (eqb-true _ _ h)).1)
