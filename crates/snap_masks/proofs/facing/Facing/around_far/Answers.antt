use Rattle.std.proofs.Common.{◌≡◌, ◌+◌, ◌∙◌, sym, ap}
use Rattle.std.specs.Prelude.{nat_lt}
use Rattle.std.proofs.lemmas.Option.{same_Some}
use Rattle.snap_masks.specs.Numbers.{number}
use Rattle.snap_masks.specs.Masks.{mask_by}
use Rattle.snap_masks.proofs.facing.Facing.around_far.Goals as goal

pub returns-clause-below : goal.returns-clause-below
returns-clause-below c =
    let me = c.args.self.now in
    let same : c.in-Some.ranked ≡ me.ours.now = same_Some c.in-Some.ranked me.ours.now (sym c.in-Some.is ∙ me.ranked_else c.requires.far) in
    c.around.ensures.below ∙ ap (mask_by (λ n. nat_lt n (number me.theirs.now c.args.row))) same

pub returns-clause-at_most : goal.returns-clause-at_most
returns-clause-at_most c =
    let me = c.args.self.now in
    let same : c.in-Some.ranked ≡ me.ours.now = same_Some c.in-Some.ranked me.ours.now (sym c.in-Some.is ∙ me.ranked_else c.requires.far) in
    c.around.ensures.at_most ∙ ap (mask_by (λ n. nat_lt n (number me.theirs.now c.args.row + 1))) same
