use Rattle.std.proofs.Common.{◌+◌, ◌<◌, ◌||◌, length, ap, sym, ◌∙◌, not, arith}
use Rattle.std.specs.Prelude.{true, false, nat_lt}
use Rattle.std.proofs.lemmas.List.{take_all}
use Rattle.snap_masks.specs.declared.facing.Facing.{Facing}
use Rattle.snap_grid.specs.Columns.{number}
use Rattle.snap_grid.specs.inside.Facing.{any_faces, faces}
use Rattle.snap_masks.specs.Masks.{mask_by, mask_below}
use Rattle.snap_masks.proofs.Bits.{mask_others}
use Rattle.snap_grid.proofs.Faces.{at_most_joined, less_joined, full_more, full_less}
use Rattle.snap_masks.proofs.Lanes.{or_none}
use Rattle.snap_grid.proofs.block.Against.passing_far.Goals as goal

pub loop-j-preserved : goal.loop-j-preserved
loop-j-preserved c =
    let me = c.args.self.now in
    let row = c.args.row in
    let j = c.loop-j.j in
    let d = c.index.result.now in
    let l : j < length me.far.items = omega (arith, c.loop-j-test.true, c.len-j-end.ensures, me.far.ok) in
    record {
      at_most = c.and-at_most.ensures ∙ at_most_joined me.far.items j row me.ours (λ a. me.more || any_faces true me.near.items a row) d l (me.far_facing.ours j d l) c.loop-j.at_most c.around_far-far.result.at_most.now (number d.theirs.now row + 1)
          (ap (λ (f : Facing). number f.theirs.now row + 1) c.index.ensures) c.loop-j.invariant.at_most (c.around_far-far.ensures.at_most ∙ ap (λ (f : Facing). mask_by (λ n. nat_lt n (number d.theirs.now row + 1)) f.ours.now) c.index.ensures);
      less = c.or-less.ensures ∙ less_joined me.far.items j row me.ours (λ a. me.less || any_faces false me.near.items a row) d l (me.far_facing.ours j d l) c.loop-j.less c.around_far-far.result.below.now (number d.theirs.now row)
          (ap (λ (f : Facing). number f.theirs.now row) c.index.ensures) c.loop-j.invariant.less (c.around_far-far.ensures.below ∙ ap (λ (f : Facing). mask_by (λ n. nat_lt n (number d.theirs.now row)) f.ours.now) c.index.ensures);
    }

pub returns-then-is_none-clause-more : goal.returns-then-is_none-clause-more
returns-then-is_none-clause-more c =
    let me = c.args.self.now in
    let row = c.args.row in
    let none = or_none c.loop-j.at_most c.xor.result (sym c.or.ensures ∙ c.is_none.ensures c.if-is_none.true) in
    c.full.ensures.0 ∙ full_more me.far.items c.loop-j.j row me.ours me.all.now c.loop-j.at_most 0 (λ a. me.more || any_faces true me.near.items a row) me.whole.whole c.loop-j.invariant.at_most none.0

pub returns-then-is_none-clause-less : goal.returns-then-is_none-clause-less
returns-then-is_none-clause-less c =
    let me = c.args.self.now in
    let row = c.args.row in
    let none = or_none c.loop-j.at_most c.xor.result (sym c.or.ensures ∙ c.is_none.ensures c.if-is_none.true) in
    c.full.ensures.1 ∙ full_less me.far.items c.loop-j.j row me.ours me.all.now 0 c.loop-j.less (λ a. me.less || any_faces false me.near.items a row) me.whole.whole c.loop-j.invariant.less (sym c.xor.ensures ∙ none.1)

pub returns-clause-more : goal.returns-clause-more
returns-clause-more c =
    let me = c.args.self.now in
    c.xor-2.ensures ∙ mask_others (λ a. faces true me.more me.near.items me.far.items a c.args.row) me.ours me.all.now c.loop-j.at_most me.whole.whole
    (c.loop-j.invariant.at_most ∙ ap (λ z. mask_below (λ a. not (faces true me.more me.near.items z a c.args.row)) me.ours) (take_all c.loop-j.j me.far.items (omega (arith, c.loop-j-test.false, c.len-j-end.ensures, me.far.ok))))

pub returns-clause-less : goal.returns-clause-less
returns-clause-less c =
    let me = c.args.self.now in
    c.loop-j.invariant.less ∙ ap (λ z. mask_below (λ a. faces false me.less me.near.items z a c.args.row) me.ours) (take_all c.loop-j.j me.far.items (omega (arith, c.loop-j-test.false, c.len-j-end.ensures, me.far.ok)))
