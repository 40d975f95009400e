use Rattle.std.proofs.Common.{◌+◌, ◌<◌, ◌||◌, ◌≡◌, not, length, take, sym, ap, ◌∙◌, arith}
use Rattle.std.specs.Prelude.{true, false, nat_lt}
use Rattle.std.proofs.lemmas.Bool.{eqb-true}
use Rattle.std.proofs.lemmas.List.{take_all}
use Rattle.snap_masks.specs.declared.facing.Facing.{Facing}
use Rattle.snap_grid.specs.Columns.{number}
use Rattle.snap_grid.specs.inside.Facing.{any_faces}
use Rattle.snap_masks.specs.Masks.{mask_by, mask_below}
use Rattle.snap_masks.proofs.Bits.{mask_others}
use Rattle.snap_grid.proofs.Faces.{or_false, at_most_joined, less_joined, full_more, full_less, full_still, none_face}
use Rattle.snap_masks.proofs.Lanes.{or_none}
use Rattle.snap_grid.proofs.block.Against.passing.Goals as goal

pub loop-done-init : goal.loop-done-init
loop-done-init c =
    let me = c.args.self.now in
    record {
      within = omega arith;
      at_most = c.all_if-at_most.ensures ∙ ap (λ z. mask_below (λ a. not z) me.ours) (sym (or_false me.more));
      less = c.all_if-less.ensures ∙ ap (λ z. mask_below (λ a. z) me.ours) (sym (or_false me.less));
    }

pub loop-j-preserved : goal.loop-j-preserved
loop-j-preserved c =
    let me = c.args.self.now in
    let row = c.args.row in
    let j = c.loop-j.j in
    let d = c.index.result.now in
    let l : j < length me.near.items = omega (arith, c.loop-j-test.true, c.min-end.ensures, c.len-columns.ensures, me.near.ok) in
    record {
      at_most = c.and-at_most.ensures ∙ at_most_joined me.near.items j row me.ours (λ a. me.more) d l (me.near_facing.ours j d l) c.loop-j.at_most c.around-around.result.at_most.now (number d.theirs.now row + 1) (ap (λ (f : Facing). number f.theirs.now row + 1) c.index.ensures) c.loop-j.invariant.at_most
          (c.around-around.ensures.at_most ∙ ap (λ (f : Facing). mask_by (λ n. nat_lt n (number d.theirs.now row + 1)) f.ours.now) c.index.ensures);
      less = c.or-less.ensures ∙ less_joined me.near.items j row me.ours (λ a. me.less) d l (me.near_facing.ours j d l) c.loop-j.less c.around-around.result.below.now (number d.theirs.now row) (ap (λ (f : Facing). number f.theirs.now row) c.index.ensures) c.loop-j.invariant.less
          (c.around-around.ensures.below ∙ ap (λ (f : Facing). mask_by (λ n. nat_lt n (number d.theirs.now row)) f.ours.now) c.index.ensures);
    }

pub returns-then-is_none-clause-more : goal.returns-then-is_none-clause-more
returns-then-is_none-clause-more c =
    let me = c.args.self.now in
    let row = c.args.row in
    let none = or_none c.loop-j.at_most c.xor.result (sym c.or.ensures ∙ c.is_none.ensures c.if-is_none.true) in
    c.full.ensures.0 ∙ full_still (λ a. me.more || any_faces true me.near.items a row) (λ a. any_faces true me.far.items a row) me.ours me.all.now me.whole.whole (full_more me.near.items c.loop-j.j row me.ours me.all.now c.loop-j.at_most 0 (λ a. me.more) me.whole.whole c.loop-j.invariant.at_most none.0)

pub returns-then-is_none-clause-less : goal.returns-then-is_none-clause-less
returns-then-is_none-clause-less c =
    let me = c.args.self.now in
    let row = c.args.row in
    let none = or_none c.loop-j.at_most c.xor.result (sym c.or.ensures ∙ c.is_none.ensures c.if-is_none.true) in
    c.full.ensures.1 ∙ full_still (λ a. me.less || any_faces false me.near.items a row) (λ a. any_faces false me.far.items a row) me.ours me.all.now me.whole.whole (full_less me.near.items c.loop-j.j row me.ours me.all.now 0 c.loop-j.less (λ a. me.less) me.whole.whole c.loop-j.invariant.less (sym c.xor.ensures ∙ none.1))

pub returns-then-is_empty-clause-more : goal.returns-then-is_empty-clause-more
returns-then-is_empty-clause-more c =
    let me = c.args.self.now in
    let row = c.args.row in
    c.xor-then-is_empty.ensures ∙ mask_others (λ a. me.more || any_faces true me.near.items a row) me.ours me.all.now c.loop-done.at_most me.whole.whole
    (c.loop-done.invariant.at_most ∙ ap (λ z. mask_below (λ a. not (me.more || any_faces true z a row)) me.ours) (take_all c.loop-done.done me.near.items (omega (arith, c.loop-done-test.false, c.len-columns.ensures, me.near.ok))))
    ∙ none_face true me.far.items row me.ours (λ a. me.more || any_faces true me.near.items a row) (omega (arith, me.far.ok, eqb-true _ _ (sym c.is_empty.ensures ∙ c.if-is_empty.true)))

pub returns-then-is_empty-clause-less : goal.returns-then-is_empty-clause-less
returns-then-is_empty-clause-less c =
    let me = c.args.self.now in
    let row = c.args.row in
    c.loop-done.invariant.less ∙ ap (λ z. mask_below (λ a. me.less || any_faces false z a row) me.ours) (take_all c.loop-done.done me.near.items (omega (arith, c.loop-done-test.false, c.len-columns.ensures, me.near.ok)))
    ∙ none_face false me.far.items row me.ours (λ a. me.less || any_faces false me.near.items a row) (omega (arith, me.far.ok, eqb-true _ _ (sym c.is_empty.ensures ∙ c.if-is_empty.true)))

pub passing_far-requires-clause-less : goal.passing_far-requires-clause-less
passing_far-requires-clause-less c =
    let me = c.args.self.now in
    c.copy-2.ensures ∙ c.loop-done.invariant.less ∙ ap (λ z. mask_below (λ a. me.less || any_faces false z a c.args.row) me.ours) (take_all c.loop-done.done me.near.items (omega (arith, c.loop-done-test.false, c.len-columns.ensures, me.near.ok)))

pub loop-done-preserved : goal.loop-done-preserved
loop-done-preserved c =
    let me = c.args.self.now in
    let end : c.loop-j.j ≡ c.min-end.result = omega (arith, c.loop-j.auto.j-end, c.loop-j-test.false) in
    record {
      within = omega (arith, c.min-end.ensures, c.len-columns.ensures, me.near.ok);
      at_most = c.loop-j.invariant.at_most ∙ ap (λ z. mask_below (λ a. not (me.more || any_faces true (take z me.near.items) a c.args.row)) me.ours) end;
      less = c.loop-j.invariant.less ∙ ap (λ z. mask_below (λ a. me.less || any_faces false (take z me.near.items) a c.args.row) me.ours) end;
    }
