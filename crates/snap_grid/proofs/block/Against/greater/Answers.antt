use Rattle.std.proofs.Common.{◌+◌, ◌<◌, ◌||◌, ◌≡◌, not, length, take, sym, ap, ◌∙◌, arith}
use Rattle.std.specs.Prelude.{true, false, nat_lt}
use Rattle.std.proofs.lemmas.Bool.{eqb-true}
use Rattle.std.proofs.lemmas.List.{take_all}
use Rattle.snap_masks.specs.declared.facing.Facing.{Facing}
use Rattle.snap_grid.specs.Columns.{number}
use Rattle.snap_grid.specs.inside.Facing.{any_faces}
use Rattle.snap_masks.specs.Masks.{mask_by, mask_below}
use Rattle.snap_masks.proofs.Bits.{mask_others}
use Rattle.snap_grid.proofs.Faces.{or_false, at_most_joined, full_more, full_still, none_face}
use Rattle.snap_grid.proofs.block.Against.greater.Goals as goal

pub loop-done-init : goal.loop-done-init
loop-done-init c =
    let me = c.args.self.now in
    record {
      within = omega arith;
      at_most = c.all_if-at_most.ensures ∙ ap (λ z. mask_below (λ a. not z) me.ours) (sym (or_false me.more));
    }

pub loop-j-preserved : goal.loop-j-preserved
loop-j-preserved c =
    let me = c.args.self.now in
    let row = c.args.row in
    let j = c.loop-j.j in
    let d = c.index.result.now in
    let l : j < length me.near.items = omega (arith, c.loop-j-test.true, c.min-end.ensures, c.len-columns.ensures, me.near.ok) in
    record {
      at_most = c.and-at_most.ensures ∙ at_most_joined me.near.items j row me.ours (λ a. me.more) d l (me.near_facing.ours j d l) c.loop-j.at_most c.around.result.at_most.now (number d.theirs.now row + 1) (ap (λ (f : Facing). number f.theirs.now row + 1) c.index.ensures) c.loop-j.invariant.at_most
          (c.around.ensures.at_most ∙ ap (λ (f : Facing). mask_by (λ n. nat_lt n (number d.theirs.now row + 1)) f.ours.now) c.index.ensures);
    }

pub loop-done-preserved : goal.loop-done-preserved
loop-done-preserved c =
    let me = c.args.self.now in
    let end : c.loop-j.j ≡ c.min-end.result = omega (arith, c.loop-j.auto.j-end, c.loop-j-test.false) in
    record {
      within = omega (arith, c.min-end.ensures, c.len-columns.ensures, me.near.ok);
      at_most = c.loop-j.invariant.at_most ∙ ap (λ z. mask_below (λ a. not (me.more || any_faces true (take z me.near.items) a c.args.row)) me.ours) end;
    }

pub returns-then-is_none : goal.returns-then-is_none
returns-then-is_none c =
    let me = c.args.self.now in
    let row = c.args.row in
    c.copy.ensures ∙ full_still (λ a. me.more || any_faces true me.near.items a row) (λ a. any_faces true me.far.items a row) me.ours me.all.now me.whole.whole (full_more me.near.items c.loop-j.j row me.ours me.all.now c.loop-j.at_most 0 (λ a. me.more) me.whole.whole c.loop-j.invariant.at_most (c.is_none.ensures c.if-is_none.true))

pub returns : goal.returns
returns c =
    let me = c.args.self.now in
    let row = c.args.row in
    c.xor.ensures ∙ mask_others (λ a. me.more || any_faces true me.near.items a row) me.ours me.all.now c.loop-done.at_most me.whole.whole
    (c.loop-done.invariant.at_most ∙ ap (λ z. mask_below (λ a. not (me.more || any_faces true z a row)) me.ours) (take_all c.loop-done.done me.near.items (omega (arith, c.loop-done-test.false, c.len-columns.ensures, me.near.ok))))
    ∙ none_face true me.far.items row me.ours (λ a. me.more || any_faces true me.near.items a row) (omega (arith, me.far.ok, eqb-true _ _ (sym c.is_empty.ensures ∙ c.if-not-is_empty.false)))
