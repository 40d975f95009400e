use Rattle.std.proofs.Common.{◌≡◌, ◌&&◌, ◌||◌, Bool, refl, sym, ap, ◌∙◌}
use Rattle.std.specs.Prelude.{true, false, bit_and}
use Rattle.snap_grid.specs.inside.Facing.{faces}
use Rattle.snap_masks.proofs.Bits.{mask_below_same}
use Rattle.snap_masks.proofs.Bits.{mask_and}
use Rattle.snap_grid.proofs.block.Against.clashing.Goals as goal

always : (p : Bool) → (p && true) ≡ p
always true = refl
always false = refl

pub returns-then-apart : goal.returns-then-apart
returns-then-apart c =
    let me = c.args.self.now in
    c.greater.ensures
    ∙ mask_below_same (λ a. faces true me.more me.near.items me.far.items a c.args.row) (λ a. faces true me.more me.near.items me.far.items a c.args.row && (c.args.apart || faces false me.less me.near.items me.far.items a c.args.row)) me.ours
    (λ a l. sym (ap (λ z. faces true me.more me.near.items me.far.items a c.args.row && (z || faces false me.less me.near.items me.far.items a c.args.row)) c.if-apart.true ∙ always (faces true me.more me.near.items me.far.items a c.args.row)))

pub returns : goal.returns
returns c =
    let me = c.args.self.now in
    c.and.ensures ∙ (λ i. bit_and (c.passing-passing.ensures.more i) (c.passing-passing.ensures.less i))
    ∙ mask_and me.ours (λ a. faces true me.more me.near.items me.far.items a c.args.row) (λ a. faces false me.less me.near.items me.far.items a c.args.row) (λ a. faces true me.more me.near.items me.far.items a c.args.row && (c.args.apart || faces false me.less me.near.items me.far.items a c.args.row))
    (λ a. ap (λ z. faces true me.more me.near.items me.far.items a c.args.row && (z || faces false me.less me.near.items me.far.items a c.args.row)) c.if-apart.false)
