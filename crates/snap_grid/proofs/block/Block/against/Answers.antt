use Rattle.std.proofs.lemmas.Result.{IfOk-from_err}
use Rattle.std.proofs.Common.{◌≡◌, ◌+◌, ◌*◌, ◌<◌, ◌++◌, ◌∷◌, [], ℕ, length, get_or, sym, ap, ◌∙◌, arith}
use Rattle.std.specs.Prelude.{true, false}
use Rattle.std.proofs.lemmas.Bool.{eqb-false, eqb-true}
use Rattle.snap_masks.specs.declared.facing.Facing.{Facing}
use Rattle.snap_grid.proofs.Faces.{far_pushed, near_pushed, faces_passed_over, ours_length}
use Rattle.snap_grid.proofs.Joining.{pushed}
use Rattle.snap_grid.proofs.Passing.{any_none, none_passes, ours_at, theirs_at, theirs_count}
use Rattle.snap_grid.proofs.block.Block.against.Goals as goal
use Rattle.snap_grid.proofs.block.Block.against.Goals.{then-is_open+then-is_empty+in_ok-push, then-is_open+else-is_empty+in_ok-push-2, else-is_open}

pub loop-j-init : goal.loop-j-init
loop-j-init c =
    let b = c.args.self.now in
    rw (c.new-near.ensures.items, c.new-far.ensures.items) (record {
      tabled = λ k column l. absurd (omega (arith, l));
      ranked = λ k column l. absurd (omega (arith, l));
      near = record { ours = λ k column l. absurd (omega (arith, l)); theirs = λ k column l. absurd (omega (arith, l)) };
      far = record { ours = λ k column l. absurd (omega (arith, l)); theirs = λ k column l. absurd (omega (arith, l)) };
      more = λ h a i k l. sym (any_none true (b.from + a) (c.args.block * 512 + i));
      less = λ h a i k l. sym (any_none false (b.from + a) (c.args.block * 512 + i));
    })

pub loop-j-preserved : goal.loop-j-preserved
loop-j-preserved c =
    let b = c.args.self.now in
    let j = c.loop-j.j in
    let l = c.loop-j-test.true in
    let before = c.loop-j.invariant in
    elim c.if-is_open.branch [
      | then-is_open+then-is_empty+in_ok-push w ↦
          let new = w.facing-column.result in
          let items : c.if-is_open.far.items ≡ c.loop-j.far.items ++ new ∷ [] = ap (λ v. v.items) w.far-is ∙ w.in_ok-push.ensures.items in
          let near : c.if-is_open.near.items ≡ c.loop-j.near.items = ap (λ v. v.items) w.near-is in
          let ours = w.facing-column.ensures.ours ∙ w.index-then-is_open.ensures ∙ ap (get_or b.masks.items j) (sym w.facing-column.ensures.ours) in
          let theirs = w.facing-column.ensures.theirs ∙ w.rows-theirs.ensures in
          rw (items, near) (record {
            tabled = before.tabled;
            ranked = pushed (λ (f : Facing). length f.under.now ≡ 0) c.loop-j.far.items new before.ranked (eqb-true _ _ (sym w.is_empty.ensures ∙ w.if-is_empty.true));
            near = before.near;
            far = record {
              ours = pushed (λ (f : Facing). length f.ours.now ≡ b.count) c.loop-j.far.items new before.far.ours (ours_length b.columns.now b.masks.items b.from b.count b.all j new.ours.now b.rows l ours);
              theirs = pushed (λ (f : Facing). length f.theirs.now ≡ c.args.count) c.loop-j.far.items new before.far.theirs (theirs_count b.columns.now j c.args.block c.args.count new.theirs.now w.index-self-j-then-is_open.result l c.requires.rows theirs);
            };
            more = λ h a i k m. far_pushed true b.columns.now b.masks.items b.from b.count b.all j c.args.block c.args.count a i c.loop-j.near.items c.loop-j.far.items new w.index-self-j-then-is_open.result b.rows l c.requires.rows k m ours theirs (before.more h a i k m);
            less = λ h a i k m. far_pushed false b.columns.now b.masks.items b.from b.count b.all j c.args.block c.args.count a i c.loop-j.near.items c.loop-j.far.items new w.index-self-j-then-is_open.result b.rows l c.requires.rows k m ours theirs (before.less h a i k m);
          })
      | then-is_open+else-is_empty+in_ok-push-2 w ↦
          let new = w.facing-column.result in
          let items : c.if-is_open.near.items ≡ c.loop-j.near.items ++ new ∷ [] = ap (λ v. v.items) w.near-is ∙ w.in_ok-push-2.ensures.items in
          let far : c.if-is_open.far.items ≡ c.loop-j.far.items = ap (λ v. v.items) w.far-is in
          let ours = w.facing-column.ensures.ours ∙ w.index-then-is_open.ensures ∙ ap (get_or b.masks.items j) (sym w.facing-column.ensures.ours) in
          let theirs = w.facing-column.ensures.theirs ∙ w.rows-theirs.ensures in
          rw (items, far) (record {
            tabled = pushed (λ (f : Facing). 0 < length f.under.now) c.loop-j.near.items new before.tabled (omega (arith, eqb-false _ _ (sym w.is_empty.ensures ∙ w.if-is_empty.false)));
            ranked = before.ranked;
            near = record {
              ours = pushed (λ (f : Facing). length f.ours.now ≡ b.count) c.loop-j.near.items new before.near.ours (ours_length b.columns.now b.masks.items b.from b.count b.all j new.ours.now b.rows l ours);
              theirs = pushed (λ (f : Facing). length f.theirs.now ≡ c.args.count) c.loop-j.near.items new before.near.theirs (theirs_count b.columns.now j c.args.block c.args.count new.theirs.now w.index-self-j-then-is_open.result l c.requires.rows theirs);
            };
            far = before.far;
            more = λ h a i k m. near_pushed true b.columns.now b.masks.items b.from b.count b.all j c.args.block c.args.count a i c.loop-j.near.items c.loop-j.far.items new w.index-self-j-then-is_open.result b.rows l c.requires.rows k m ours theirs (before.more h a i k m);
            less = λ h a i k m. near_pushed false b.columns.now b.masks.items b.from b.count b.all j c.args.block c.args.count a i c.loop-j.near.items c.loop-j.far.items new w.index-self-j-then-is_open.result b.rows l c.requires.rows k m ours theirs (before.less h a i k m);
          })
      | else-is_open w ↦
          let near : c.if-is_open.near.items ≡ c.loop-j.near.items = ap (λ v. v.items) w.near-is in
          let far : c.if-is_open.far.items ≡ c.loop-j.far.items = ap (λ v. v.items) w.far-is in
          let ours = λ (a : ℕ) (k : a < b.count). ours_at b.columns.now b.masks.items b.from b.count b.all j a c.index.result.now c.bounds-ours.result b.rows l c.index.ensures c.bounds-ours.ensures k in
          let theirs = λ (i : ℕ) (m : i < c.args.count). theirs_at b.columns.now j c.args.block (c.args.block * 512 + i) c.index-self-j.result c.bounds-theirs.result l c.bounds-theirs.ensures (omega arith) (omega (arith, m, c.requires.few)) (λ x y. omega (arith, m, c.requires.rows x y)) in
          rw (near, far) (record {
            tabled = before.tabled;
            ranked = before.ranked;
            near = before.near;
            far = before.far;
            more = λ h a i k m. faces_passed_over true b.columns.now j (b.from + a) (c.args.block * 512 + i) _ l (none_passes true _ _ c.bounds-ours.result c.bounds-theirs.result (ours a k) (theirs i m) (c.is_open.ensures.more w.if-is_open.false h)) (before.more h a i k m);
            less = λ h a i k m. faces_passed_over false b.columns.now j (b.from + a) (c.args.block * 512 + i) _ l (none_passes false _ _ c.bounds-ours.result c.bounds-theirs.result (ours a k) (theirs i m) (c.is_open.ensures.less w.if-is_open.false h)) (before.less h a i k m);
          })
    ]

pub returns-in_err-push-clause-rows : goal.returns-in_err-push-clause-rows
returns-in_err-push-clause-rows c = IfOk-from_err c.from_residual.result _ c.from_residual.ensures.0

pub returns-in_err-push-clause-more : goal.returns-in_err-push-clause-more
returns-in_err-push-clause-more c = IfOk-from_err c.from_residual.result _ c.from_residual.ensures.0

pub returns-in_err-push-clause-less : goal.returns-in_err-push-clause-less
returns-in_err-push-clause-less c = IfOk-from_err c.from_residual.result _ c.from_residual.ensures.0

pub returns-in_err-push-2-clause-rows : goal.returns-in_err-push-2-clause-rows
returns-in_err-push-2-clause-rows c = IfOk-from_err c.from_residual-in_err-push-2.result _ c.from_residual-in_err-push-2.ensures.0

pub returns-in_err-push-2-clause-more : goal.returns-in_err-push-2-clause-more
returns-in_err-push-2-clause-more c = IfOk-from_err c.from_residual-in_err-push-2.result _ c.from_residual-in_err-push-2.ensures.0

pub returns-in_err-push-2-clause-less : goal.returns-in_err-push-2-clause-less
returns-in_err-push-2-clause-less c = IfOk-from_err c.from_residual-in_err-push-2.result _ c.from_residual-in_err-push-2.ensures.0
