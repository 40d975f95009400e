use Rattle.std.proofs.Common.{◌≡◌, ◌+◌, ◌*◌, ◌-◌, ◌<◌, length, sym, ap, subst, ◌∙◌, inl, inr, arith}
use Rattle.std.specs.Option.{is_some}
use Rattle.std.proofs.lemmas.Bool.{cases_lt}
use Rattle.snap_grid.specs.Columns.{GridValue, HaveSameRows, clashes}
use Rattle.snap_grid.proofs.Clashing.{find_in, find_nothing, none_found}
use Rattle.snap_grid.proofs.grid.Grid.first_clash.Goals as goal
use Rattle.snap_grid.proofs.grid.Grid.first_clash.Goals.{then-not-are_apart+else-is_some, else-not-are_apart}

pub returns-then-is_some : goal.returns-then-is_some
returns-then-is_some c =
    let g = c.args.self.now in
    let same = subst (λ (g : GridValue). HaveSameRows g.columns g.begins g.ends) c.self.view_is c.self.invariant.same in
    let rows : c.len-rows.result ≡ length g.begins = omega (arith, c.len-rows.ensures, c.self.inside.ends.ok, same.ended, ap (λ (g : GridValue). length g.begins) c.self.view_is) in
    c.first_clash_among-first.ensures
    ∙ sym
    (find_in (clashes g c.args.row) (c.loop-block.block * 512) c.min-count.result (length g.begins) (omega (arith, c.min-count.ensures, rows, c.loop-block-test.true)) (λ b l. c.loop-block.invariant.none b l (omega (arith, l, c.loop-block-test.true)))
    (ap is_some (sym c.first_clash_among-first.ensures) ∙ sym c.is_some.ensures ∙ c.if-is_some.true))

pub loop-block-preserved : goal.loop-block-preserved
loop-block-preserved c = record {
  within = omega (arith, c.loop-block-test.true);
  none = λ b l r. elim (cases_lt b (c.loop-block.block * 512)) [
    | inl before ↦ c.loop-block.invariant.none b before r
    | inr behind ↦
        let p = clashes c.args.self.now c.args.row in
        let at = b - c.loop-block.block * 512 in
        let here : b ≡ c.loop-block.block * 512 + at = omega (arith, behind) in
        let few : at < c.min-count.result = omega (arith, l, r, behind, c.min-count.ensures) in
        ap p here
        ∙ elim c.if-not-are_apart.branch [
          | then-not-are_apart+else-is_some w ↦ none_found p c.min-count.result (c.loop-block.block * 512) at (ap is_some (sym w.first_clash_among-first.ensures) ∙ sym w.is_some.ensures ∙ w.if-is_some.false) few
          | else-not-are_apart w ↦
              let ours : c.args.row ≡ c.in_ok-ours.ours.from + 0 = omega (arith, c.in_ok-ours.ensures.rows.0) in
              ap (λ a. clashes c.args.self.now a (c.loop-block.block * 512 + at)) ours ∙ (c.are_apart.ensures w.if-not-are_apart.false 0 at (omega (arith, c.in_ok-ours.ensures.rows.1)) few).0
        ]
  ];
}

pub returns : goal.returns
returns c =
    let g = c.args.self.now in
    let same = subst (λ (g : GridValue). HaveSameRows g.columns g.begins g.ends) c.self.view_is c.self.invariant.same in
    let rows : c.len-rows.result ≡ length g.begins = omega (arith, c.len-rows.ensures, c.self.inside.ends.ok, same.ended, ap (λ (g : GridValue). length g.begins) c.self.view_is) in
    sym (find_nothing (clashes g c.args.row) (length g.begins) 0 (λ a l. let e : 0 + a ≡ a = omega arith in ap (clashes g c.args.row) e ∙ c.loop-block.invariant.none a (omega (arith, l, rows, c.loop-block-test.false)) (omega (arith, l, rows))))
