use Rattle.std.proofs.Common.{rules, arith, ◌≡◌, ◌||◌, ◌++◌, ◌∷◌, ◌∙◌, true, [], sym, ap, subst}
use Rattle.snap_grid.specs.Columns.{any_passes}
use Rattle.snap_grid.proofs.Rising.{any_of_none, moved, none_left, rows_left, rows_of_last}
use Rattle.snap_grid.proofs.together.joined.Goals as goal

pub loop-column-init : goal.loop-column-init
loop-column-init c = rw (c.in_ok-keys.ensures.items) (record {
  left = λ n h. h;
  rows = λ n h t l. absurd (omega (arith, l));
  same = λ a b. any_of_none c.args.columns.items a b;
})

pub loop-column-preserved : goal.loop-column-preserved
loop-column-preserved c =
    let rest = c.pop.new.self.items in
    let keys = c.loop-column.keys.items in
    let columns = c.loop-column.columns.items in
    let column = c.in-Some.column in
    let is : columns ≡ rest ++ column ∷ [] = search rules in
    let old = c.loop-column.invariant in
    let added = c.in_ok-add.ensures in
    record {
      left = λ n h. rows_left n rest columns column is (old.left n h);
      rows = λ n h. added.rows n (old.rows n h) (rows_of_last n rest columns column is (old.left n h));
      same = λ a b. moved keys c.add.new.columns.items rest columns c.args.columns.items column a b is (added.same a b) (old.same a b);
    }

pub returns : goal.returns
returns c =
    let none : c.loop-column.columns.items ≡ [] = search rules in
    let old = c.loop-column.invariant in
    record {
      rows = λ n h. old.rows n h;
      same = λ a b. sym (none_left c.loop-column.keys.items a b) ∙ ap (λ z. any_passes true c.loop-column.keys.items a b || any_passes true z a b) (sym none) ∙ old.same a b;
    }
