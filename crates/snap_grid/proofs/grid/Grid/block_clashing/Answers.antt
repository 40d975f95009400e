use Rattle.std.proofs.Common.{◌≡◌, ◌*◌, length, ap, subst, arith}
use Rattle.snap_grid.specs.Columns.{GridValue, HaveSameRows, clashes, drops}
use Rattle.snap_grid.specs.inside.Clashes.{ClashesWith}
use Rattle.snap_grid.proofs.Clashing.{counted, dropped, few_counted, few_dropped, few_pairs, marked, with_both, with_none}
use Rattle.snap_grid.proofs.grid.Grid.block_clashing.Goals as goal

pub loop-done-init : goal.loop-done-init
loop-done-init c = rw c.none-rows.ensures (record { at = omega arith; small = omega arith; found = with_none c.args.self.now c.args.from c.args.count 0 })

pub overflow_add-found : goal.overflow_add-found
overflow_add-found c =
    let same = subst (λ (g : GridValue). HaveSameRows g.columns g.begins g.ends) c.self.view_is c.self.invariant.same in
    let rows : c.len-all.result ≡ length c.args.self.now.begins = omega (arith, c.len-all.ensures, c.self.inside.ends.ok, same.ended, ap (λ (g : GridValue). length g.begins) c.self.view_is) in
    let few = few_pairs (clashes c.args.self.now) c.in_ok-ours.ours.from c.in_ok-ours.ours.count (c.loop-done.block * 512) c.min-theirs.result c.in_ok-more.more.count c.in_ok-ours.ours.rows.few c.in_ok-more.ensures.count in
    record { fits = omega (arith, few, c.loop-done.invariant.small, c.min-theirs.ensures, rows, same.few, c.loop-done-test.true) }

pub overflow_add-drops : goal.overflow_add-drops
overflow_add-drops c =
    let ours = c.in_ok-ours.ours in
    let same = subst (λ (g : GridValue). HaveSameRows g.columns g.begins g.ends) c.self.view_is c.self.invariant.same in
    let rows : c.len-all.result ≡ length c.args.self.now.begins = omega (arith, c.len-all.ensures, c.self.inside.ends.ok, same.ended, ap (λ (g : GridValue). length g.begins) c.self.view_is) in
    let before = few_pairs (drops c.args.self.now) c.args.from c.args.count 0 c.loop-done.done c.loop-done.drops c.requires.few c.loop-done.invariant.found.drops in
    let few = few_pairs (drops c.args.self.now) ours.from ours.count (c.loop-done.block * 512) c.min-theirs.result c.in_ok-more.more.drops ours.rows.few c.in_ok-more.ensures.drops in
    record { fits = omega (arith, few, before, c.min-theirs.ensures, rows, same.few, c.loop-done-test.true) }

pub loop-done-preserved : goal.loop-done-preserved
loop-done-preserved c =
    let ours = c.in_ok-ours.ours in
    let same = subst (λ (g : GridValue). HaveSameRows g.columns g.begins g.ends) c.self.view_is c.self.invariant.same in
    let few = few_pairs (clashes c.args.self.now) ours.from ours.count (c.loop-done.block * 512) c.min-theirs.result c.in_ok-more.more.count ours.rows.few c.in_ok-more.ensures.count in
    let here : c.loop-done.done ≡ c.loop-done.block * 512 = omega (arith, c.loop-done.invariant.at, c.loop-done-test.true) in
    let next = subst (λ n. ClashesWith c.args.self.now c.args.from n (c.loop-done.block * 512) c.min-theirs.result c.in_ok-more.more) c.in_ok-ours.ensures.rows.1
    (subst (λ n. ClashesWith c.args.self.now n ours.count (c.loop-done.block * 512) c.min-theirs.result c.in_ok-more.more) c.in_ok-ours.ensures.rows.0 c.in_ok-more.ensures) in
    record {
      at = omega (arith, here, c.min-theirs.ensures, c.loop-done-test.true);
      small = omega (arith, few, c.loop-done.invariant.small);
      found = rw c.or-rows.ensures (with_both c.args.self.now c.args.from c.args.count 0 c.loop-done.done c.min-theirs.result (c.loop-done.block * 512) c.loop-done.found c.loop-done.drops c.loop-done.rows c.in_ok-more.more.count c.in_ok-more.more.drops c.in_ok-more.more.rows (omega (arith, here)) c.loop-done.invariant.found next);
    }

pub returns-clause-count : goal.returns-clause-count
returns-clause-count c =
    let same = subst (λ (g : GridValue). HaveSameRows g.columns g.begins g.ends) c.self.view_is c.self.invariant.same in
    let rows : c.len-all.result ≡ length c.args.self.now.begins = omega (arith, c.len-all.ensures, c.self.inside.ends.ok, same.ended, ap (λ (g : GridValue). length g.begins) c.self.view_is) in
    counted c.args.self.now c.args.from c.args.count c.loop-done.done c.loop-done.found (omega (arith, rows, c.loop-done.invariant.at, c.loop-done-test.false)) c.loop-done.invariant.found.count

pub returns-clause-drops : goal.returns-clause-drops
returns-clause-drops c =
    let same = subst (λ (g : GridValue). HaveSameRows g.columns g.begins g.ends) c.self.view_is c.self.invariant.same in
    let rows : c.len-all.result ≡ length c.args.self.now.begins = omega (arith, c.len-all.ensures, c.self.inside.ends.ok, same.ended, ap (λ (g : GridValue). length g.begins) c.self.view_is) in
    dropped c.args.self.now c.args.from c.args.count c.loop-done.done c.loop-done.drops (omega (arith, rows, c.loop-done.invariant.at, c.loop-done-test.false)) c.loop-done.invariant.found.drops

pub returns-clause-rows : goal.returns-clause-rows
returns-clause-rows c =
    let same = subst (λ (g : GridValue). HaveSameRows g.columns g.begins g.ends) c.self.view_is c.self.invariant.same in
    let rows : c.len-all.result ≡ length c.args.self.now.begins = omega (arith, c.len-all.ensures, c.self.inside.ends.ok, same.ended, ap (λ (g : GridValue). length g.begins) c.self.view_is) in
    marked c.args.self.now c.args.from c.args.count c.loop-done.done c.loop-done.rows (omega (arith, rows, c.loop-done.invariant.at, c.loop-done-test.false)) c.loop-done.invariant.found.rows

pub returns-clause-few : goal.returns-clause-few
returns-clause-few c =
    let same = subst (λ (g : GridValue). HaveSameRows g.columns g.begins g.ends) c.self.view_is c.self.invariant.same in
    let rows : c.len-all.result ≡ length c.args.self.now.begins = omega (arith, c.len-all.ensures, c.self.inside.ends.ok, same.ended, ap (λ (g : GridValue). length g.begins) c.self.view_is) in
    let sum = counted c.args.self.now c.args.from c.args.count c.loop-done.done c.loop-done.found (omega (arith, rows, c.loop-done.invariant.at, c.loop-done-test.false)) c.loop-done.invariant.found.count in
    omega (arith, sum, few_counted c.args.self.now c.args.from c.args.count same.few)

pub returns-clause-few_drops : goal.returns-clause-few_drops
returns-clause-few_drops c =
    let same = subst (λ (g : GridValue). HaveSameRows g.columns g.begins g.ends) c.self.view_is c.self.invariant.same in
    let rows : c.len-all.result ≡ length c.args.self.now.begins = omega (arith, c.len-all.ensures, c.self.inside.ends.ok, same.ended, ap (λ (g : GridValue). length g.begins) c.self.view_is) in
    let sum = dropped c.args.self.now c.args.from c.args.count c.loop-done.done c.loop-done.drops (omega (arith, rows, c.loop-done.invariant.at, c.loop-done-test.false)) c.loop-done.invariant.found.drops in
    omega (arith, sum, few_dropped c.args.self.now c.args.from c.args.count same.few)
