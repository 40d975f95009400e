use Rattle.std.proofs.Common.{◌≡◌, ◌≤◌, ◌+◌, ◌-◌, ℕ, Option, Some, Vec, Global, sym, ap, subst, ◌∙◌, arith}
use Rattle.std.specs.Prelude.{find, nat_lt, sum_by, IfSome}
use Rattle.std.specs.List.{range_with_len}
use Rattle.std.specs.Option.{option_or}
use Rattle.std.proofs.lemmas.List.Sums.{sum_by-append}
use Rattle.snap_grid.specs.Columns.{GridValue, clash_count, drop_count, has_clash}
use Rattle.snap_grid.specs.inside.Sweeps.{AreDropsOfOne}
use Rattle.snap_grid.proofs.Clashing.{find_both, range-append}
use Rattle.snap_grid.proofs.OneColumn.{clash_counted, clash_found, drop_counted, slice_at}
use Rattle.snap_grid.proofs.grid.Grid.clashes.Goals as goal

-- a sum over the rows of two ranges that adjoin
sum_on : (f : ℕ → ℕ) (from m k next more size : ℕ) → next ≡ from + m → more ≡ m + k → size ≡ sum_by f (range_with_len from m) + sum_by f (range_with_len next k) → size ≡ sum_by f (range_with_len from more)
sum_on f from m k next more size e h s =
    omega (arith, s, ap (λ z. sum_by f (range_with_len z k)) e, ap (λ z. sum_by f (range_with_len from z)) h, ap (sum_by f) (range-append from m k), sum_by-append f (range_with_len from m) (range_with_len (from + m) k))

pub loop-start-preserved : goal.loop-start-preserved
loop-start-preserved c =
    let g = c.args.self.now in
    let from = c.args.from in
    let m = c.loop-start.start - from in
    let k = c.min-rows.result in
    let next : c.loop-start.start ≡ from + m = omega (arith, c.loop-start.invariant.behind) in
    let size : c.loop-start.start + k - from ≡ m + k = omega (arith, c.loop-start.invariant.behind) in
    let few : k ≤ c.args.to - c.loop-start.start = omega (arith, c.min-rows.ensures) in
    record {
      behind = omega (arith, c.loop-start.invariant.behind);
      within = omega (arith, few, c.loop-start-test.true);
      small = omega (arith, c.loop-start.invariant.small, c.in_ok-more.ensures.few, size);
      few_drops = omega (arith, c.loop-start.invariant.few_drops, c.in_ok-more.ensures.few_drops, size);
      counted = sum_on (clash_count g) from m k c.loop-start.start (c.loop-start.start + k - from) _ next size (omega (arith, c.loop-start.invariant.counted, c.in_ok-more.ensures.count));
      dropped = sum_on (drop_count g) from m k c.loop-start.start (c.loop-start.start + k - from) _ next size (omega (arith, c.loop-start.invariant.dropped, c.in_ok-more.ensures.drops));
      found =
          c.or-first.ensures ∙ ap (λ z. option_or z c.first_row.result) c.loop-start.invariant.found
          ∙ ap (option_or (find (has_clash g) (range_with_len from m))) (c.first_row.ensures k (has_clash g) c.in_ok-more.ensures.rows)
          ∙ sym (find_both (has_clash g) from m k c.loop-start.start next) ∙ ap (λ z. find (has_clash g) (range_with_len from z)) (sym size);
    }

-- the rows of a single column by how often they drop
known : (inside g : GridValue) (drops : Option (Vec ℕ Global)) (counts : Vec ℕ Global) → inside ≡ g → drops ≡ Some counts → IfSome drops (λ counts. AreDropsOfOne inside.columns inside.begins inside.ends counts.items) → AreDropsOfOne g.columns g.begins g.ends counts.items
known inside g drops counts view is h = subst (λ (z : GridValue). AreDropsOfOne z.columns z.begins z.ends counts.items) view (subst (λ z. IfSome z (λ counts. AreDropsOfOne inside.columns inside.begins inside.ends counts.items)) is h)

pub returns-in-Some-clause-count : goal.returns-in-Some-clause-count
returns-in-Some-clause-count c =
    let g = c.args.self.now in
    let drops = known _ g c.self.inside.drops c.in-Some.drops c.self.view_is c.in-Some.is c.self.invariant.dropping in
    let slice = slice_at c.in-Some.drops.items c.deref.result.now c.deref.ensures.value c.args.from c.args.to c.requires.order (omega (arith, drops.drops.count, c.requires.within)) in
    c.clashes_of_one.ensures.count (clash_count g) (λ i l. let at = slice.1 i l in clash_counted g c.in-Some.drops.items drops (c.args.from + i) (omega (arith, at.1, c.requires.within)) ∙ sym at.0)
    ∙ ap (λ z. sum_by (clash_count g) (range_with_len c.args.from z)) slice.0

pub returns-in-Some-clause-drops : goal.returns-in-Some-clause-drops
returns-in-Some-clause-drops c =
    let g = c.args.self.now in
    let drops = known _ g c.self.inside.drops c.in-Some.drops c.self.view_is c.in-Some.is c.self.invariant.dropping in
    let slice = slice_at c.in-Some.drops.items c.deref.result.now c.deref.ensures.value c.args.from c.args.to c.requires.order (omega (arith, drops.drops.count, c.requires.within)) in
    c.clashes_of_one.ensures.drops
    ∙ c.clashes_of_one.ensures.count (drop_count g) (λ i l. let at = slice.1 i l in drop_counted g c.in-Some.drops.items drops (c.args.from + i) (omega (arith, at.1, c.requires.within)) ∙ sym at.0)
    ∙ ap (λ z. sum_by (drop_count g) (range_with_len c.args.from z)) slice.0

pub returns-in-Some-clause-first : goal.returns-in-Some-clause-first
returns-in-Some-clause-first c =
    let g = c.args.self.now in
    let drops = known _ g c.self.inside.drops c.in-Some.drops c.self.view_is c.in-Some.is c.self.invariant.dropping in
    let slice = slice_at c.in-Some.drops.items c.deref.result.now c.deref.ensures.value c.args.from c.args.to c.requires.order (omega (arith, drops.drops.count, c.requires.within)) in
    c.clashes_of_one.ensures.first (has_clash g) (λ i l. let at = slice.1 i l in clash_found g c.in-Some.drops.items drops (c.args.from + i) (omega (arith, at.1, c.requires.within)) ∙ ap (nat_lt 0) (sym at.0))
    ∙ ap (λ z. find (has_clash g) (range_with_len c.args.from z)) slice.0
