use Rattle.std.proofs.Common.{rules, of_calls, ◌≤◌, ◌-◌, arith}
use Rattle.std.specs.Prelude.{nat_lt}
use Rattle.std.proofs.lemmas.Fn.{always_returns_same}
use Rattle.snap_core.proofs.Rising.{parted_at}
use Rattle.snap_tally.proofs.Between.{in_order, numbers_between, slice_rises}
use Rattle.snap_tally.proofs.columns.entries_between.Goals as goal
use Rattle.snap_tally.proofs.columns.entries_between.Goals.{After-partition_point-end}

ordered : (c : After-partition_point-end) → c.partition_point-first.result ≤ c.partition_point-end.result
ordered c =
    let es = c.args.entries.now in
    let first = c.partition_point-first.ensures.partitioned (λ e. nat_lt e.component c.args.from) (always_returns_same _ _ _ (λ a r q k. search (rules, of_calls))) (parted_at es c.args.from c.requires.entries.rising) in
    let end = c.partition_point-end.ensures.partitioned (λ e. nat_lt e.component c.args.to) (always_returns_same _ _ _ (λ a r q k. search (rules, of_calls))) (parted_at es c.args.to c.requires.entries.rising) in
    in_order es c.args.from c.args.to c.partition_point-first.result c.partition_point-end.result c.requires.order c.partition_point-first.ensures.bound first end

pub slice_bounds-result-count : goal.slice_bounds-result-count
slice_bounds-result-count c = omega (arith, ordered c)

pub slice_bounds-result-start : goal.slice_bounds-result-start
slice_bounds-result-start c = ordered c

pub returns-clause-rising : goal.returns-clause-rising
returns-clause-rising c = slice_rises c.args.entries.now c.partition_point-first.result (c.partition_point-end.result - c.partition_point-first.result) c.requires.entries.rising c.partition_point-first.ensures.bound

pub returns-clause-numbers : goal.returns-clause-numbers
returns-clause-numbers c = λ k low high.
    let es = c.args.entries.now in
    let first = c.partition_point-first.ensures.partitioned (λ e. nat_lt e.component c.args.from) (always_returns_same _ _ _ (λ a r q k. search (rules, of_calls))) (parted_at es c.args.from c.requires.entries.rising) in
    let end = c.partition_point-end.ensures.partitioned (λ e. nat_lt e.component c.args.to) (always_returns_same _ _ _ (λ a r q k. search (rules, of_calls))) (parted_at es c.args.to c.requires.entries.rising) in
    numbers_between es c.args.from c.args.to c.partition_point-first.result c.partition_point-end.result k c.requires.order c.partition_point-first.ensures.bound first end low high
