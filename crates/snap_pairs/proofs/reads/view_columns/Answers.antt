use Rattle.std.proofs.Common.{◌≡◌, ◌+◌, ◌<◌, ◌∙◌, length, get_or, sym, subst, arith}
use Rattle.std.proofs.lemmas.List.{get_or_default}
use Rattle.snap_core.specs.Calls.{calls_of}
use Rattle.snap_pairs.specs.inside.Reads.{part_start}
use Rattle.snap_pairs.proofs.Columns.{AreMade}
use Rattle.snap_pairs.proofs.reads.view_columns.Goals as goal

pub returns-then-update_limit-le-FEW_COMPONENTS : goal.returns-then-update_limit-le-FEW_COMPONENTS
returns-then-update_limit-le-FEW_COMPONENTS g c = c.columns_between.ensures

pub each_job-requires-after_bounds : goal.each_job-requires-after_bounds
each_job-requires-after_bounds g c κs within i x lt is =
    let numbers = c.in_ok-part_numbers.ensures in
    let low : i < c.args.cutting.workers = omega (arith, lt, numbers.count) in
    omega (arith, low, is ∙ get_or_default c.in_ok-part_numbers.field-0.items i x 0 lt ∙ numbers.each i low)

pub joined-requires-clause-count : goal.joined-requires-clause-count
joined-requires-clause-count g c = c.in_ok-parts.ensures.len ∙ c.in_ok-part_numbers.ensures.count

pub joined-requires-clause-parts : goal.joined-requires-clause-parts
joined-requires-clause-parts g c i none lt =
    let workers = c.args.cutting.workers in
    let numbers = c.in_ok-part_numbers.ensures in
    let low : i < length c.in_ok-part_numbers.field-0.items = omega (arith, lt, c.in_ok-parts.ensures.len) in
    let made = c.in_ok-parts.ensures.each i none low in
    let job : made.job ≡ i = sym (made.job_is 0) ∙ numbers.each i (omega (arith, low, numbers.count)) in
    subst (λ j. AreMade (calls_of c.args.index.now) (part_start workers j) (part_start workers (j + 1)) (get_or c.in_ok-parts.parts.items i none)) job made.call.met

pub returns : goal.returns
returns g c = c.joined.ensures
