use Rattle.std.proofs.Common.{◌<◌, ◌∙◌, arith, length, sym}
use Rattle.snap_conditions.specs.declared.fault.Kind.TheVariants.{Integrity}
use Rattle.snap_conditions.specs.Kinds.{first_in, kinds}
use Rattle.snap_witness.proofs.FirstFound.{found_next, none_next}
use Rattle.snap_witness.proofs.finding.first_of_all.Goals as goal

pub loop-kind-preserved : goal.loop-kind-preserved
loop-kind-preserved c =
    let i = c.loop-kind.kind-index in
    let within : i < length kinds = omega (arith, c.loop-kind-test.true) in
    none_next (λ kind. first_in kind c.args.tally.now) kinds i Integrity within c.loop-kind.invariant (sym c.first.ensures ∙ c.in_default.is)

pub returns-in-Some : goal.returns-in-Some
returns-in-Some c =
    let i = c.loop-kind.kind-index in
    let within : i < length kinds = omega (arith, c.loop-kind-test.true) in
    sym (found_next (λ kind. first_in kind c.args.tally.now) kinds i Integrity c.in-Some.fault within c.loop-kind.invariant (sym c.first.ensures ∙ c.in-Some.is))
