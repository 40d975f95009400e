use Rattle.std.proofs.Common.{◌∙◌, sym}
use Rattle.snap_core.specs.Calls.{calls_of}
use Rattle.snap_theory.specs.First.{first_fault}
use Rattle.snap_witness.proofs.FirstConcerned.{first_is_concerned, none_concerned}
use Rattle.snap_witness.proofs.Named.{names_same}
use Rattle.snap_witness.proofs.finding.first_concerned.Goals as goal

pub concerned-requires : goal.concerned-requires
concerned-requires g c = (first_is_concerned c.args.index.now c.requires.kept c.args.tally.now c.requires.tally c.in-Some.fault (sym c.first_of_all.ensures ∙ c.in-Some.is)).named

pub returns-in_ok-calls-in-Some : goal.returns-in_ok-calls-in-Some
returns-in_ok-calls-in-Some g c =
    let es = c.args.index.now in
    let first = first_is_concerned es c.requires.kept c.args.tally.now c.requires.tally c.in-Some.fault (sym c.first_of_all.ensures ∙ c.in-Some.is) in
    names_same es (first_fault (calls_of es)) _ _ _ _ c.in_ok-calls-in-Some.ensures.views c.in_ok-calls-in-Some.ensures.updates first.names

pub returns-in-None : goal.returns-in-None
returns-in-None g c = none_concerned c.args.index.now c.args.tally.now c.requires.tally (sym c.first_of_all.ensures ∙ c.in-None.is)
