use Rattle.std.proofs.Common.{Some, None, sym, ap, ◌∙◌, arith}
use Rattle.snap_theory.specs.Faults.{first_of}
use Rattle.snap_tally.proofs.Counted.{are_found_between, first_between, known, stale_between}
use Rattle.snap_tally.proofs.view_grid.ViewGrid.read_pairs.Goals as goal

pub first_pair-requires : goal.first_pair-requires
first_pair-requires g c =
    let h = known c.self.inside.index.now c.args.self.now c.self.inside.grid c.self.invariant c.self.view_is in
    let first = first_between c.args.self.now c.self.inside.grid h c.args.from c.args.to c.requires.order c.requires.views (Some c.in-Some.place) (sym c.in-Some.is ∙ c.in_ok-found.ensures.first) in
    omega (arith, first.1, c.requires.order, c.requires.views)

pub returns-in_ok-first-in-Some-clause-count : goal.returns-in_ok-first-in-Some-clause-count
returns-in_ok-first-in-Some-clause-count g c =
    let h = known c.self.inside.index.now c.args.self.now c.self.inside.grid c.self.invariant c.self.view_is in
    c.in_ok-found.ensures.count ∙ sym (are_found_between c.args.self.now c.self.inside.grid h c.args.from c.args.to c.requires.order c.requires.views).count

pub returns-in_ok-first-in-Some-clause-first : goal.returns-in_ok-first-in-Some-clause-first
returns-in_ok-first-in-Some-clause-first g c =
    let h = known c.self.inside.index.now c.args.self.now c.self.inside.grid c.self.invariant c.self.view_is in
    let first = first_between c.args.self.now c.self.inside.grid h c.args.from c.args.to c.requires.order c.requires.views (Some c.in-Some.place) (sym c.in-Some.is ∙ c.in_ok-found.ensures.first) in
    c.in_ok-first-in-Some.ensures.first ∙ sym first.4

pub returns-in_ok-first-in-Some-clause-stale : goal.returns-in_ok-first-in-Some-clause-stale
returns-in_ok-first-in-Some-clause-stale g c =
    let h = known c.self.inside.index.now c.args.self.now c.self.inside.grid c.self.invariant c.self.view_is in
    c.in_ok-found.ensures.drops ∙ stale_between c.args.self.now c.self.inside.grid h c.args.from c.args.to c.requires.order c.requires.views

pub returns-in-None-clause-count : goal.returns-in-None-clause-count
returns-in-None-clause-count g c =
    let h = known c.self.inside.index.now c.args.self.now c.self.inside.grid c.self.invariant c.self.view_is in
    c.in_ok-found.ensures.count ∙ sym (are_found_between c.args.self.now c.self.inside.grid h c.args.from c.args.to c.requires.order c.requires.views).count

pub returns-in-None-clause-first : goal.returns-in-None-clause-first
returns-in-None-clause-first g c =
    let h = known c.self.inside.index.now c.args.self.now c.self.inside.grid c.self.invariant c.self.view_is in
    sym (ap first_of (first_between c.args.self.now c.self.inside.grid h c.args.from c.args.to c.requires.order c.requires.views None (sym c.in-None.is ∙ c.in_ok-found.ensures.first)))

pub returns-in-None-clause-stale : goal.returns-in-None-clause-stale
returns-in-None-clause-stale g c =
    let h = known c.self.inside.index.now c.args.self.now c.self.inside.grid c.self.invariant c.self.view_is in
    c.in_ok-found.ensures.drops ∙ stale_between c.args.self.now c.self.inside.grid h c.args.from c.args.to c.requires.order c.requires.views
