use Rattle.std.proofs.Common.{Some, sym, ap, ◌∙◌, arith}
use Rattle.std.specs.Prelude.{option_map}
use Rattle.snap_core.specs.Calls.{calls_of}
use Rattle.snap_views.specs.Seen.{views_at}
use Rattle.snap_tally.proofs.Counted.{known, other_within, pair_at}
use Rattle.snap_views.proofs.Sizes.{few_views}
use Rattle.snap_tally.proofs.view_grid.ViewGrid.first_pair.Goals as goal

pub returns-in_default-clause-first : goal.returns-in_default-clause-first
returns-in_default-clause-first g c =
    let es = c.args.self.now in
    let h = known c.self.inside.index.now es c.self.inside.grid c.self.invariant c.self.view_is in
    sym (pair_at es c.self.inside.grid h c.args.place c.requires c.in_ok-other.field-0 c.in_ok-other.ensures ∙ ap (option_map (λ b. views_at (calls_of es) (c.args.place, b))) c.in_default.is)

pub overflow_cast-result : goal.overflow_cast-result
overflow_cast-result g c =
    let es = c.args.self.now in
    let h = known c.self.inside.index.now es c.self.inside.grid c.self.invariant c.self.view_is in
    record { fits = omega (arith, c.requires, few_views es h.kept) }

pub overflow_cast-result-2 : goal.overflow_cast-result-2
overflow_cast-result-2 g c =
    let es = c.args.self.now in
    let h = known c.self.inside.index.now es c.self.inside.grid c.self.invariant c.self.view_is in
    record { fits = omega (arith, other_within es c.self.inside.grid h c.args.place c.in-Some.other (sym c.in-Some.is ∙ c.in_ok-other.ensures), few_views es h.kept) }

pub returns-clause-first : goal.returns-clause-first
returns-clause-first g c =
    let es = c.args.self.now in
    let h = known c.self.inside.index.now es c.self.inside.grid c.self.invariant c.self.view_is in
    sym (pair_at es c.self.inside.grid h c.args.place c.requires (Some c.in-Some.other) (sym c.in-Some.is ∙ c.in_ok-other.ensures))

pub returns-clause-within : goal.returns-clause-within
returns-clause-within g c =
    let es = c.args.self.now in
    let h = known c.self.inside.index.now es c.self.inside.grid c.self.invariant c.self.view_is in
    (c.requires, other_within es c.self.inside.grid h c.args.place c.in-Some.other (sym c.in-Some.is ∙ c.in_ok-other.ensures))
