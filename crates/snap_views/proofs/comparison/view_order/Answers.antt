use Rattle.std.proofs.Common.{◌∙◌, refl, sym, subst}
use Rattle.std.specs.Prelude.{IsSome}
use Rattle.std.proofs.lemmas.Bool.{false≢true}
use Rattle.snap_views.proofs.Quick.{none_by_test, test_by_none}
use Rattle.snap_views.proofs.comparison.view_order.Goals as goal

pub returns-in_default-clause-faultless : goal.returns-in_default-clause-faultless
returns-in_default-clause-faultless g c = (
  λ t. absurd t,
  λ none. absurd (false≢true (subst IsSome c.in_default.is (c.in_ok-places.ensures.comparable.1 (test_by_none c.args.index.now c.event_count-events.ensures.ordered none).0))),
)

pub returns-then-not-is_ordered-clause-faultless : goal.returns-then-not-is_ordered-clause-faultless
returns-then-not-is_ordered-clause-faultless g c = (
  λ t. absurd t,
  λ none. absurd (false≢true (sym c.if-not-is_ordered.true ∙ c.in_ok-is_ordered.ensures.1 (test_by_none c.args.index.now c.event_count-events.ensures.ordered none).1)),
)

pub returns-clause-faultless : goal.returns-clause-faultless
returns-clause-faultless g c =
    let comparable = c.in_ok-places.ensures.comparable.0 (subst IsSome (sym c.in-Some.is) refl) in
    (λ t. none_by_test c.args.index.now c.event_count-events.ensures.ordered comparable (c.in_ok-is_ordered.ensures.0 c.if-not-is_ordered.false), λ none. tt)
