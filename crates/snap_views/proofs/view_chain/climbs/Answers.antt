use Rattle.std.proofs.Common.{◌≡◌, ◌∙◌, length, get_or, refl, sym, subst, arith}
use Rattle.std.proofs.lemmas.Bool.{false≢true}
use Rattle.snap_core.specs.Calls.{calls_of}
use Rattle.snap_views.specs.inside.Chains.{Climbs}
use Rattle.snap_views.specs.Seen.{view_in}
use Rattle.snap_views.proofs.Climbing.{no_view_taken, nothing_climbs, no_sum, row_below, row_taken, sum_taken, one_climbs}
use Rattle.snap_views.proofs.view_chain.climbs.Goals as goal

pub loop-sum-init : goal.loop-sum-init
loop-sum-init g c = record { size = refl; sum = sym no_sum; row = no_view_taken (calls_of c.args.index.now) c.args.keys.now; rising = nothing_climbs (calls_of c.args.index.now) c.args.keys.now }

pub returns-then-not-climb : goal.returns-then-not-climb
returns-then-not-climb g c = (
  λ t. absurd (false≢true t),
  λ h.
      absurd (false≢true (sym c.if-not-climb.true ∙ c.climb.ensures.below.1 (row_below (calls_of c.args.index.now) c.args.keys.now c.loop-sum.sum-index c.loop-sum.numbers c.view_at-view.result.entries.now c.loop-sum-test.true c.loop-sum.invariant.row c.view_at-view.ensures.entries h))),
)

pub loop-sum-preserved : goal.loop-sum-preserved
loop-sum-preserved g c =
    let calls = calls_of c.args.index.now in
    let keys = c.args.keys.now in
    let n = c.loop-sum.sum-index in
    let ds = c.view_at-view.result.entries.now in
    let is = c.view_at-view.ensures.entries in
    let taken = c.climb.ensures.taken c.if-not-climb.false in
    record {
      size = c.climb.ensures.size;
      sum = (c.requires.keys n (0, 0) c.loop-sum-test.true).1 ∙ sum_taken (view_in calls (get_or keys n (0, 0)).1) c.climb.new.numbers ds is taken;
      row = row_taken calls keys n c.climb.new.numbers ds c.loop-sum-test.true is taken;
      rising = one_climbs c.args.index.now c.requires.kept keys c.requires.keys n c.loop-sum.numbers ds c.loop-sum-test.true c.loop-sum.invariant.row is (c.climb.ensures.below.0 c.if-not-climb.false) c.loop-sum.invariant.rising;
    }

pub returns : goal.returns
returns g c =
    let whole : c.loop-sum.sum-index ≡ length c.args.keys.now = omega (arith, c.loop-sum-test.false, c.loop-sum.auto.sum-index-end) in
    (λ t. subst (Climbs (calls_of c.args.index.now) c.args.keys.now) whole c.loop-sum.invariant.rising, λ h. refl)
