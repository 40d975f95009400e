use Rattle.std.proofs.Common.{[], ◌∷◌, sym, ap, ◌∙◌, subst, arith}
use Rattle.snap_core.specs.Calls.{calls_of}
use Rattle.snap_conditions.specs.declared.tally.Tally.{Tally}
use Rattle.snap_conditions.specs.Tally.{tally_of, without_read, SumsFit}
use Rattle.snap_conditions.specs.inside.Tallies.{without_more_read}
use Rattle.snap_views.specs.Seen.{view_in}
use Rattle.snap_conditions.proofs.Ranges.{tallies_join, empty_between, next_fits, next_tally}
use Rattle.snap_conditions.proofs.range.tally_without_read.Goals as goal

fit_without : (a b : Tally) → SumsFit a b → SumsFit (without_read a) b
fit_without a b s = record { integrity = s.integrity; proximity = s.proximity; read = omega (arith, s.read); write = s.write; stale = omega (arith, s.stale) }

pub loop-place-init : goal.loop-place-init
loop-place-init g c =
    let calls = calls_of c.args.index.now in
    (c.new-updates.ensures, c.none-tally.ensures ∙ ap without_read (sym (ap (tally_of calls) (empty_between calls c.args.from) ∙ (tallies_join calls).nothing)))

pub add_without_read-requires-clause-fits : goal.add_without_read-requires-clause-fits
add_without_read-requires-clause-fits g c =
    let here = tally_of (calls_of c.args.index.now) (view_in (calls_of c.args.index.now) c.loop-place.place ∷ []) in
    subst (λ t. SumsFit t here) (sym c.loop-place.invariant.1) (fit_without _ here (next_fits c.args.index.now c.event_count-events.ensures.ordered c.args.from c.loop-place.place (omega arith) (omega arith)))

pub loop-place-preserved : goal.loop-place-preserved
loop-place-preserved g c =
    let calls = calls_of c.args.index.now in
    let place = c.loop-place.place in (
      c.add_without_read.ensures.numbers,
      c.add_without_read.ensures.tally ∙ ap (λ t. without_more_read t (tally_of calls (view_in calls place ∷ []))) c.loop-place.invariant.1 ∙ ap without_read (next_tally calls c.args.from place (omega arith) (omega arith)),
    )
