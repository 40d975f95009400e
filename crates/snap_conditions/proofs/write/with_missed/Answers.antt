use Rattle.std.proofs.Common.{◌≡◌, suc, length, Some, sym, ap, ◌∙◌, arith}
use Rattle.std.specs.Prelude.{nat_lt}
use Rattle.std.proofs.lemmas.Bool.{false_from_ne_true}
use Rattle.std.proofs.lemmas.List.Sums.{count_by-le-length}
use Rattle.snap_core.specs.Calls.{calls_of, shown_number}
use Rattle.snap_conditions.specs.inside.Places.{end_of}
use Rattle.snap_theory.specs.Updates.{update_of}
use Rattle.snap_theory.specs.Faults.{missed_at}
use Rattle.snap_conditions.specs.Parts.{part_of}
use Rattle.snap_conditions.specs.Tally.{reported_write}
use Rattle.snap_views.specs.Seen.{view_in}
use Rattle.snap_conditions.proofs.Missed.{are_tested, merged_missed, merged_first}
use Rattle.snap_views.proofs.Sizes.{rising_few}
use Rattle.snap_conditions.proofs.write.with_missed.Goals as goal

pub with_more-requires-clause-fits : goal.with_more-requires-clause-fits
with_more-requires-clause-fits g c =
    omega (
      arith,
      c.requires.few,
      c.requires.count,
      count_by-le-length (λ b. nat_lt c.args.missed.ended b) c.args.begins.now,
      c.requires.size,
      ap length c.requires.view.entries,
      rising_few _ c.requires.view.shape.rising (λ j d l. (c.requires.view.shape.fit j d l).0),
    )

pub returns-then-count-gt0 : goal.returns-then-count-gt0
returns-then-count-gt0 g c =
    let es = c.args.index.now in
    let calls = calls_of es in
    let r = view_in calls c.args.place in
    let missed = c.args.missed in
    let ended : end_of (update_of calls missed.component (suc (shown_number r missed.component))) ≡ Some missed.ended = ap (λ n. end_of (update_of calls missed.component (suc n))) (sym c.requires.number) ∙ c.requires.ended in
    let tested = are_tested es c.requires.kept r missed.component missed.ended c.args.view.now.entries.now c.args.begins.now c.requires.view.entries c.requires.view.shape ended c.requires.size c.requires.begins in
    c.with_more.ensures ∙ merged_missed calls r missed.component missed.ended c.args.count c.args.begins.now c.args.part tested c.requires.count (c.count.ensures.first.1 (omega arith))

pub returns : goal.returns
returns g c =
    let missed = part_of reported_write (missed_at (calls_of c.args.index.now) (view_in (calls_of c.args.index.now) c.args.place) c.args.missed.component) in
    c.missed_part.ensures ∙ merged_first c.args.part missed (omega arith) (false_from_ne_true _ (λ t. absurd (omega (arith, c.count.ensures.first.0 t))))
