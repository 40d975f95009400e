use Rattle.std.proofs.Common.{suc, ◌-◌, ◌≡◌, ◌<◌, ◌≤◌, cond, length, take, get_or, sym, ap, ◌∙◌, arith}
use Rattle.std.proofs.lemmas.List.FromFn.{get_or-range_with_len}
use Rattle.std.proofs.lemmas.List.Sorted.{length_permutation, sum_by-IsPermutation}
use Rattle.std.specs.Prelude.{flat_map, nat_lt}
use Rattle.snap_core.specs.Calls.{calls_of, shown_number}
use Rattle.snap_theory.specs.Faults.{components, missed_at}
use Rattle.snap_theory.specs.Updates.{update_of}
use Rattle.snap_views.specs.Seen.{view_in}
use Rattle.snap_views.proofs.Sizes.{rising_few}
use Rattle.snap_views.proofs.Viewed.{view_there}
use Rattle.snap_conditions.specs.PartValue.{PartValue}
use Rattle.snap_conditions.specs.Parts.{part_of, merged_part}
use Rattle.snap_conditions.specs.Tally.{reported_write}
use Rattle.snap_conditions.specs.declared.fault.WriteFault.{WriteFault}
use Rattle.snap_conditions.specs.inside.Places.{end_of}
use Rattle.snap_conditions.specs.inside.ShownAndNext.{end_next}
use Rattle.snap_conditions.proofs.Limits.{none_step, missed_rest}
use Rattle.snap_conditions.proofs.OneView.{write_alone, all_missed_few}
use Rattle.snap_conditions.proofs.Parts.{merge_step}
use Rattle.snap_conditions.proofs.Surrounded.{some_end, none_missed_at}
use Rattle.snap_conditions.proofs.write.missed_parts.Goals as goal
use Rattle.snap_conditions.proofs.write.missed_parts.Goals.{then-ended-updates, else-ended-updates}

pub with_missed-part-requires-clause-number : goal.with_missed-part-requires-clause-number
with_missed-part-requires-clause-number g c = c.requires.updates.numbers c.loop-j.j c.loop-j-test.true

pub with_missed-part-requires-clause-ended : goal.with_missed-part-requires-clause-ended
with_missed-part-requires-clause-ended g c =
    let calls = calls_of c.args.index.now in
    let r = view_in calls c.args.place in
    let below : c.loop-j.j < 256 = omega (arith, c.loop-j-test.true, c.requires.updates.limit.few) in
    ap (λ n. end_of (update_of calls c.loop-j.j (suc n))) (c.requires.updates.numbers c.loop-j.j c.loop-j-test.true)
    ∙ some_end (end_of (update_of calls c.loop-j.j (suc (shown_number r c.loop-j.j)))) _ (c.requires.updates.ends c.loop-j.j below) (omega (arith, c.if-ended-updates.true, c.fits-updates))

pub with_missed-part-requires-clause-few : goal.with_missed-part-requires-clause-few
with_missed-part-requires-clause-few g c =
    let es = c.args.index.now in
    let r = view_in (calls_of es) c.args.place in
    let there = view_there es c.args.place c.requires.place in
    omega (
      arith,
      ap (λ (p : PartValue WriteFault). p.count) c.loop-j.invariant,
      all_missed_few es c.requires.kept r there c.loop-j.j,
      c.loop-j-test.true,
      c.requires.updates.limit.few,
    )

pub with_missed-part-requires-clause-size : goal.with_missed-part-requires-clause-size
with_missed-part-requires-clause-size g c = omega (arith, length_permutation _ _ c.requires.same, c.requires.size)

pub with_missed-part-requires-clause-count : goal.with_missed-part-requires-clause-count
with_missed-part-requires-clause-count g c =
    let ended = get_or c.args.updates.now.ends c.loop-j.j 0 in
    cc (c.count_behind-count.ensures, sum_by-IsPermutation (λ b. cond (nat_lt ended b) 1 0) _ _ c.requires.same)

pub count_behind-count-requires-clause-few : goal.count_behind-count-requires-clause-few
count_behind-count-requires-clause-few g c =
    omega (arith, length_permutation _ _ c.requires.same, c.requires.size, ap length c.requires.view.entries, rising_few _ c.requires.view.shape.rising (λ j d l. (c.requires.view.shape.fit j d l).0))

pub loop-j-preserved : goal.loop-j-preserved
loop-j-preserved g c =
    let calls = calls_of c.args.index.now in
    let r = view_in calls c.args.place in
    let at : get_or components c.loop-j.j 0 ≡ c.loop-j.j = omega (arith, get_or-range_with_len 0 256 c.loop-j.j 0 (omega (arith, c.loop-j-test.true, c.requires.updates.limit.few))) in
    elim c.if-ended-updates.branch [
      | then-ended-updates w ↦
          w.part-is ∙ w.with_missed-part.ensures ∙ ap (λ p. merged_part p (part_of reported_write (missed_at calls r c.loop-j.j))) c.loop-j.invariant
          ∙ ap (λ j. merged_part (part_of reported_write (flat_map (missed_at calls r) (take c.loop-j.j components))) (part_of reported_write (missed_at calls r j))) (sym at)
          ∙ sym (merge_step reported_write (missed_at calls r) components c.loop-j.j 0 (omega (arith, c.loop-j-test.true, c.requires.updates.limit.few)))
      | else-ended-updates w ↦
          let late : c.args.updates.now.latest ≤ end_next calls r c.loop-j.j = omega (arith, w.if-ended-updates.false, c.requires.updates.ends c.loop-j.j (omega (arith, c.loop-j-test.true, c.requires.updates.limit.few))) in
          w.part-is ∙ c.loop-j.invariant
          ∙ none_step c.args.index.now r c.loop-j.j (omega (arith, c.loop-j-test.true, c.requires.updates.limit.few)) (none_missed_at c.args.index.now c.requires.kept r c.args.updates.now c.loop-j.j c.requires.updates c.requires.view.shape (omega (arith, c.fits-updates)) late)
    ]

pub returns : goal.returns
returns g c =
    let calls = calls_of c.args.index.now in
    let r = view_in calls c.args.place in
    c.loop-j.invariant ∙ missed_rest c.args.index.now c.requires.kept r c.args.updates.now.limit c.requires.updates.limit (256 - c.loop-j.j) c.loop-j.j (omega (arith, c.loop-j-test.false)) (omega (arith, c.loop-j.auto.j-end, c.requires.updates.limit.few)) ∙ sym (write_alone calls r)
