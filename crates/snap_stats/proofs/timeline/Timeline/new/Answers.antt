use Rattle.std.proofs.Common.{◌≡◌, ◌++◌, ◌∙◌, Global, Vec, ap, append-nil, option_to_list, subst, sym, take, ℕ}
use Rattle.std.proofs.lemmas.List.{take_all}
use Rattle.std.proofs.lemmas.List.Sorted.{IsNonDecreasingBy-from_sort}
use Rattle.snap_stats.specs.inside.Spans.{AreTimesOf}
use Rattle.snap_stats.proofs.Spans.{times_more, times_sorted}
use Rattle.snap_stats.proofs.timeline.Timeline.new.Goals as goal
use Rattle.snap_stats.proofs.timeline.Timeline.new.Goals.{in-Some+in_ok-push-2, in_default}

pub loop-span-preserved : goal.loop-span-preserved
loop-span-preserved c =
    times_more c.args.spans.now c.loop-span.span-index _ c.loop-span.begins.items c.loop-span.ends.items c.push.new.self.items c.match-span.ends.items c.loop-span-test.true c.loop-span.invariant
    c.in_ok-push.ensures.items
    (elim c.match-span.branch [
      | in-Some+in_ok-push-2 w ↦ ap (λ (v : Vec ℕ Global). v.items) w.ends-is ∙ w.in_ok-push-2.ensures.items ∙ sym (ap (λ o. c.loop-span.ends.items ++ option_to_list o) w.in-Some.is)
      | in_default w ↦ ap (λ (v : Vec ℕ Global). v.items) w.ends-is ∙ sym (append-nil c.loop-span.ends.items) ∙ sym (ap (λ o. c.loop-span.ends.items ++ option_to_list o) w.in_default.is)
    ])

pub invariant_of-result : goal.invariant_of-result
invariant_of-result c = record {
  begins_rise = IsNonDecreasingBy-from_sort (λ x. x) c.sort_unstable.new.self.items c.sort_unstable.ensures.sorted;
  ends_rise = IsNonDecreasingBy-from_sort (λ x. x) c.sort_unstable-2.new.self.items c.sort_unstable-2.ensures.sorted;
}

pub returns : goal.returns
returns c =
    let all = subst (λ z. AreTimesOf z c.loop-span.begins.items c.loop-span.ends.items) (take_all c.loop-span.span-index c.args.spans.now c.loop-span-test.false) c.loop-span.invariant in
    times_sorted c.args.spans.now c.loop-span.begins.items c.loop-span.ends.items _ _ all c.sort_unstable.ensures.permutation c.sort_unstable-2.ensures.permutation
