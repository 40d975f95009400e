use Rattle.std.proofs.Common.{rules, ◌∙◌, ℕ, map, sym, ap, subst}
use Rattle.std.specs.List.Sorted.{IsPermutation}
use Rattle.std.proofs.lemmas.List.Sorted.{IsNonDecreasingBy-from_sort_by_key}
use Rattle.std.proofs.lemmas.Result.{IfOk-weaker}
use Rattle.snap_core.specs.Calls.{calls_of}
use Rattle.snap_core.specs.Events.{event_cap}
use Rattle.snap_core.proofs.Fits.{bytes_of_events}
use Rattle.snap_core.proofs.Ordered.{are_ordered_calls}
use Rattle.snap_theory.specs.KeyOrder.{as_one}
use Rattle.snap_theory.specs.Levels.{printed_order}
use Rattle.snap_order.proofs.Sorting.{sorted_keys}
use Rattle.snap_theory.proofs.Keys.{sorted_keys_give_order}
use Rattle.snap_theory.proofs.OrderLaws.{ordered_prints_legal_order}
use Rattle.snap_order.proofs.printing.ordered.Goals as goal

pub returns-clause-printed : goal.returns-clause-printed
returns-clause-printed g c =
    let es = c.args.index.now in
    let kept = c.event_count-events.ensures.ordered in
    let keys = c.sort_unstable_by_key.new.self.items in
    let same = subst (λ z. IsPermutation z keys) c.requires.keys c.sort_unstable_by_key.ensures.permutation in
    let up = IsNonDecreasingBy-from_sort_by_key (as_one event_cap) keys c.sort_unstable_by_key.ensures.sorted (λ a r q k. search rules) in
    let given = sorted_keys_give_order (calls_of es) (are_ordered_calls es kept.history) keys (sorted_keys es kept keys same up) in
    IfOk-weaker c.numbers.result _ _ (λ v h. h ∙ ap (map (λ (k : ℕ × ℕ). k.1)) c.deref.ensures.value ∙ given) c.numbers.ensures

pub returns-clause-legal : goal.returns-clause-legal
returns-clause-legal g c =
    let es = c.args.index.now in
    let kept = c.event_count-events.ensures.ordered in
    let legal = (ordered_prints_legal_order es kept.history (bytes_of_events es kept.fit) c.requires.fault).legal in
    IfOk-weaker c.numbers.result _ _ (λ v h. (printed_order (calls_of es), sym h, legal)) (returns-clause-printed g c)
