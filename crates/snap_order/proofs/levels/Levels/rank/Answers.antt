use Rattle.std.proofs.Common.{◌≡◌, ◌||◌, ◌+◌, ◌*◌, cond, List, Some, None, sym, ap, ◌∙◌, subst, arith}
use Rattle.std.specs.Prelude.{count_by, is_some, nat_lt, nat_le}
use Rattle.std.specs.List.{list_any}
use Rattle.snap_core.specs.declared.event.Event.{Event}
use Rattle.snap_core.specs.Bounded.{IsBoundedOrdered}
use Rattle.snap_core.specs.Calls.{calls_of, call_numbered, views_of, shown_number, nobody}
use Rattle.snap_views.specs.Quick.{AreComparable, shown_sum}
use Rattle.snap_index.specs.IndexedCalls.{as_indexed}
use Rattle.snap_index.specs.declared.call.Call.{Call}
use Rattle.snap_index.proofs.IndexedCalls.{numbered_there}
use Rattle.snap_order.proofs.Places.{found, answer_at}
use Rattle.snap_order.proofs.Ranking.{rank_fits, word_fits, update_rank, view_rank, answered_view, no_rank, by_end, by_view, then_some_is}
use Rattle.snap_order.proofs.Searches.{shown_by_level, view_level_is}
use Rattle.snap_order.proofs.levels.Levels.rank.Goals as goal
use Rattle.snap_order.proofs.levels.Levels.rank.Goals.{then-is_some, else-is_some}

pub overflow_mul-level : goal.overflow_mul-level
overflow_mul-level g c =
    let l = rank_fits c.args.self.now c.update_level-level.result (subst IsBoundedOrdered c.self.view_is c.self.invariant.kept) c.update_level-level.ensures.few in
    word_fits (2 * c.update_level-level.result) (omega (arith, l))

pub returns-after-is_some : goal.returns-after-is_some
returns-after-is_some g c =
    let calls = calls_of c.args.self.now in
    let call = call_numbered calls c.args.number in
    let entry = c.in-Update.entry in
    let indexed_call = found as_indexed calls c.args.number nobody c.in_ok-call.call.now c.requires (rw c.self.view_is at c.in_ok-call.ensures) in
    let ended = ap (λ (z : Call). z.ended) indexed_call in
    let any = list_any (λ r. nat_le entry.number (shown_number r entry.component)) (views_of calls) in
    let printed : (is_some call.ended || any) ≡ c.if-is_some.is_printed = elim c.if-is_some.branch [
      | then-is_some w ↦ by_end c.in_ok-call.call.now.ended call.ended any c.if-is_some.is_printed c.is_some.result ended c.is_some.ensures w.if-is_some.true w.is_printed-is
      | else-is_some w ↦
          let seen = ap (λ n. nat_lt n w.view_count.result) c.update_level-level.ensures.level ∙ ap (nat_lt _) (rw c.self.view_is at w.view_count.ensures) ∙ sym (shown_by_level calls entry) in
          by_view c.in_ok-call.call.now.ended call.ended any c.if-is_some.is_printed c.is_some.result ended c.is_some.ensures w.if-is_some.false (w.is_printed-is ∙ seen)
    ] in
    c.then_some.ensures ∙ then_some_is c.if-is_some.is_printed (2 * c.update_level-level.result)
    ∙ ap (λ z. cond c.if-is_some.is_printed (Some (2 * z)) None) c.update_level-level.ensures.level
    ∙ update_rank calls call entry c.if-is_some.is_printed (sym (ap (λ (z : Call). z.op) indexed_call) ∙ c.in-Update.is) printed

pub overflow_mul-result : goal.overflow_mul-result
overflow_mul-result g c =
    let l = rank_fits c.args.self.now c.view_level.result (subst IsBoundedOrdered c.self.view_is c.self.invariant.kept) c.view_level.ensures.few in
    word_fits (2 * c.view_level.result) (omega (arith, l))

pub overflow_add-result : goal.overflow_add-result
overflow_add-result g c = word_fits (2 * c.view_level.result + 1) (rank_fits c.args.self.now c.view_level.result (subst IsBoundedOrdered c.self.view_is c.self.invariant.kept) c.view_level.ensures.few)

pub returns-in_ok-view-in-View : goal.returns-in_ok-view-in-View
returns-in_ok-view-in-View g c =
    let es = c.args.self.now in
    let calls = calls_of es in
    let call = call_numbered calls c.args.number in
    let indexed_call = found as_indexed calls c.args.number nobody c.in_ok-call.call.now c.requires (rw c.self.view_is at c.in_ok-call.ensures) in
    let shows = answered_view call c.in_ok-view-in-View.view.now (sym (ap (λ (z : Call). z.op) indexed_call) ∙ c.in-View.is) ((rw c.self.view_is at c.in_ok-view-in-View.ensures) ∙ answer_at calls c.args.number c.requires) in
    view_rank calls call c.in_ok-view-in-View.view.now c.view_level.result shows
    (c.view_level.ensures.level ∙ ap (λ n. count_by (λ s. nat_lt (shown_sum s) n) (views_of calls)) c.sum_of-sum.ensures ∙ view_level_is es (subst IsBoundedOrdered c.self.view_is c.self.invariant.kept) (subst (λ (z : List Event). AreComparable (calls_of z)) c.self.view_is c.self.invariant.comparable) call c.in_ok-view-in-View.view.now (numbered_there calls c.args.number c.requires) shows)

pub returns-in_err-view-in-View : goal.returns-in_err-view-in-View
returns-in_err-view-in-View g c =
    let calls = calls_of c.args.self.now in
    let indexed_call = found as_indexed calls c.args.number nobody c.in_ok-call.call.now c.requires (rw c.self.view_is at c.in_ok-call.ensures) in
    c.from_residual-in_err-view-in-View.ensures ∙ no_rank calls (call_numbered calls c.args.number) (sym (ap (λ (z : Call). z.op) indexed_call) ∙ c.in-View.is) ((rw c.self.view_is at c.in_err-view-in-View.ensures) ∙ answer_at calls c.args.number c.requires)
