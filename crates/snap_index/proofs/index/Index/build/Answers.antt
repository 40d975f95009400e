use Rattle.std.proofs.Common.{◌≡◌, ◌<◌, ◌+◌, Vec, Global, true, false, cond, map, take, length, get_or, None, sym, ap, ◌∙◌, subst, arith}
use Rattle.std.specs.Prelude.{is_some, not}
use Rattle.std.specs.Option.{option_copied}
use Rattle.snap_core.specs.Calls.{calls_of, call_numbered, nobody}
use Rattle.snap_core.proofs.Histories.{numbered_calls}
use Rattle.snap_index.specs.declared.call.CallOp.TheVariants.{Update}
use Rattle.snap_index.specs.declared.call.Call.{Call}
use Rattle.snap_index.specs.declared.index.CompletedView.{CompletedView}
use Rattle.snap_index.specs.IndexedCalls.{as_indexed, answered_by, answer_of}
use Rattle.snap_index.specs.Answered.{answered_at}
use Rattle.snap_index.specs.inside.Tables.{AreTables}
use Rattle.snap_index.proofs.IndexedCalls.{call_count_within, count_is, indexed_read, numbered_there, update_from, word_fits}
use Rattle.snap_index.proofs.Ends.{ended_answer}
use Rattle.snap_index.proofs.Notes.{Shows, Puts, noted, none_noted, none_shown, one_shown, pending_few, pending_at, component_fits, updates_of_update, updates_of_view}
use Rattle.snap_index.proofs.index.Index.build.Goals as goal
use Rattle.snap_index.proofs.index.Index.build.Goals.{in-Update+in_ok-put-in-Update, in-View+in-Some+in_ok-push-in-View, in-View+in_default, then-is_none, else-is_none}

pub loop-c-init : goal.loop-c-init
loop-c-init g c =
    subst (λ z. AreTables (take 0 (calls_of c.args.history.now.events)) z c.new-updates.result 0) (sym c.new-views.ensures.items)
    (none_noted (calls_of c.args.history.now.events) c.new-updates.result c.new-updates.ensures)

pub overflow_cast-number : goal.overflow_cast-number
overflow_cast-number g c =
    let es = c.args.history.now.events in
    let calls : c.in_ok-calls.calls.items ≡ map as_indexed (calls_of es) = c.in_ok-calls.ensures ∙ ap (λ z. map as_indexed (calls_of z)) c.events-events.ensures.events in
    let count = count_is es c.in_ok-calls.calls.items calls in
    word_fits c.loop-c.c (omega (arith, count, call_count_within es, c.events-events.ensures.ordered.short))

pub overflow_add-pending : goal.overflow_add-pending
overflow_add-pending g c =
    let es = c.args.history.now.events in
    let calls : c.in_ok-calls.calls.items ≡ map as_indexed (calls_of es) = c.in_ok-calls.ensures ∙ ap (λ z. map as_indexed (calls_of z)) c.events-events.ensures.events in
    let count = count_is es c.in_ok-calls.calls.items calls in
    word_fits _ (omega (arith, count, call_count_within es, c.events-events.ensures.ordered.short, pending_few (calls_of es) c.loop-c.c _ _ _ (omega (arith, count)) c.loop-c.invariant))

-- stands where the list has no call
abbrev no_call : Call
no_call = record { process = 0; op = Update (record { component = 0; number = 0; value = 0 }); begun = 0; ended = None }

pub loop-c-preserved : goal.loop-c-preserved
loop-c-preserved g c =
    let es = c.args.history.now.events in
    let calls : c.in_ok-calls.calls.items ≡ map as_indexed (calls_of es) = c.in_ok-calls.ensures ∙ ap (λ z. map as_indexed (calls_of z)) c.events-events.ensures.events in
    let count = count_is es c.in_ok-calls.calls.items calls in
    let x = get_or c.deref-call-items.result.now c.loop-c.c no_call in
    let within : c.loop-c.c < length (calls_of es) = omega (arith, count) in
    let is = indexed_read es c.deref-call-items.result.now c.loop-c.c no_call (c.deref-call-items.ensures.value ∙ calls) (omega (arith, count)) in
    let r = call_numbered (calls_of es) c.loop-c.c in
    let end : answered_at c.events-events.result.now x.ended ≡ answer_of r = ap (λ z. answered_at z x.ended) c.events-events.ensures.events ∙ ended_answer es r x c.events-events.ensures.ordered.history (numbered_there (calls_of es) c.loop-c.c within) is in
    let views : Shows r c.loop-c.views.items c.match-call.views.items = elim c.match-call.branch [
      | in-Update+in_ok-put-in-Update w ↦ none_shown r _ _ (ap answered_by (update_from r.operation w.in-Update.entry (sym (ap (λ (z : Call). z.op) is) ∙ w.in-Update.is))) (ap (λ (v : Vec CompletedView Global). v.items) w.views-is)
      | in-View+in-Some+in_ok-push-in-View w ↦ one_shown r (record { call = c.loop-c.c; view = w.in-Some.view }) _ _ (numbered_calls es c.loop-c.c nobody within) (sym (w.answered.ensures ∙ end) ∙ ap option_copied w.in-Some.is) (ap (λ (v : Vec CompletedView Global). v.items) w.views-is ∙ w.in_ok-push-in-View.ensures.items)
      | in-View+in_default w ↦ none_shown r _ _ (sym (w.answered.ensures ∙ end) ∙ ap option_copied w.in_default.is) (ap (λ (v : Vec CompletedView Global). v.items) w.views-is)
    ] in
    let updates : Puts x c.loop-c.c c.loop-c.updates c.match-call.updates = elim c.match-call.branch [
      | in-Update+in_ok-put-in-Update w ↦ updates_of_update x w.in-Update.entry c.loop-c.c _ _ (omega (arith, c.loop-c.invariant.size, component_fits es c.events-events.ensures.ordered c.loop-c.c within x is w.in-Update.entry w.in-Update.is)) w.in-Update.is (w.updates-is ∙ w.in_ok-put-in-Update.ensures)
      | in-View+in-Some+in_ok-push-in-View w ↦ updates_of_view x c.loop-c.c _ _ w.in-View.is w.updates-is
      | in-View+in_default w ↦ updates_of_view x c.loop-c.c _ _ w.in-View.is w.updates-is
    ] in
    let pending : c.if-is_none.pending ≡ c.loop-c.pending + cond (is_some x.ended) 0 1 = elim c.if-is_none.branch [
      | then-is_none w ↦ pending_at _ _ x.ended false (c.is_none.ensures ∙ ap not w.if-is_none.true) w.pending-is
      | else-is_none w ↦ pending_at _ _ x.ended true (c.is_none.ensures ∙ ap not w.if-is_none.false) (omega (arith, w.pending-is))
    ] in
    noted es c.events-events.ensures.ordered.history c.loop-c.c within x is c.loop-c.views.items c.match-call.views.items c.loop-c.updates c.match-call.updates c.loop-c.pending c.if-is_none.pending views updates pending c.loop-c.invariant
