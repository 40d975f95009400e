use Rattle.std.proofs.Common.{◌∙◌, ap, sym, refl}
use Rattle.std.specs.Prelude.{is_some, option_and_then}
use Rattle.snap_core.specs.Calls.{call_numbered, calls_of, is_view}
use Rattle.snap_core.specs.Orders.{is_update, is_writing}
use Rattle.snap_index.specs.IndexedCalls.{answer_of}
use Rattle.snap_index.proofs.IndexedCalls.{update_from}
use Rattle.snap_index.proofs.Known.{call_within}
use Rattle.snap_stats.specs.inside.Spans.{is_of}
use Rattle.snap_stats.proofs.Spans.{some_copied, view_answered, writing_not}
use Rattle.snap_stats.proofs.span.is_of.Goals as goal

pub returns-in-Update-matches : goal.returns-in-Update-matches
unfolding is_update
returns-in-Update-matches g c =
    let call = call_numbered (calls_of c.args.index.now) c.args.number in
    sym (ap (λ k. is_of k call) c.in-Update.is ∙ ap is_writing (update_from call.operation c.in-Update-matches.field-0 (sym c.requires.same ∙ c.in-Update-matches.is)))

pub returns-in_default : goal.returns-in_default
unfolding is_update
returns-in_default g c =
    let call = call_numbered (calls_of c.args.index.now) c.args.number in
    writing_not call.operation c.args.op c.requires.same c.in_default.not-Update ∙ sym (ap (λ k. is_of k call) c.in-Update.is)

pub returns-in-View : goal.returns-in-View
unfolding is_view
returns-in-View g c =
    let calls = calls_of c.args.index.now in
    let call = call_numbered calls c.args.number in
    c.is_some.ensures ∙ some_copied c.answer.result ∙ ap is_some (c.answer.ensures ∙ ap (option_and_then answer_of) (call_within calls c.args.number c.requires.below))
    ∙ view_answered call.operation ∙ sym (ap (λ k. is_of k call) c.in-View.is)
