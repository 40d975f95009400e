use Rattle.std.proofs.Common.{◌∙◌, sym, ap}
use Rattle.std.specs.List.{flat_map}
use Rattle.std.proofs.lemmas.Iterator.Adapters.{YieldsList-from_vec}
use Rattle.std.proofs.lemmas.Iterator.Consumers.{YieldsList-turn}
use Rattle.snap_core.specs.Calls.{Views}
use Rattle.snap_versions.specs.Rows.{operation_of, call_of}
use Rattle.snap_versions.specs.inside.RankedMoments.{ranked_whole}
use Rattle.snap_versions.proofs.Splitting.{update_comes, update_stays_out, view_comes, view_stays_out, call_there}
use Rattle.snap_versions.proofs.cut.split.Goals as goal

pub loop-row-preserved-in-Continue-1 : goal.loop-row-preserved-in-Continue-1
loop-row-preserved-in-Continue-1 c =
    let rows = c.loop-row.yielded in
    let row = c.in-Some.row in
    let kept = c.loop-row.invariant in (
      tt,
      tt,
      update_comes rows row c.in-Update.entry c.in-Update.is c.loop-row.updates.items c.push.new.self.items kept.2 c.in_ok-push-in-Update.ensures.items,
      kept.3 ∙ ap (flat_map ranked_whole) (sym (update_stays_out rows row c.in-Update.entry c.in-Update.is)),
    )

pub push_view-requires : goal.push_view-requires
push_view-requires c = λ none.
    let rows = c.args.rows in
    let gives = c.into_iter-row-iterator.ensures.into_iter_gives in
    let turn = YieldsList-turn (YieldsList-from_vec {s = c.into_iter-row-iterator.result} rows.items gives.0 (gives.1 ∙ rows.ok.0)) c.loop-row.yielded c.loop-row.row-iterator c.loop-row.yielded_by c.next.result c.next.new.self c.in-Some.row c.in-Some.is c.next.ensures.steps in
    c.requires (call_of c.in-Some.row) (call_there rows.items c.in-Some.row _ turn.0 turn.1) (ap operation_of c.in-View.is ∙ ap Views none)

pub loop-row-preserved : goal.loop-row-preserved
loop-row-preserved c =
    let rows = c.loop-row.yielded in
    let row = c.in-Some.row in
    let kept = c.loop-row.invariant in (
      tt,
      tt,
      kept.2 ∙ sym (view_stays_out rows row c.in-View.answer c.in-View.is),
      view_comes rows row c.in-View.answer c.in-View.is c.loop-row.moments.items c.push_view.new.moments.items kept.3 c.in_ok-push_view-in-View.ensures,
    )
