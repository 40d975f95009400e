use Rattle.std.proofs.Common.{◌≡◌, ◌<◌, ◌++◌, ◌∷◌, [], ◌∙◌, Bool, ap, arith, length, map, refl, sym, take, true, false}
use Rattle.std.proofs.lemmas.List.{map_more}
use Rattle.snap_core.specs.Calls.{call_numbered, calls_of, nobody}
use Rattle.snap_core.specs.Orders.{is_update, is_writing}
use Rattle.snap_index.specs.declared.call.Call.{Call}
use Rattle.snap_index.specs.declared.call.CallOp.TheVariants.{Update}
use Rattle.snap_index.specs.IndexedCalls.{indexed_op}
use Rattle.snap_index.proofs.IndexedCalls.{update_from}
use Rattle.snap_report.proofs.Calls.{op_is}
use Rattle.snap_stats.proofs.Spans.{writing_not}
use Rattle.snap_stats.proofs.shown.update_marks.Goals as goal
use Rattle.snap_stats.proofs.shown.update_marks.Goals.{in-Update, in_default-matches}

pub loop-number-preserved : goal.loop-number-preserved
unfolding is_update
loop-number-preserved g c =
    let calls = calls_of c.args.index.now in
    let n = c.loop-number.number in
    let call = call_numbered calls n in
    let within : n < length calls = omega (arith, c.loop-number-test.true, c.call_count-number-end.ensures) in
    let is : c.in-Some.call.now.op ≡ indexed_op call.operation = ap (λ (b : Call). b.op) (op_is c.args.index.now n c.in-Some.call.now within c.in-Some.ensures) in
    let mark : c.match-matches.matches ≡ is_writing call.operation = elim c.match-matches.branch [
      | in-Update w ↦ w.matches-is ∙ sym (ap is_writing (update_from call.operation w.in-Update.field-0 (sym is ∙ w.in-Update.is)))
      | in_default-matches w ↦ w.matches-is ∙ writing_not call.operation c.in-Some.call.now.op is w.in_default-matches.not-Update
    ] in
    c.in_ok-push.ensures.items ∙ ap (λ z. z ++ c.match-matches.matches ∷ []) c.loop-number.invariant ∙ ap (λ b. map is_update (take n calls) ++ b ∷ []) mark ∙ sym (map_more is_update calls n nobody within)
