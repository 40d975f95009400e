use Rattle.std.proofs.Common.{◌≡◌, ◌++◌, [], ◌∷◌, Some, None, sym, ap, ◌∙◌, append-nil}
use Rattle.snap_core.specs.Calls.{calls_of, call_numbered, shown_number}
use Rattle.snap_theory.specs.Faults.{least_exceeding}
use Rattle.snap_theory.specs.FaultWitnesses.{shown_update}
use Rattle.snap_witness.proofs.Excess.{least_exceeded, number_shown}
use Rattle.snap_witness.proofs.fault_calls.push_excess.Goals as goal

pub returns-in_ok-push : goal.returns-in_ok-push
returns-in_ok-push g c =
    let r = call_numbered (calls_of c.args.index.now) c.args.view in
    let s = call_numbered (calls_of c.args.index.now) c.args.other in
    let least : least_exceeding r s ≡ Some c.in-Some.k = sym (least_exceeded r s c.view_numbered-shown.result.now c.view_numbered.result.now c.view_numbered-shown.ensures c.view_numbered.ensures) ∙ sym c.least_exceeding.ensures ∙ c.in-Some.is in
    let number : c.number.result ≡ shown_number r c.in-Some.k = c.number.ensures ∙ number_shown r c.in-Some.k c.view_numbered-shown.result.now c.view_numbered-shown.ensures in
    c.in_ok-push.ensures.items ∙ ap (λ n. c.args.updates.now.items ++ (c.in-Some.k, n) ∷ []) number ∙ ap (λ z. c.args.updates.now.items ++ shown_update r z) (sym least)

pub returns-in_default : goal.returns-in_default
returns-in_default g c =
    let r = call_numbered (calls_of c.args.index.now) c.args.view in
    let s = call_numbered (calls_of c.args.index.now) c.args.other in
    let none : least_exceeding r s ≡ None = sym (least_exceeded r s c.view_numbered-shown.result.now c.view_numbered.result.now c.view_numbered-shown.ensures c.view_numbered.ensures) ∙ sym c.least_exceeding.ensures ∙ c.in_default.is in
    sym (append-nil c.args.updates.now.items) ∙ ap (λ z. c.args.updates.now.items ++ shown_update r z) (sym none)
