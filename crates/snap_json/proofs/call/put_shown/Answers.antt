use Rattle.std.proofs.Common.{◌≡◌, ◌++◌, ◌∙◌, None, ap, sym}
use Rattle.std.specs.Prelude.{option_and_then}
use Rattle.std.specs.List.{flat_map}
use Rattle.std.specs.Option.{option_copied}
use Rattle.std.proofs.lemmas.List.{append-nil}
use Rattle.json.specs.Tree.{json_tokens}
use Rattle.snap_core.specs.declared.view.View.{View}
use Rattle.snap_core.specs.Calls.{call_numbered, calls_of}
use Rattle.snap_index.specs.IndexedCalls.{answer_of}
use Rattle.snap_index.proofs.Known.{call_within}
use Rattle.snap_json.specs.Calls.{entry_json}
use Rattle.snap_json.proofs.Calls.{none_shown}
use Rattle.snap_json.proofs.call.put_shown.Goals as goal

pub returns-in-None : goal.returns-in-None
returns-in-None g c =
    let old = c.args.line.now.writer.tokens in
    let calls = calls_of c.args.index.now in
    let call = call_numbered calls c.args.number in
    let none : None ≡ answer_of call =
    ap (option_copied {T = View}) (sym c.in-None.is) ∙ c.answer.ensures ∙ ap (option_and_then answer_of) (call_within calls c.args.number c.requires) in
    sym (append-nil old) ∙ ap (λ es. old ++ flat_map (λ entry. json_tokens (entry_json entry)) es) (sym (none_shown call.operation none))
