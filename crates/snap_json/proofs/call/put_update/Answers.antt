use Rattle.std.proofs.Common.{◌<◌, ◌++◌, ◌∙◌, ap, sym, subst, find, length}
use Rattle.std.specs.Option.{option_map_or}
use Rattle.json.specs.Json.{null}
use Rattle.json.specs.Tree.{json_tokens}
use Rattle.snap_core.specs.Calls.{call_numbered, calls_of, is_update_numbered}
use Rattle.snap_index.specs.IndexedCalls.{number_of}
use Rattle.snap_index.proofs.IndexedCalls.{mapped_some}
use Rattle.snap_index.proofs.Known.{update_found}
use Rattle.snap_report.proofs.Pieces.{same_text}
use Rattle.snap_json.specs.Calls.{call_json, update_json}
use Rattle.snap_json.proofs.call.put_update.Goals as goal

pub put_call-requires-clause-below : goal.put_call-requires-clause-below
put_call-requires-clause-below g c =
    let es = c.args.index.now in
    let m = mapped_some number_of (find (is_update_numbered c.args.component c.args.number) (calls_of es)) c.in-Some.call (sym c.in-Some.ensures) in
    let update = update_found es c.args.component c.args.number m.from m.is in
    subst (λ n. n < length (calls_of es)) m.to update.within

pub returns-in-Some : goal.returns-in-Some
returns-in-Some g c =
    let es = c.args.index.now in
    let old = c.args.line.now.writer.tokens in
    let json = call_json c.args.records.now in
    let m = mapped_some number_of (find (is_update_numbered c.args.component c.args.number) (calls_of es)) c.in-Some.call (sym c.in-Some.ensures) in
    let update = update_found es c.args.component c.args.number m.from m.is in
    same_text c.put_call.result c.put_call.new.line.writer.tokens _ (old ++ json_tokens (update_json c.args.records.now (calls_of es) c.args.component c.args.number))
    (ap (λ value. old ++ json_tokens value)
    (ap (λ n. json (call_numbered (calls_of es) n)) (sym m.to) ∙ ap json update.own ∙ ap (λ o. option_map_or json o null) (sym m.is)))
    c.put_call.ensures
