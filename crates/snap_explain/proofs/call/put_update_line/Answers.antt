use Rattle.std.proofs.Common.{◌<◌, ◌++◌, ◌∙◌, [], ap, sym, subst, find, length}
use Rattle.std.specs.Option.{option_map_or}
use Rattle.snap_core.specs.Calls.{call_numbered, calls_of, is_update_numbered}
use Rattle.snap_index.specs.IndexedCalls.{number_of}
use Rattle.snap_index.proofs.IndexedCalls.{mapped_some}
use Rattle.snap_index.proofs.Known.{update_found}
use Rattle.snap_report.proofs.Pieces.{same_text}
use Rattle.snap_explain.specs.Calls.{call_text}
use Rattle.snap_explain.specs.Faults.{update_text}
use Rattle.snap_explain.proofs.call.put_update_line.Goals as goal

pub put_call_line-requires-clause-below : goal.put_call_line-requires-clause-below
put_call_line-requires-clause-below g c =
    let es = c.args.index.now in
    let m = mapped_some number_of (find (is_update_numbered c.args.component c.args.number) (calls_of es)) c.in-Some.call (sym c.in-Some.ensures) in
    let update = update_found es c.args.component c.args.number m.from m.is in
    subst (λ n. n < length (calls_of es)) m.to update.within

pub returns-in-Some : goal.returns-in-Some
returns-in-Some g c =
    let es = c.args.index.now in
    let out = c.args.out.now.items in
    let text = call_text c.args.records.now in
    let m = mapped_some number_of (find (is_update_numbered c.args.component c.args.number) (calls_of es)) c.in-Some.call (sym c.in-Some.ensures) in
    let update = update_found es c.args.component c.args.number m.from m.is in
    same_text c.put_call_line.result c.put_call_line.new.out.items _ (out ++ update_text c.args.records.now (calls_of es) c.args.component c.args.number)
    (ap (λ line. out ++ line)
    (ap (λ n. text (call_numbered (calls_of es) n)) (sym m.to) ∙ ap text update.own ∙ ap (λ o. option_map_or text o []) (sym m.is)))
    c.put_call_line.ensures
