use Rattle.std.proofs.Common.{◌++◌, ◌∙◌, ap, sym}
use Rattle.std.specs.List.{flat_map}
use Rattle.json.specs.Tree.{json_tokens}
use Rattle.snap_core.specs.Calls.{call_numbered, calls_of}
use Rattle.snap_report.proofs.Pieces.{same_text}
use Rattle.snap_json.specs.Calls.{entries_in, entry_json}
use Rattle.snap_json.proofs.Calls.{update_entries, view_entries}
use Rattle.snap_json.proofs.call.put_operation.Goals as goal

pub returns-in-Update : goal.returns-in-Update
returns-in-Update g c =
    let old = c.args.line.now.writer.tokens in
    let o = (call_numbered (calls_of c.args.index.now) c.args.number).operation in
    same_text c.put_entry.result c.put_entry.new.line.writer.tokens _ (old ++ flat_map (λ entry. json_tokens (entry_json entry)) (entries_in o))
    (ap (λ ts. old ++ ts) (update_entries o c.in-Update.entry (sym c.in-Update.is ∙ c.requires.same)))
    c.put_entry.ensures

pub returns-in-View : goal.returns-in-View
returns-in-View g c =
    let old = c.args.line.now.writer.tokens in
    let o = (call_numbered (calls_of c.args.index.now) c.args.number).operation in
    same_text c.put_shown.result c.put_shown.new.line.writer.tokens _ (old ++ flat_map (λ entry. json_tokens (entry_json entry)) (entries_in o))
    (ap (λ es. old ++ flat_map (λ entry. json_tokens (entry_json entry)) es) (view_entries o (sym c.in-View.is ∙ c.requires.same)))
    c.put_shown.ensures
