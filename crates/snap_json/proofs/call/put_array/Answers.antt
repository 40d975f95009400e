use Rattle.std.proofs.Common.{◌++◌}
use Rattle.json.specs.Json.{array}
use Rattle.json.specs.Tree.{json_tokens}
use Rattle.snap_core.specs.Calls.{call_numbered, calls_of}
use Rattle.snap_report.proofs.Pieces.{same_text}
use Rattle.snap_json.specs.Calls.{entries_in, entry_items}
use Rattle.snap_json.proofs.Values.{array_added}
use Rattle.snap_json.proofs.call.put_array.Goals as goal

pub returns : goal.returns
returns g c =
    let old = c.args.line.now.writer.tokens in
    let entries = entries_in (call_numbered (calls_of c.args.index.now) c.args.number).operation in
    same_text c.end_array.result c.end_array.new.self.writer.tokens _ (old ++ json_tokens (array (entry_items entries)))
    (rw (c.in_ok-put_operation.ensures, c.in_ok-begin_array.ensures) (array_added old entries))
    c.end_array.ensures
