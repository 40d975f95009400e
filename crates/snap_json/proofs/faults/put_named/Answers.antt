use Rattle.std.proofs.Common.{◌++◌, [], ◌∷◌, codes, decimal}
use Rattle.json.specs.Token as token
use Rattle.json.specs.Tree.{json_tokens}
use Rattle.snap_core.specs.Calls.{calls_of}
use Rattle.snap_report.proofs.Pieces.{same_text}
use Rattle.snap_json.specs.Calls.{update_json}
use Rattle.snap_json.specs.Faults.{named_json}
use Rattle.snap_json.proofs.Values.{six_joined}
use Rattle.snap_json.proofs.faults.put_named.Goals as goal

pub returns : goal.returns
returns g c =
    let old = c.args.line.now.writer.tokens in
    let calls = calls_of c.args.index.now in
    let records = c.args.records.now in
    same_text c.end_object.result c.end_object.new.self.writer.tokens _ (old ++ json_tokens (named_json records calls c.args.component c.args.number))
    (rw (c.in_ok-put_update.ensures, c.in_ok-key.ensures, c.in_ok-number-2.ensures, c.in_ok-number.ensures, c.in_ok-begin_object.ensures, c.from.ensures, c.from-2.ensures)
    (six_joined old (token.begin_object ∷ []) (token.key (codes "component") ∷ token.number (decimal c.args.component) ∷ []) (token.key (codes "number") ∷ token.number (decimal c.args.number) ∷ [])
    (token.key (codes "update") ∷ []) (json_tokens (update_json records calls c.args.component c.args.number)) (token.end_object ∷ [])))
    c.end_object.ensures
