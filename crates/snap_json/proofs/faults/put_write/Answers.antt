use Rattle.std.proofs.Common.{◌++◌, [], ◌∷◌, codes, decimal}
use Rattle.json.specs.Token as token
use Rattle.json.specs.Tree.{json_tokens}
use Rattle.snap_core.specs.Calls.{calls_of}
use Rattle.snap_report.proofs.Pieces.{same_text}
use Rattle.snap_json.specs.Faults.{named_json, numbered_json, write_json}
use Rattle.snap_json.proofs.Values.{six_joined}
use Rattle.snap_json.proofs.faults.put_write.Goals as goal

pub returns : goal.returns
unfolding write_json
returns g c =
    let old = c.args.line.now.writer.tokens in
    let calls = calls_of c.args.index.now in
    let records = c.args.records.now in
    let f = c.args.fault.now in
    same_text c.end_object.result c.end_object.new.self.writer.tokens _ (old ++ json_tokens (write_json records calls c.args.count f))
    (rw (c.in_ok-put_named-2.ensures, c.in_ok-key-2.ensures, c.in_ok-put_named.ensures, c.in_ok-key.ensures, c.in_ok-begin_fault.ensures)
    (six_joined old (token.begin_object ∷ token.key (codes "count") ∷ token.number (decimal c.args.count) ∷ token.key (codes "view") ∷ json_tokens (numbered_json records calls f.view))
    (token.key (codes "misses") ∷ []) (json_tokens (named_json records calls f.missed_component f.missed_number)) (token.key (codes "shows") ∷ []) (json_tokens (named_json records calls f.shown_component f.shown_number)) (token.end_object ∷ [])))
    c.end_object.ensures
