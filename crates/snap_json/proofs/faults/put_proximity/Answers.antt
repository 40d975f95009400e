use Rattle.std.proofs.Common.{◌++◌, [], ◌∷◌, codes, decimal}
use Rattle.json.specs.Token as token
use Rattle.json.specs.Tree.{json_tokens}
use Rattle.snap_core.specs.Calls.{calls_of}
use Rattle.snap_report.proofs.Pieces.{same_text}
use Rattle.snap_report.specs.Faults.{side_word}
use Rattle.snap_witness.specs.Places.{side_number}
use Rattle.snap_json.specs.Calls.{update_json}
use Rattle.snap_json.specs.Faults.{numbered_json, proximity_json}
use Rattle.snap_json.proofs.Values.{seven_joined}
use Rattle.snap_json.proofs.faults.put_proximity.Goals as goal

pub returns : goal.returns
unfolding proximity_json
returns g c =
    let old = c.args.line.now.writer.tokens in
    let calls = calls_of c.args.index.now in
    let records = c.args.records.now in
    let f = c.args.fault.now in
    same_text c.end_object.result c.end_object.new.self.writer.tokens _ (old ++ json_tokens (proximity_json records calls c.args.count f))
    (rw (c.in_ok-put_update.ensures, c.in_ok-key.ensures, c.in_ok-text.ensures, c.in_ok-number-2.ensures, c.in_ok-number.ensures, c.in_ok-begin_fault.ensures, c.side_number-update.ensures, c.word_of.ensures, c.from.ensures, c.from-2.ensures)
    (seven_joined old (token.begin_object ∷ token.key (codes "count") ∷ token.number (decimal c.args.count) ∷ token.key (codes "view") ∷ json_tokens (numbered_json records calls f.view))
    (token.key (codes "component") ∷ token.number (decimal f.component) ∷ []) (token.key (codes "number") ∷ token.number (decimal f.number) ∷ []) (token.key (codes "side") ∷ token.string (side_word f.side) ∷ [])
    (token.key (codes "update") ∷ []) (json_tokens (update_json records calls f.component (side_number f.side f.number))) (token.end_object ∷ [])))
    c.end_object.ensures
