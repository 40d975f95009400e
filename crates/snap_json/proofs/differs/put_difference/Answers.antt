use Rattle.std.proofs.Common.{◌≡◌, ◌++◌, ◌∙◌, [], ◌∷◌, codes, decimal}
use Rattle.json.specs.Token as token
use Rattle.json.specs.Tree.{json_tokens}
use Rattle.snap_core.specs.Calls.{call_numbered, calls_of, shown_number}
use Rattle.snap_report.proofs.Pieces.{same_text}
use Rattle.snap_witness.proofs.Excess.{number_shown}
use Rattle.snap_json.specs.Calls.{update_json}
use Rattle.snap_json.specs.Differs.{difference_json}
use Rattle.snap_json.proofs.Values.{seven_joined}
use Rattle.snap_json.proofs.differs.put_difference.Goals as goal

pub returns : goal.returns
unfolding difference_json
returns g c =
    let old = c.args.line.now.writer.tokens in
    let calls = calls_of c.args.index.now in
    let records = c.args.records.now in
    let f = c.args.fault.now in
    let u = c.args.update in
    let one = call_numbered calls f.view in
    let two = call_numbered calls f.other in
    let shown : c.number-shown.result ≡ shown_number one u.0 = c.number-shown.ensures ∙ number_shown one u.0 c.view_numbered.result.now c.view_numbered.ensures in
    let other : c.number-other.result ≡ shown_number two u.0 = c.number-other.ensures ∙ number_shown two u.0 c.view_numbered-2.result.now c.view_numbered-2.ensures in
    same_text c.end_object.result c.end_object.new.self.writer.tokens _ (old ++ json_tokens (difference_json records calls f u))
    (rw (c.in_ok-put_update.ensures, c.in_ok-key.ensures, c.in_ok-number-3.ensures, c.in_ok-number-2.ensures, c.in_ok-number.ensures, c.in_ok-begin_object.ensures, c.from.ensures, c.from-2.ensures, c.from-3.ensures, shown, other)
    (seven_joined old (token.begin_object ∷ []) (token.key (codes "component") ∷ token.number (decimal u.0) ∷ []) (token.key (codes "view_number") ∷ token.number (decimal (shown_number one u.0)) ∷ [])
    (token.key (codes "other_number") ∷ token.number (decimal (shown_number two u.0)) ∷ []) (token.key (codes "update") ∷ []) (json_tokens (update_json records calls u.0 u.1)) (token.end_object ∷ [])))
    c.end_object.ensures
