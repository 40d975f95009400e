use Rattle.std.proofs.Common.{◌++◌, [], ◌∷◌, codes, decimal}
use Rattle.json.specs.Token as token
use Rattle.json.specs.Tree.{json_tokens}
use Rattle.snap_report.proofs.Pieces.{same_text}
use Rattle.snap_json.specs.Calls.{entry_json}
use Rattle.snap_json.proofs.Values.{five_joined}
use Rattle.snap_json.proofs.call.put_entry.Goals as goal

pub returns : goal.returns
returns c =
    let old = c.args.line.now.writer.tokens in
    let e = c.args.entry.now in
    same_text c.end_object.result c.end_object.new.self.writer.tokens _ (old ++ json_tokens (entry_json e))
    (rw (c.in_ok-number-3.ensures, c.in_ok-number-2.ensures, c.in_ok-number.ensures, c.in_ok-begin_object.ensures, c.from.ensures, c.from-2.ensures, c.from-3.ensures)
    (five_joined old (token.begin_object ∷ []) (token.key (codes "component") ∷ token.number (decimal e.component) ∷ []) (token.key (codes "number") ∷ token.number (decimal e.number) ∷ [])
    (token.key (codes "value") ∷ token.number (decimal e.value) ∷ []) (token.end_object ∷ [])))
    c.end_object.ensures
