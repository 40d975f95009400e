use Rattle.std.proofs.Common.{◌++◌, [], ◌∷◌, codes, decimal}
use Rattle.json.specs.Json.{string}
use Rattle.json.specs.Token as token
use Rattle.json.specs.Tree.{json_tokens}
use Rattle.snap_text.specs.Words.{word_of}
use Rattle.snap_report.proofs.Pieces.{same_text}
use Rattle.snap_json.specs.Values.{number_json, object_of}
use Rattle.snap_json.proofs.Values.{five_joined}
use Rattle.snap_json.proofs.object.put_refused.Goals as goal

pub returns : goal.returns
returns c =
    let old = c.args.line.now.writer.tokens in
    same_text c.end_object.result c.end_object.new.self.writer.tokens _
    (old ++ (token.key (codes "refused") ∷ json_tokens (object_of ((codes "record", number_json c.args.place) ∷ (codes "fault", string (word_of c.args.fault)) ∷ []))))
    (rw (c.in_ok-text.ensures, c.in_ok-number.ensures, c.in_ok-begin_object.ensures, c.in_ok-key.ensures, c.from.ensures, c.word.ensures)
    (five_joined old (token.key (codes "refused") ∷ []) (token.begin_object ∷ []) (token.key (codes "record") ∷ token.number (decimal c.args.place) ∷ [])
    (token.key (codes "fault") ∷ token.string (word_of c.args.fault) ∷ []) (token.end_object ∷ [])))
    c.end_object.ensures
