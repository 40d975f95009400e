use Rattle.std.proofs.Common.{◌++◌, [], ◌∷◌, codes, decimal}
use Rattle.json.specs.Token as token
use Rattle.json.specs.Tree.{json_tokens}
use Rattle.snap_report.proofs.Pieces.{same_text}
use Rattle.snap_json.specs.Values.{number_json, object_of}
use Rattle.snap_json.proofs.Values.{five_joined}
use Rattle.snap_json.proofs.object.put_few_views.Goals as goal

pub returns : goal.returns
returns c =
    let old = c.args.line.now.writer.tokens in
    same_text c.end_object.result c.end_object.new.self.writer.tokens _
    (old ++ (token.key (codes "too_few_views") ∷ json_tokens (object_of ((codes "views", number_json c.args.views) ∷ (codes "least", number_json c.args.least) ∷ []))))
    (rw (c.in_ok-number-2.ensures, c.in_ok-number.ensures, c.in_ok-begin_object.ensures, c.in_ok-key.ensures, c.from.ensures, c.from-2.ensures)
    (five_joined old (token.key (codes "too_few_views") ∷ []) (token.begin_object ∷ []) (token.key (codes "views") ∷ token.number (decimal c.args.views) ∷ [])
    (token.key (codes "least") ∷ token.number (decimal c.args.least) ∷ []) (token.end_object ∷ [])))
    c.end_object.ensures
