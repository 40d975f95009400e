use Rattle.std.proofs.Common.{◌++◌, [], ◌∷◌, codes, decimal}
use Rattle.json.specs.Token as token
use Rattle.json.specs.Tree.{json_tokens}
use Rattle.snap_report.proofs.Pieces.{same_text}
use Rattle.snap_json.specs.Stats.{component_json}
use Rattle.snap_json.proofs.Values.{six_joined}
use Rattle.snap_json.proofs.stats.put_component.Goals as goal

pub returns : goal.returns
unfolding component_json
returns c =
    let old = c.args.line.now.writer.tokens in
    let k = c.args.component.now in
    same_text c.end_object.result c.end_object.new.self.writer.tokens _ (old ++ json_tokens (component_json k))
    (rw (c.in_ok-number-4.ensures, c.in_ok-number-3.ensures, c.in_ok-number-2.ensures, c.in_ok-number.ensures, c.in_ok-begin_object.ensures, c.from.ensures, c.from-2.ensures)
    (six_joined old (token.begin_object ∷ []) (token.key (codes "component") ∷ token.number (decimal k.component) ∷ []) (token.key (codes "writer") ∷ token.number (decimal k.writer) ∷ [])
    (token.key (codes "updates") ∷ token.number (decimal k.updates) ∷ []) (token.key (codes "views") ∷ token.number (decimal k.views) ∷ []) (token.end_object ∷ [])))
    c.end_object.ensures
