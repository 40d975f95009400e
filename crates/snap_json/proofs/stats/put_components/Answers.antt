use Rattle.std.proofs.Common.{◌++◌, [], ◌∷◌, codes}
use Rattle.json.specs.Json.{array}
use Rattle.snap_report.proofs.Pieces.{same_text}
use Rattle.snap_json.specs.Stats.{component_items}
use Rattle.snap_json.specs.Values.{field_tokens}
use Rattle.snap_json.proofs.Components.{components_added}
use Rattle.snap_json.proofs.stats.put_components.Goals as goal

pub returns : goal.returns
returns c =
    let old = c.args.line.now.writer.tokens in
    let cs = c.args.components.now in
    same_text c.end_array.result c.end_array.new.self.writer.tokens _ (old ++ field_tokens ((codes "by_component", array (component_items cs)) ∷ []))
    (rw (c.in_ok-put_each.ensures, c.in_ok-begin_array.ensures, c.in_ok-key.ensures) (components_added old cs))
    c.end_array.ensures
