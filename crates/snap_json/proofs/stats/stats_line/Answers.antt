use Rattle.std.proofs.Common.{◌++◌, [], ◌∷◌, Vec, Global, ap, codes}
use Rattle.json.specs.Json.{array, string}
use Rattle.json.specs.Token as token
use Rattle.snap_json.specs.Stats.{component_items, open_fields, overlap_fields, size_fields, stats_json}
use Rattle.snap_json.specs.Values.{field_tokens, number_json}
use Rattle.snap_json.proofs.Values.{fields_then_end, line_is}
use Rattle.snap_json.proofs.stats.stats_line.Goals as goal

pub returns : goal.returns
returns c =
    let s = c.args.stats.now in
    let cs = c.args.components.now in
    let front = token.begin_object ∷ field_tokens ((codes "name", string c.args.name.now) ∷ (codes "status", number_json c.args.status) ∷ (size_fields s ++ overlap_fields s.overlapping ++ open_fields s)) in
    line_is (λ (v : Vec _ Global). v.items) c.finish.result c.end_object.new.self.writer.tokens (stats_json c.args.name.now c.args.status s cs)
    (rw (c.in_ok-end_object.ensures, c.in_ok-put_components.ensures, c.in_ok-put_open.ensures, c.in_ok-put_overlaps.ensures, c.in_ok-put_sizes.ensures, c.in_ok-line.ensures)
    (ap (λ ts. front ++ ts) (fields_then_end ((codes "by_component", array (component_items cs)) ∷ []))))
    c.finish.ensures.text c.finish.ensures.reads_back
