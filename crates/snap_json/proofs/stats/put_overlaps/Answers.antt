use Rattle.std.proofs.Common.{◌++◌, [], ◌∷◌, codes, decimal}
use Rattle.json.specs.Token as token
use Rattle.snap_report.proofs.Pieces.{same_text}
use Rattle.snap_json.specs.Stats.{overlap_fields}
use Rattle.snap_json.specs.Values.{field_tokens}
use Rattle.snap_json.proofs.Values.{three_joined}
use Rattle.snap_json.proofs.stats.put_overlaps.Goals as goal

pub returns : goal.returns
returns c =
    let old = c.args.line.now.writer.tokens in
    let o = c.args.overlapping.now in
    same_text c.number-3.result c.number-3.new.self.writer.tokens _ (old ++ field_tokens (overlap_fields o))
    (rw (c.in_ok-number-2.ensures, c.in_ok-number.ensures)
    (three_joined old (token.key (codes "overlap_update") ∷ token.number (decimal o.update) ∷ [])
    (token.key (codes "overlap_view") ∷ token.number (decimal o.view) ∷ []) (token.key (codes "overlap_nothing") ∷ token.number (decimal o.nothing) ∷ [])))
    c.number-3.ensures
