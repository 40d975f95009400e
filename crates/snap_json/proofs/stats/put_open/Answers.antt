use Rattle.std.proofs.Common.{◌++◌, [], ◌∷◌, codes, decimal}
use Rattle.json.specs.Token as token
use Rattle.snap_report.proofs.Pieces.{same_text}
use Rattle.snap_stats.specs.Lines.{shows_concurrency}
use Rattle.snap_json.specs.Stats.{open_fields}
use Rattle.snap_json.specs.Values.{field_tokens}
use Rattle.snap_json.proofs.Values.{four_joined}
use Rattle.snap_json.proofs.stats.put_open.Goals as goal

pub returns : goal.returns
returns c =
    let old = c.args.line.now.writer.tokens in
    let s = c.args.stats.now in
    same_text c.truth.result c.truth.new.self.writer.tokens _ (old ++ field_tokens (open_fields s))
    (rw (c.in_ok-number-3.ensures, c.in_ok-number-2.ensures, c.in_ok-number.ensures, c.shows_concurrency.ensures)
    (four_joined old (token.key (codes "unshown") ∷ token.number (decimal s.unshown) ∷ []) (token.key (codes "most_open") ∷ token.number (decimal s.most_open) ∷ [])
    (token.key (codes "longest") ∷ token.number (decimal s.longest) ∷ []) (token.key (codes "shows_concurrency") ∷ token.boolean (shows_concurrency s) ∷ [])))
    c.truth.ensures
