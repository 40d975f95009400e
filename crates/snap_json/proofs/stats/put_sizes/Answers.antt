use Rattle.std.proofs.Common.{◌++◌, [], ◌∷◌, codes, decimal}
use Rattle.json.specs.Token as token
use Rattle.snap_report.proofs.Pieces.{same_text}
use Rattle.snap_json.specs.Stats.{size_fields}
use Rattle.snap_json.specs.Values.{field_tokens}
use Rattle.snap_json.proofs.Values.{seven_joined}
use Rattle.snap_json.proofs.stats.put_sizes.Goals as goal

pub returns : goal.returns
returns c =
    let old = c.args.line.now.writer.tokens in
    let s = c.args.stats.now in
    same_text c.number-7.result c.number-7.new.self.writer.tokens _ (old ++ field_tokens (size_fields s))
    (rw (c.in_ok-number-6.ensures, c.in_ok-number-5.ensures, c.in_ok-number-4.ensures, c.in_ok-number-3.ensures, c.in_ok-number-2.ensures, c.in_ok-number.ensures)
    (seven_joined old (token.key (codes "events") ∷ token.number (decimal s.events) ∷ []) (token.key (codes "calls") ∷ token.number (decimal s.calls) ∷ []) (token.key (codes "pending") ∷ token.number (decimal s.pending) ∷ [])
    (token.key (codes "views") ∷ token.number (decimal s.views) ∷ []) (token.key (codes "updates") ∷ token.number (decimal s.updates) ∷ []) (token.key (codes "processes") ∷ token.number (decimal s.processes) ∷ [])
    (token.key (codes "components") ∷ token.number (decimal s.components) ∷ [])))
    c.number-7.ensures
