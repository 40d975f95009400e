use Rattle.std.proofs.Common.{◌≡◌, ◌-◌, length, arith, rules}
use Rattle.std.proofs.lemmas.List.{take_rest}
use Rattle.snap_plain.proofs.AheadFacts.{read_ahead, spells_none, stops_as}
use Rattle.snap_plain.proofs.ahead.read_piece.Goals as goal

pub returns-in-Ok-clause-ahead : goal.returns-in-Ok-clause-ahead
returns-in-Ok-clause-ahead c =
    let lines = c.args.lines.now in
    let left = c.read_lines-stop.result.0.now in
    let to : c.saturating_sub-in-Ok.result ≡ length lines - length left = search (rules, arith) in (
      omega (arith, to),
      rw to (read_ahead lines _ left c.args.piece.from c.read_lines-stop.new.events.items (take_rest lines c.args.piece.from) c.read_lines-stop.ensures.lines),
    )

pub returns-in-Ok-clause-stops : goal.returns-in-Ok-clause-stops
returns-in-Ok-clause-stops c =
    let lines = c.args.lines.now in
    let left = c.read_lines-stop.result.0.now in
    let to : c.saturating_sub-in-Ok.result ≡ length lines - length left = search (rules, arith) in
    stops_as (λ reached. omega (arith, to, reached, c.requires.1)) (λ full. full)
    (λ other. rw to (spells_none lines _ left c.args.piece.from c.read_lines-stop.new.events.items (take_rest lines c.args.piece.from) c.read_lines-stop.ensures.lines other)) c.read_lines-stop.result.1 c.read_lines-stop.ensures.stops
