use Rattle.snap_words.proofs.command_jobs.stats_in.Goals as goal

pub returns-clause-asked : goal.returns-clause-asked
returns-clause-asked c = λ limit json asks.
    let json_is = c.in_ok-json.ensures.given json asks.format_is in
    (cc, c.in_ok-limit.ensures limit asks.limit_is, c.requires.named)
