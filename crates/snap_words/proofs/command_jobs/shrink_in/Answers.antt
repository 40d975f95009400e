use Rattle.snap_words.proofs.command_jobs.shrink_in.Goals as goal

pub returns-clause-asked : goal.returns-clause-asked
returns-clause-asked c = λ limit shrunk files is asks.
    let shrunk_is = c.in_ok-shrunk.ensures.asked limit shrunk asks in
    (cc, c.in_ok-limit.ensures limit asks.limit_is, is)
