use Rattle.std.proofs.Common.{◌∙◌}
use Rattle.clap.specs.Words.{found_of, one_of, rows_of}
use Rattle.snap_words.proofs.Numbers.{number_said}
use Rattle.snap_words.proofs.option_values.number_or.Goals as goal

pub returns : goal.returns
returns c = λ n lt says.
    c.unwrap_or.ensures
    ∙ number_said (one_of c.args.id.now (rows_of (found_of c.args.matches.now))) c.number_in.result c.args.usual n c.number_in.ensures.absent (c.number_in.ensures.given n lt) says
