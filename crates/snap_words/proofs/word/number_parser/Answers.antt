use Rattle.std.proofs.Common.{rules}
use Rattle.snap_words.proofs.word.number_parser.Goals as goal

pub returns : goal.returns
returns c = search rules
