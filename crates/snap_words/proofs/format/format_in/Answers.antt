use Rattle.std.proofs.Common.{◌∙◌, codes}
use Rattle.clap.specs.Words.{found_of}
use Rattle.clap.proofs.WalkLemmas.{first_value-rows}
use Rattle.snap_words.proofs.Rows.{word_is}
use Rattle.snap_words.proofs.format.format_in.Goals as goal

pub returns-in_err-get_str : goal.returns-in_err-get_str
returns-in_err-get_str c = record {
  given = λ format one.
      let lost = c.in_err-get_str.ensures ∙ first_value-rows (found_of c.args.matches.now) (codes "format") ∙ one in
      absurd cc;
}

pub returns : goal.returns
returns c = record {
  given = λ format one.
      c.format_of.ensures.given format (word_is _ _ _ c.in_ok-get_str.ensures (first_value-rows (found_of c.args.matches.now) (codes "format") ∙ one));
}
