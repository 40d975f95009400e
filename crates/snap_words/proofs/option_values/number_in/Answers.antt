use Rattle.std.proofs.Common.{◌≡◌, ◌∙◌}
use Rattle.std.specs.Prelude.{Some, decimal}
use Rattle.std.specs.Str.Parse.{ParsesUnsigned, ExplainsUnsignedError, HasUnsignedDigitsIfOk}
use Rattle.clap.specs.Words.{found_of, one_text}
use Rattle.clap.proofs.WalkLemmas.{one_text-rows}
use Rattle.snap_words.proofs.Numbers.{decimal_reads}
use Rattle.snap_words.proofs.option_values.number_in.Goals as goal

pub returns-clause-given : goal.returns-clause-given
returns-clause-given c = λ n lt one.
    let text : one_text (found_of c.args.matches.now) c.args.id.now ≡ Some (decimal n) = one_text-rows (found_of c.args.matches.now) c.args.id.now ∙ one in
    decimal_reads _ (λ bs r. ParsesUnsigned 32 10 bs r × ExplainsUnsignedError 10 bs r × HasUnsignedDigitsIfOk bs r) (λ u x g. g.0) n lt _ (c.get_one.ensures.value (decimal n) text)

pub returns-clause-absent : goal.returns-clause-absent
returns-clause-absent c = λ none. c.get_one.ensures.none (one_text-rows (found_of c.args.matches.now) c.args.id.now ∙ none)
