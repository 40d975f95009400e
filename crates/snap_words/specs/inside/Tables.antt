-- The rule of one word.
use Rattle.std.specs.Prelude.{Some, ℤ, pos, [], ◌∷◌, option_map}
use Rattle.std.specs.Int.{int_max, int_min}
use Rattle.clap.specs.Words.{Rule, new_rule, signed_between}
use Rattle.clap.specs.declared.builder.action.ArgAction.TheVariants.{Append, SetTrue}
use Rattle.clap.specs.declared.builder.value_parser.ValueParser.{ValueParser}
use Rattle.snap_words.specs.declared.word.Takes.{Takes}
use Rattle.snap_words.specs.declared.word.Takes.TheVariants.{Nothing, Text, TextOr, Texts, Number, NumberOr}
use Rattle.snap_words.specs.declared.word.Word.{Word}

-- a word, without what follows it
abbrev pub named_rule : Word → Rule
named_rule word = record (new_rule word.id.now) { long = option_map (λ long. long.now) word.long; short = word.short }

-- the parser of a number of 32 bits that is in a range
abbrev pub number_between : ℤ → ℤ → ValueParser
number_between least most = signed_between (int_max (pos 0) least) (int_min (pos 4294967295) most)

-- the rule of a word that takes this
abbrev pub rule_taking : Rule → Takes → Rule
rule_taking rule Nothing = record rule { action = Some SetTrue }
rule_taking rule (Text name) = record rule { value_names = 1 }
rule_taking rule (TextOr name usual) = record rule { value_names = 1; defaults = usual.now ∷ [] }
rule_taking rule (Texts name) = record rule { value_names = 1; action = Some Append }
rule_taking rule (Number name least most) = record rule { value_names = 1; parser = Some (number_between least most) }
rule_taking rule (NumberOr name least most usual) = record rule { value_names = 1; parser = Some (number_between least most); defaults = usual.now ∷ [] }

abbrev pub rule_in : Word → Rule
rule_in word = rule_taking (named_rule word) word.takes
