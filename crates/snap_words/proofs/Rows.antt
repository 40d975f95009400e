-- The program's parser, and the rows of the command that some words name.
use Rattle.std.proofs.Common.{◌≡◌, ◌∙◌, List, Option, Some, None, [], true, ap, refl}
use Rattle.std.specs.Option.{option_map}
use Rattle.clap.specs.Words.{is_simple, Row, Text}
use Rattle.clap.proofs.OnLiterals.{clap_on_literals}
use Rattle.snap_words.specs.CommandLine.{program_app}

abbrev pub rows_in : Option (Text × List Row) → List Row
rows_in None = []
rows_in (Some p) = p.1

pub program_is_simple : is_simple program_app ≡ true
unfolding clap_on_literals
program_is_simple = refl

abbrev behind : Option (Text × List Row) → Option (List Row)
behind named = option_map (λ p. p.1) named

-- the rows that are found after a command are those that it is named with
pub rows_found : (found rows : List Row) (command : Text) (named : Option (Text × List Row)) → Some found ≡ behind named → named ≡ Some (command, rows) → found ≡ rows
rows_found found rows command named is names =
    let same : Some found ≡ Some rows = is ∙ ap behind names in
    cc

pub none_found : (rows : List Row) (command : Text) (named : Option (Text × List Row)) → None ≡ behind named → named ≡ Some (command, rows) → ⊥
none_found rows command named is names =
    let lost : None ≡ Some rows = is ∙ ap behind names in
    absurd cc

-- a word is the text that an option has
pub word_is : (word text : Text) (first : Option Text) → Some word ≡ first → first ≡ Some text → word ≡ text
word_is word text first is has =
    let same : Some word ≡ Some text = is ∙ has in
    cc
