use Rattle.std.proofs.Common.{◌≡◌, ◌≤◌, ◌<◌, ◌∷◌, [], List, arith, codes, false, refl, true}
use Rattle.clap.specs.Words.{Text}
use Rattle.clap.proofs.OnLiterals.{clap_on_literals}
use Rattle.snap_core.specs.UsualLimits.{greatest_limit, usual_limit}
use Rattle.snap_words.specs.Jobs.{NamesInputTwice, inputs_in}
use Rattle.snap_words.specs.Limits.{usual_many}
use Rattle.snap_words.proofs.Meanings.{asks_greatest, asks_many, asks_usual, means, stats_of}
use Rattle.snap_words.proofs.lines.stats_lines.Goals as goal

-- how often some files name standard input; this is shown apart, where the parser is not computed
none_once : inputs_in [] ≤ 1
none_once = omega arith

abbrev named : List Text
named = codes "a.csv" ∷ codes "-" ∷ []

named_once : inputs_in named ≤ 1
named_once = let once : inputs_in named ≡ 1 = refl in omega (arith, once)

abbrev doubled : List Text
doubled = codes "-" ∷ codes "-" ∷ []

doubled_twice : 1 < inputs_in doubled
doubled_twice = let twice : inputs_in doubled ≡ 2 = refl in omega (arith, twice)

pub returns-clause-alone : goal.returns-clause-alone
unfolding clap_on_literals
returns-clause-alone c = λ name. stats_of usual_limit false [] _ refl refl refl (asks_usual _ refl refl) none_once refl

pub returns-clause-json : goal.returns-clause-json
unfolding clap_on_literals
returns-clause-json c = λ name. stats_of usual_limit true [] _ refl refl refl (asks_usual _ refl refl) none_once refl

pub returns-clause-events : goal.returns-clause-events
unfolding clap_on_literals
returns-clause-events c = λ name. stats_of greatest_limit false [] _ refl refl refl (asks_greatest _ refl refl) none_once refl

pub returns-clause-writers : goal.returns-clause-writers
unfolding clap_on_literals
returns-clause-writers c = λ name. stats_of usual_many false [] _ refl refl refl (asks_many _ refl refl) none_once refl

pub returns-clause-files : goal.returns-clause-files
unfolding clap_on_literals
returns-clause-files c = λ name. stats_of usual_limit false named _ refl refl refl (asks_usual _ refl refl) named_once refl

pub returns-clause-repeated : goal.returns-clause-repeated
unfolding clap_on_literals
returns-clause-repeated c = λ name. means _ (codes "stats") NamesInputTwice doubled refl refl doubled_twice refl
