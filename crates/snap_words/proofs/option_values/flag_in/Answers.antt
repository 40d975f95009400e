use Rattle.std.proofs.Common.{◌≡◌, ◌∙◌, List, Option, Some, Bool, true, false, codes, ℕ}
use Rattle.clap.specs.Words.{found_of, one_text}
use Rattle.clap.proofs.WalkLemmas.{one_text-rows}
use Rattle.snap_words.specs.Jobs.{flag_text}
use Rattle.snap_words.proofs.option_values.flag_in.Goals as goal

flag_reads : (text : Option (List ℕ)) (r : Bool) → (text ≡ Some (codes "true") → r ≡ true) → (text ≡ Some (codes "false") → r ≡ false) → (flag : Bool) → text ≡ Some (flag_text flag) → r ≡ flag
flag_reads text r given not_given true is = given is
flag_reads text r given not_given false is = not_given is

pub returns-clause-given : goal.returns-clause-given
returns-clause-given c = λ flag one. flag_reads (one_text (found_of c.args.matches.now) c.args.id.now) c.get_flag.result c.get_flag.ensures.value c.get_flag.ensures.other flag (one_text-rows (found_of c.args.matches.now) c.args.id.now ∙ one)

pub returns-clause-absent : goal.returns-clause-absent
returns-clause-absent c = λ none. c.get_flag.ensures.none (one_text-rows (found_of c.args.matches.now) c.args.id.now ∙ none)
