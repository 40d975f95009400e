use Rattle.std.proofs.Common.{◌≡◌, ◌∙◌, ap, codes, subst, sym}
use Rattle.std.specs.Str.{bytes_eq}
use Rattle.clap.specs.Words.{Text, found_of}
use Rattle.clap.proofs.WalkLemmas.{first_value-rows}
use Rattle.snap_words.specs.Limits.{LeavesMany}
use Rattle.snap_words.proofs.Rows.{word_is}
use Rattle.snap_words.proofs.writers.leaves_many.Goals as goal

pub returns-in-Some-clause-left : goal.returns-in-Some-clause-left
returns-in-Some-clause-left c = λ left.
    let is : c.in-Some.word.now ≡ codes "many" = subst (λ text. LeavesMany text) (sym (c.in-Some.ensures ∙ first_value-rows (found_of c.args.matches.now) (codes "writers"))) left in
    c.eq.ensures ∙ ap (λ (word : Text). bytes_eq word (codes "many")) is

pub returns-in-Some-clause-one : goal.returns-in-Some-clause-one
returns-in-Some-clause-one c = λ one.
    let is = word_is _ _ _ c.in-Some.ensures (first_value-rows (found_of c.args.matches.now) (codes "writers") ∙ one) in
    c.eq.ensures ∙ ap (λ (word : Text). bytes_eq word (codes "many")) is

pub returns-in-None-clause-one : goal.returns-in-None-clause-one
returns-in-None-clause-one c = λ one.
    let lost = c.in-None.ensures ∙ first_value-rows (found_of c.args.matches.now) (codes "writers") ∙ one in
    absurd cc
