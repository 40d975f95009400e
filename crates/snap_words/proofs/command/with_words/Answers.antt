use Rattle.std.proofs.Common.{rules, ◌≡◌, ◌++◌, ◌+◌, ◌∙◌, [], ◌∷◌, ap, map, sym, take}
use Rattle.std.proofs.lemmas.List.{map_more}
use Rattle.clap.specs.Words.{app_of, rule_of, with_rule}
use Rattle.snap_words.specs.inside.Tables.{rule_in}
use Rattle.snap_words.specs.Tables.{with_rules}
use Rattle.snap_words.proofs.Adding.{one_more_rule}
use Rattle.snap_words.proofs.command.with_words.Goals as goal

pub loop-word-preserved : goal.loop-word-preserved
loop-word-preserved c =
    let before = map rule_in (take c.loop-word.word-index c.args.words.now) in
    let rule = rule_of c.argument_of.result in
    let grown : before ++ rule ∷ [] ≡ map rule_in (take (c.loop-word.word-index + 1) c.args.words.now)
    = ap (λ rule. before ++ rule ∷ []) c.argument_of.ensures.rule ∙ sym (map_more rule_in c.args.words.now c.loop-word.word-index _ (search rules)) in (
      c.in_ok-command.ensures.shape c.argument_of.ensures.own ∙ ap (λ app. with_rule app rule) c.loop-word.invariant.0
          ∙ one_more_rule (app_of c.args.command) before rule ∙ ap (with_rules (app_of c.args.command)) grown,
      search rules,
    )
