use Rattle.std.proofs.Common.{rules, ◌≡◌, ◌++◌, ◌+◌, ◌∙◌, [], ◌∷◌, ap, codes, map, sym, take}
use Rattle.std.proofs.lemmas.List.{map_more}
use Rattle.clap.specs.Words.{app_of, new_app, with_subcommand}
use Rattle.snap_words.specs.CommandLine.{app_for, needs_subcommand}
use Rattle.snap_words.specs.Tables.{with_apps}
use Rattle.snap_words.specs.declared.command.TheConstants.{KINDS}
use Rattle.snap_words.proofs.Adding.{one_more_command}
use Rattle.snap_words.proofs.command.program.Goals as goal

pub loop-kind-preserved : goal.loop-kind-preserved
loop-kind-preserved c =
    let bare = needs_subcommand (new_app (codes "snapjudge")) in
    let before = map app_for (take c.loop-kind.kind-index KINDS.now) in
    let made = app_of c.in_ok-command.command in
    let grown : before ++ made ∷ [] ≡ map app_for (take (c.loop-kind.kind-index + 1) KINDS.now)
    = ap (λ app. before ++ app ∷ []) c.in_ok-command.ensures.0 ∙ sym (map_more app_for KINDS.now c.loop-kind.kind-index _ (search rules)) in
    c.in_ok-program.ensures.shape c.in_ok-command.ensures.1 ∙ ap (λ app. with_subcommand app made.top) c.loop-kind.invariant
    ∙ one_more_command bare before made ∙ ap (with_apps bare) grown
