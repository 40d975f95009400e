-- Words and commands that are added one by one.
use Rattle.std.proofs.Common.{◌≡◌, ◌++◌, ◌∙◌, Bool, false, List, [], ◌∷◌, ap, ap₂, map, refl, sym}
use Rattle.std.proofs.lemmas.List.{append_assoc, map-append}
use Rattle.clap.specs.Words.{App, Rule, Shape, with_rule, with_subcommand}
use Rattle.snap_words.specs.Tables.{stays_leaf, with_apps, with_rules}

pub one_more_rule : (app : App) (rules : List Rule) (rule : Rule) → with_rule (with_rules app rules) rule ≡ with_rules app (rules ++ rule ∷ [])
one_more_rule app rules rule = ap (λ all. record app { top = record app.top { rules = all } }) (append_assoc app.top.rules rules (rule ∷ []))

-- a program with a command is no leaf
is_no_leaf : (leaf : Bool) (commands : List App) (command : App) → stays_leaf leaf (commands ++ command ∷ []) ≡ false
is_no_leaf leaf [] command = refl
is_no_leaf leaf (first ∷ commands) command = refl

pub one_more_command : (app : App) (commands : List App) (command : App) → with_subcommand (with_apps app commands) command.top ≡ with_apps app (commands ++ command ∷ [])
one_more_command app commands command =
    let with_shapes : Bool → List Shape → App = λ leaf subs. record { top = record app.top { is_leaf = leaf }; subs = subs } in
    sym (ap₂ with_shapes (is_no_leaf app.top.is_leaf commands command)
    (ap (λ more. app.subs ++ more) (map-append (λ (c : App). c.top) commands (command ∷ []))
    ∙ sym (append_assoc app.subs (map (λ (c : App). c.top) commands) (command.top ∷ []))))
