-- Commands with further words and commands, for the parser.
use Rattle.std.specs.Prelude.{Bool, false, List, [], ◌∷◌, ◌++◌, map}
use Rattle.clap.specs.Words.{App, Rule}

-- a command with further words
abbrev pub with_rules : App → List Rule → App
with_rules app rules = record app { top = record app.top { rules = app.top.rules ++ rules } }

-- a command stays a leaf if it gets no commands
abbrev pub stays_leaf : Bool → List App → Bool
stays_leaf leaf [] = leaf
stays_leaf leaf (command ∷ commands) = false

-- a program with further commands
abbrev pub with_apps : App → List App → App
with_apps app commands = record {
  top = record app.top { is_leaf = stays_leaf app.top.is_leaf commands };
  subs = app.subs ++ map (λ command. command.top) commands;
}
