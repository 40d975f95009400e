use Rattle.std.proofs.Common.{◌≡◌, map, take, false}
use Rattle.clap.specs.Words.{app_of}
use Rattle.clap.specs.declared.builder.command.Command.TheViews.{out-Command as fields_of}
use Rattle.snap_words.specs.inside.Tables.{rule_in}
use Rattle.snap_words.specs.Tables.{with_rules}
use Rattle.snap_words.proofs.command.with_words.Given as goal

abbrev pub invariant-loop-word : goal.invariant-loop-word
invariant-loop-word l = (app_of l.command ≡ with_rules (app_of l.initial.command) (map rule_in (take l.word-index l.words))) × ((fields_of l.command).has_globals ≡ false)
