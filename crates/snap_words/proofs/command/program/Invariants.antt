use Rattle.std.proofs.Common.{◌≡◌, codes, map, take}
use Rattle.clap.specs.Words.{app_of, new_app}
use Rattle.snap_words.specs.CommandLine.{app_for, needs_subcommand}
use Rattle.snap_words.specs.Tables.{with_apps}
use Rattle.snap_words.specs.declared.command.TheConstants.{KINDS}
use Rattle.snap_words.proofs.command.program.Given as goal

abbrev pub invariant-loop-kind : goal.invariant-loop-kind
invariant-loop-kind l = app_of l.program ≡ with_apps (needs_subcommand (new_app (codes "snapjudge"))) (map app_for (take l.kind-index KINDS.now))
