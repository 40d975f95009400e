use Rattle.std.proofs.Common.{◌≡◌, ◌+◌, All, length, vec_items, vec_len}
use Rattle.snap_board.specs.Desks.{accounts, IsGatheredOf}
use Rattle.snap_board.specs.Fields.{board_view}
use Rattle.snap_record.specs.Relays.{IsSenderOf}
use Rattle.snap_record.specs.inside.Workers.{HaveDone, HaveRun}
use Rattle.snap_record.proofs.recorder.close_all.Given as goal

abbrev pub invariant-each : goal.invariant-each
invariant-each l = record {
  of_board : IsGatheredOf (board_view l.board-inside) l.gathered;
  inside : length (accounts l.gathered) ≡ vec_len l.senders;
  count : vec_len l.senders + vec_len l.rans ≡ length l.plan.scripts;
  ran : HaveRun (record { board = board_view l.board-inside; relay = l.relay }) l.plan.scripts (vec_items l.rans);
  of_relay : All (IsSenderOf l.relay) (vec_items l.senders);
  done : HaveDone l.plan.scripts (accounts l.gathered) (vec_items l.senders) l.interfered;
}

abbrev pub decreases-each : goal.decreases-each
decreases-each l = vec_len l.rans
