use Rattle.std.proofs.Common.{◌*◌, drop, length, vec_items, vec_len}
use Rattle.snap_files.specs.inside.Files.{AreAnswered}
use Rattle.snap_files.proofs.Pages.{AreShares}
use Rattle.snap_files.proofs.round.pages_of.Given as goal

abbrev pub invariant-loop-share : goal.invariant-loop-share
invariant-loop-share g l = record {
  shares : AreShares (g.O.Opener.opens l.opener) l.fn.options l.names l.size (vec_items l.shares);
  behind : AreAnswered (g.O.Opener.opens l.opener) l.fn.options (drop (length (vec_items l.shares) * l.size) l.names) (vec_items l.behind);
}

abbrev pub decreases-loop-share : goal.decreases-loop-share
decreases-loop-share g l = vec_len l.shares
