-- What the writer of a recording has at the end of a run.
use Rattle.std.specs.Prelude.{ℕ, List, ◌++◌, ◌≡◌, Option, Result, Ok, Err}
use Rattle.std.specs.Io.KnownBytes.{Appends}
use Rattle.snap_core.specs.Counting.{Rose, failures_in, inner_of}
use Rattle.snap_core.specs.declared.counted.Counted.{Counted}
use Rattle.snap_follow.specs.Bytes.{AreWholeLines}
use Rattle.snap_follow.specs.declared.run.FollowFault.{FollowFault}
use Rattle.snap_follow.specs.declared.run.FollowFault.TheVariants.{Memory, NoText, Read, Write}

-- whole lines went out, and nothing else. No write failed
pub record HasSent {W : Type 0} (contents : W → Option (List ℕ)) (old new : Counted W) : Type 0 where
  pub out : List ℕ
  pub whole : AreWholeLines out
  pub sent : Appends (contents (inner_of old)) (contents (inner_of new)) out
  pub counts : failures_in new ≡ failures_in old

-- a front of whole lines went out, perhaps all of them, and then a write failed
pub record HasFailed {W : Type 0} (contents : W → Option (List ℕ)) (old new : Counted W) : Type 0 where
  pub out : List ℕ
  pub rest : List ℕ
  pub whole : AreWholeLines (out ++ rest)
  pub sent : Appends (contents (inner_of old)) (contents (inner_of new)) out
  pub counts : Rose (failures_in old) (failures_in new)

-- what the writer has after a fault has ended the run
abbrev pub FaultLeaves : {W : Type 0} → (W → Option (List ℕ)) → Counted W → Counted W → FollowFault → Type 0
FaultLeaves contents old new NoText = HasSent contents old new
FaultLeaves contents old new Read = HasSent contents old new
FaultLeaves contents old new Write = HasFailed contents old new
FaultLeaves contents old new Memory = HasSent contents old new

-- what the writer has after a run, whether a fault has ended it or not
abbrev pub Leaves : {A W : Type 0} → (W → Option (List ℕ)) → Counted W → Counted W → Result A FollowFault → Type 0
Leaves contents old new (Ok answer) = HasSent contents old new
Leaves contents old new (Err fault) = FaultLeaves contents old new fault
