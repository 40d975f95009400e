-- The answered calls that a script asks for.
use Rattle.std.specs.Prelude.{◌⊎◌, List, [], ◌∷◌, ⊤}
use Rattle.snap_account.specs.declared.account.Answered.{Answered}
use Rattle.snap_board.specs.LastCall.{IsStore, IsCollect, IsRecordedScan, IsLostScan}
use Rattle.snap_record.specs.declared.plan.Step.{Step}
use Rattle.snap_record.specs.declared.plan.Step.TheVariants.{Store, View, Scan}
use Rattle.snap_board.specs.declared.record.RecordedOp.TheVariants as Kind

-- the call does what the step asks for
abbrev pub IsCallOf : Step → Answered → Type 0
IsCallOf (Store v) r = IsStore v r.middles r.op
IsCallOf View r = IsCollect r.middles r.op
IsCallOf (Scan tries) r = IsRecordedScan tries r.middles r.op ⊎ IsLostScan tries r.middles r.op

-- the calls do the script's steps, each once and in order, scans without a record among them
abbrev pub AreCallsOf : List Step → List Answered → Type 0
AreCallsOf [] [] = ⊤
AreCallsOf (step ∷ steps) (r ∷ rs) = IsCallOf step r × AreCallsOf steps rs
AreCallsOf _ _ = ⊥
