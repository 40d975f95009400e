-- The records of a worker, against its script.
use Rattle.std.specs.Prelude.{◌≡◌, ℕ, List, [], ◌∷◌, ⊤, Bool, length}
use Rattle.snap_record.specs.Choices.{chosen, left_out, LeavesScans}
use Rattle.snap_record.specs.declared.plan.Step.{Step}
use Rattle.snap_record.specs.declared.plan.Step.TheVariants.{Store, View, Scan}
use Rattle.snap_board.specs.declared.record.Record.{Record}
use Rattle.snap_board.specs.declared.record.RecordedOp.{RecordedOp}
use Rattle.snap_board.specs.declared.record.RecordedOp.TheVariants as Kind

-- what desk d did is what the step asks for
abbrev pub IsOpOf : ℕ → Step → RecordedOp → Type 0
IsOpOf d (Store v) (Kind.Stored e) = (e.component ≡ d) × (e.value ≡ v)
IsOpOf d View (Kind.Viewed shown) = ⊤
IsOpOf d (Scan tries) (Kind.Viewed shown) = ⊤
IsOpOf d _ _ = ⊥

abbrev pub IsStepOf : ℕ → Step → Record → Type 0
IsStepOf d step r = (r.process ≡ d) × IsOpOf d step r.op

-- the records are those of the script's steps, each once and in order
abbrev pub DidScript : ℕ → List Step → List Record → Type 0
DidScript d [] [] = ⊤
DidScript d (step ∷ steps) (r ∷ rs) = IsStepOf d step r × DidScript d steps rs
DidScript d _ _ = ⊥

-- the records are those of the script's steps except scans, whose tries are `lost`
pub record DidSome (d : ℕ) (steps : List Step) (rs : List Record) (lost : List ℕ) : Type 0 where
  pub choice : List Bool
  pub size : length choice ≡ length steps
  pub scans : LeavesScans choice steps
  pub did : DidScript d (chosen choice steps) rs
  pub left : left_out choice steps ≡ lost
