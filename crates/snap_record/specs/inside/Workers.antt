-- The workers of a recorder, and what the taker took of what they sent.
use Rattle.std.specs.Prelude.{◌≡◌, ℕ, ◌+◌, ◌<◌, List, [], OnOk, IfOk, vec_items, length, map, slice_index_or}
use Rattle.snap_account.specs.declared.account.Account.{Account}
use Rattle.snap_record.specs.declared.plan.Step.{Step}
use Rattle.snap_record.specs.declared.taking.Taken.{Taken}
use Rattle.snap_record.specs.declared.worker.Recorder.{Recorder}
use Rattle.snap_record.specs.declared.worker.Worker.{Worker}
use Rattle.snap_record.specs.declared.worker.Ran.{Ran}
use Rattle.snap_account.specs.Calls.{Mem}
use Rattle.snap_board.specs.Desks.{records, records_in, ticks, lost, collects, IsDeskOf}
use Rattle.snap_record.specs.inside.Recording.{DidTheirs}
use Rattle.snap_board.specs.Settled.{falling, Settled, ScansSettled, TicksSettled}
use Rattle.snap_record.specs.Relays.{RelayView, SenderView, IsSenderOf, IsTakerOf}
use Rattle.snap_record.specs.Scripts.{AreCallsOf}
use Rattle.snap_record.specs.inside.Scripts.{DidSome}
use Rattle.snap_record.specs.Choices.{views_in}
use Rattle.snap_record.specs.Plans.{PlanView, ticks_within}

-- the worker's desk and its sender are of this recorder, and have the same place
abbrev pub IsWorkerOf : Recorder → Worker → Type 0
IsWorkerOf r w = IsDeskOf r.board w.desk × IsSenderOf r.relay w.sender × (w.sender.place ≡ w.desk.desk)

-- the worker has made no call and sent nothing
abbrev pub IsUnused : Worker → Type 0
IsUnused w = (records w.desk ≡ []) × (ticks w.desk ≡ 0) × (lost w.desk ≡ []) × (collects w.desk ≡ 0) × (w.sender.sent ≡ []) × (w.desk.calls ≡ [])

-- each desk of the recorder's board may draw as many ticks as each of the plan's scripts
abbrev pub HasTicksFor : PlanView → Recorder → Type 0
HasTicksFor plan recorder = recorder.board.limit ≡ ticks_within plan.limit

-- The worker of desk d ran its script. If memory was not refused, it sent the records of its desk, and they are the script's.
pub record HasRun (recorder : Recorder) (d : ℕ) (steps : List Step) (ran : Ran) : Type 0 where
  pub worker : IsWorkerOf recorder ran.worker
  pub desk : ran.worker.desk.desk ≡ d
  pub sent : OnOk ran.outcome (records ran.worker.desk ≡ ran.worker.sender.sent)
  pub script : OnOk ran.outcome (DidSome d steps ran.worker.sender.sent (lost ran.worker.desk))
  pub count : IfOk ran.outcome (λ count. count ≡ length (lost ran.worker.desk))
  pub views : OnOk ran.outcome (collects ran.worker.desk ≡ views_in steps)
  pub calls : OnOk ran.outcome (AreCallsOf steps ran.worker.desk.calls)

-- P is true of each element and its place
abbrev pub EachAt : {X : Type 0} → (ℕ → X → Type 0) → List X → Type 0
EachAt {X} P xs = (k : ℕ) (other : X) → k < length xs → P k (slice_index_or xs k other)

-- the workers of n desks, the highest first, which have made no call
abbrev pub AreUnused : Recorder → ℕ → List Worker → Type 0
AreUnused r n = EachAt (λ k w. IsWorkerOf r w × IsUnused w × (w.desk.desk + k + 1 ≡ n))

-- workers, the highest first, which ran their scripts
abbrev pub HaveRun : Recorder → List (List Step) → List Ran → Type 0
HaveRun r scripts = EachAt (λ k x. HasRun r x.worker.desk.desk (slice_index_or scripts x.worker.desk.desk []) x × (x.worker.desk.desk + k + 1 ≡ length scripts))

-- the first workers did their scripts: the accounts of their desks, the highest first, and what their senders sent
pub record HaveDone (scripts : List (List Step)) (accounts : List Account) (senders : List SenderView) (interfered : ℕ) : Type 0 where
  pub desks : map (λ (a : Account). a.desk) accounts ≡ falling (length senders)
  pub theirs : DidTheirs scripts accounts interfered
  pub places : (w : ℕ) (other : SenderView) → w < length senders → (slice_index_or senders w other).place ≡ w
  pub sent : (a : Account) → Mem a accounts → (other : SenderView) → records_in a ≡ (slice_index_or senders a.desk other).sent

-- all workers did their scripts, and their board was closed
pub record HaveClosed (scripts : List (List Step)) (senders : List SenderView) (interfered : ℕ) : Type 0 where
  pub accounts : List Account
  pub settled : Settled (length scripts) accounts
  pub scans : ScansSettled accounts
  pub ticks : TicksSettled accounts
  pub count : length senders ≡ length scripts
  pub done : HaveDone scripts accounts senders interfered

-- the records are those that the relay's taker took
abbrev pub IsTakenOf : RelayView → Taken → Type 0
IsTakenOf r t = IsTakerOf r t.taker × (vec_items t.records ≡ t.taker.taken)
