use Rattle.std.proofs.Common.{ℕ, subst, sym}
use Rattle.std.specs.declared.alloc.Global.{Global}
use Rattle.std.specs.declared.vec.Vec.{Vec}
use Rattle.snap_core.specs.Bounded.{IsHistoryBy}
use Rattle.snap_runs.specs.Mapping.{MapsHistory}
use Rattle.snap_runs.proofs.map.mapped.Goals as goal
use Rattle.snap_runs.proofs.map.mapped.Goals.{in-Some+in_ok-out-in-Some, in-None+in_ok-out-in-None}

pub returns : goal.returns
returns g c = λ writers history.
    let records = c.args.records.now in
    let status = c.status_of-status.result in
    let there = subst (IsHistoryBy writers) (sym c.in_ok-index.ensures) history in
    elim c.match-branch-4.branch [
      | in-Some+in_ok-out-in-Some w ↦
          subst (λ es. MapsHistory writers es records status c.match-branch-4.out.items) c.in_ok-index.ensures
          (subst (λ (v : Vec ℕ Global). MapsHistory writers c.in_ok-index.index records status v.items) (sym w.out-is) (w.in_ok-out-in-Some.ensures writers status there (c.status_of-status.ensures.by_writers writers there)))
      | in-None+in_ok-out-in-None w ↦
          subst (λ es. MapsHistory writers es records status c.match-branch-4.out.items) c.in_ok-index.ensures
          (subst (λ (v : Vec ℕ Global). MapsHistory writers c.in_ok-index.index records status v.items) (sym w.out-is) (w.in_ok-out-in-None.ensures writers status there (c.status_of-status.ensures.by_writers writers there)))
    ]
