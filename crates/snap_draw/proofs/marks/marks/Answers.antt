use Rattle.std.proofs.Common.{◌≤◌, ◌∙◌, [], ap, arith, length}
use Rattle.std.specs.List.{flat_map}
use Rattle.std.proofs.lemmas.List.{take_all}
use Rattle.snap_core.specs.Calls.{calls_of}
use Rattle.snap_conditions.specs.Kinds.{kinds}
use Rattle.snap_report.proofs.Pieces.{kinds_more}
use Rattle.snap_draw.specs.Marks.{kind_marks, marks_of}
use Rattle.snap_draw.proofs.marks.marks.Goals as goal

pub loop-kind-preserved : goal.loop-kind-preserved
loop-kind-preserved g c =
    kinds_more (kind_marks (calls_of c.args.index.now) c.args.tally.now) c.loop-kind.kind-index [] _ _
    (omega (arith, c.loop-kind-test.true)) c.loop-kind.invariant c.in_ok-mark_kind.ensures

pub returns : goal.returns
unfolding marks_of
returns g c =
    let all : length kinds ≤ c.loop-kind.kind-index = omega (arith, c.loop-kind-test.false) in
    c.loop-kind.invariant ∙ ap (λ ks. flat_map (kind_marks (calls_of c.args.index.now) c.args.tally.now) ks) (take_all c.loop-kind.kind-index kinds all)
