use Rattle.std.proofs.Common.{◌≡◌, ◌∙◌, [], replicate, ap, arith}
use Rattle.snap_index.specs.Rows.{rows}
use Rattle.snap_versions.proofs.Tables.{one_more}
use Rattle.snap_versions.proofs.versions.empty_lists.Goals as goal

pub loop-preserved : goal.loop-preserved
loop-preserved c = ap rows c.in_ok-push.ensures.items ∙ one_more c.loop.lists.items c.new.result c.loop.counter c.new.ensures.items c.loop.invariant

pub returns : goal.returns
returns c =
    let all : c.loop.counter ≡ 256 = omega arith in
    c.loop.invariant ∙ ap (λ n. replicate n []) all
