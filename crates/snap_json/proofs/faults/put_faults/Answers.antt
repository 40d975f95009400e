use Rattle.std.proofs.Common.{◌∷◌, arith}
use Rattle.json.specs.Token as token
use Rattle.json.specs.Tree.{json_tokens}
use Rattle.snap_core.specs.Calls.{calls_of}
use Rattle.snap_conditions.specs.Kinds.{kind_word}
use Rattle.snap_report.proofs.Pieces.{kinds_more}
use Rattle.snap_json.specs.Faults.{first_json}
use Rattle.snap_json.proofs.faults.put_faults.Goals as goal

pub loop-kind-preserved : goal.loop-kind-preserved
loop-kind-preserved g c =
    kinds_more (λ kind. token.key (kind_word kind) ∷ json_tokens (first_json c.args.records.now (calls_of c.args.index.now) c.args.tally.now kind)) c.loop-kind.kind-index c.args.line.now.writer.tokens _ _
    (omega (arith, c.loop-kind-test.true)) c.loop-kind.invariant c.in_ok-put_kind.ensures
