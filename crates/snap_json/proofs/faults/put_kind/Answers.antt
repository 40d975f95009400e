use Rattle.std.proofs.Common.{◌++◌, [], ◌∷◌, append_assoc}
use Rattle.json.specs.Token as token
use Rattle.json.specs.Tree.{json_tokens}
use Rattle.snap_core.specs.Calls.{calls_of}
use Rattle.snap_conditions.specs.Kinds.{kind_word}
use Rattle.snap_report.proofs.Pieces.{same_text}
use Rattle.snap_json.specs.Faults.{first_json}
use Rattle.snap_json.proofs.faults.put_kind.Goals as goal

pub returns : goal.returns
returns g c =
    let old = c.args.line.now.writer.tokens in
    let first = json_tokens (first_json c.args.records.now (calls_of c.args.index.now) c.args.tally.now c.args.kind) in
    same_text c.put_first.result c.put_first.new.line.writer.tokens _ (old ++ (token.key (kind_word c.args.kind) ∷ first))
    (rw (c.in_ok-key.ensures, c.word.ensures) (append_assoc old (token.key (kind_word c.args.kind) ∷ []) first))
    c.put_first.ensures
