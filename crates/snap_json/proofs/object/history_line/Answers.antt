use Rattle.std.proofs.Common.{◌++◌, ◌∷◌, Vec, Global, ap, codes}
use Rattle.json.specs.Json.{string}
use Rattle.json.specs.Token as token
use Rattle.snap_core.specs.Calls.{calls_of}
use Rattle.snap_json.specs.Faults.{fault_fields}
use Rattle.snap_json.specs.Objects.{count_fields, history_json, verdict_fields}
use Rattle.snap_json.specs.Values.{field_tokens, number_json}
use Rattle.snap_json.proofs.Values.{fields_then_end, line_is}
use Rattle.snap_json.proofs.object.history_line.Goals as goal

pub returns : goal.returns
returns g c =
    let es = c.args.index.now in
    let t = c.args.tally.now in
    let records = c.args.records.now in
    let front = token.begin_object ∷ field_tokens ((codes "name", string c.args.name.now) ∷ (codes "status", number_json c.args.status) ∷ (count_fields es ++ verdict_fields t)) in
    line_is (λ (v : Vec _ Global). v.items) c.finish.result c.end_object.new.self.writer.tokens (history_json c.args.name.now c.args.status es t records)
    (rw (c.in_ok-end_object.ensures, c.in_ok-put_faults.ensures, c.in_ok-put_verdicts.ensures, c.in_ok-put_counts.ensures, c.in_ok-line.ensures)
    (ap (λ ts. front ++ ts) (fields_then_end (fault_fields records (calls_of es) t))))
    c.finish.ensures.text c.finish.ensures.reads_back
