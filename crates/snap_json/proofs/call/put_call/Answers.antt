use Rattle.std.proofs.Common.{◌≡◌, ◌++◌, ◌+◌, ◌∙◌, [], ◌∷◌, ap, sym, codes, decimal, arith}
use Rattle.json.specs.Json.{array}
use Rattle.json.specs.Token as token
use Rattle.json.specs.Tree.{json_tokens}
use Rattle.snap_core.specs.Calls.{call_numbered, calls_of, nobody}
use Rattle.snap_core.proofs.Histories.{numbered_calls}
use Rattle.snap_index.specs.declared.call.Call.{Call}
use Rattle.snap_report.proofs.Calls.{op_is}
use Rattle.snap_report.proofs.Pieces.{same_text}
use Rattle.snap_witness.proofs.Within.{call_is_within}
use Rattle.snap_json.specs.Calls.{call_json, end_json, entries_in, entry_items, op_word, record_json}
use Rattle.snap_json.proofs.Values.{eight_joined}
use Rattle.snap_json.proofs.call.put_call.Goals as goal

pub put_records-requires-clause-begun : goal.put_records-requires-clause-begun
put_records-requires-clause-begun g c =
    let es = c.args.index.now in
    let is = op_is es c.args.number c.in-Some.call.now c.requires.below c.in-Some.ensures in
    let within = (call_is_within es c.event_count-events.ensures.ordered.history c.args.number c.requires.below).begun in
    omega (arith, within, ap (λ (b : Call). b.begun) is, c.requires.each)

pub put_records-requires-clause-ended : goal.put_records-requires-clause-ended
put_records-requires-clause-ended g c =
    let es = c.args.index.now in
    let is = op_is es c.args.number c.in-Some.call.now c.requires.below c.in-Some.ensures in
    let within = (call_is_within es c.event_count-events.ensures.ordered.history c.args.number c.requires.below).ended in
    λ place e. let few = within place (sym (ap (λ (b : Call). b.ended) is) ∙ e) in omega (arith, few, c.requires.each)

pub put_array-requires-clause-same : goal.put_array-requires-clause-same
put_array-requires-clause-same g c =
    ap (λ (b : Call). b.op) (op_is c.args.index.now c.args.number c.in-Some.call.now c.requires.below c.in-Some.ensures)

pub returns : goal.returns
unfolding call_json
returns g c =
    let es = c.args.index.now in
    let old = c.args.line.now.writer.tokens in
    let n = c.args.number in
    let call = call_numbered (calls_of es) n in
    let is = op_is es n c.in-Some.call.now c.requires.below c.in-Some.ensures in
    let number : c.from.result ≡ call.number = c.from.ensures ∙ sym (numbered_calls es n nobody c.requires.below) in
    let process : c.from-2.result ≡ call.process = c.from-2.ensures ∙ ap (λ (b : Call). b.process) is in
    let word : c.word_of.result.now ≡ op_word call.operation = c.word_of.ensures call.operation (ap (λ (b : Call). b.op) is) in
    let records_of = λ (b : Call). token.key (codes "begin") ∷ (json_tokens (record_json c.args.records.now b.begun) ++ (token.key (codes "end") ∷ json_tokens (end_json c.args.records.now b.ended))) in
    let records = token.key (codes "begin") ∷ (json_tokens (record_json c.args.records.now call.begun) ++ (token.key (codes "end") ∷ json_tokens (end_json c.args.records.now call.ended))) in
    let same : records_of c.in-Some.call.now ≡ records = ap records_of is in
    same_text c.end_object.result c.end_object.new.self.writer.tokens _ (old ++ json_tokens (call_json c.args.records.now call))
    (rw (c.in_ok-put_array.ensures, c.in_ok-key.ensures, c.in_ok-put_records.ensures, c.in_ok-text.ensures, c.in_ok-number-2.ensures, c.in_ok-number.ensures, c.in_ok-begin_object.ensures, same, word, process, number)
    (eight_joined old (token.begin_object ∷ []) (token.key (codes "call") ∷ token.number (decimal (call.number + 1)) ∷ []) (token.key (codes "process") ∷ token.number (decimal call.process) ∷ [])
    (token.key (codes "op") ∷ token.string (op_word call.operation) ∷ []) records (token.key (codes "entries") ∷ []) (json_tokens (array (entry_items (entries_in call.operation)))) (token.end_object ∷ [])))
    c.end_object.ensures
