use Rattle.std.proofs.Common.{◌∙◌, ap, length, map, sym}
use Rattle.std.specs.List.{range_with_len}
use Rattle.std.proofs.lemmas.List.FromFn.{length-range_with_len}
use Rattle.std.proofs.lemmas.Result.{IfOk-weaker}
use Rattle.snap_theory.proofs.OrderLaws.{in_order_by}
use Rattle.snap_core.specs.Calls.{call_numbered, calls_of}
use Rattle.snap_runs.specs.Mapping.{map_text}
use Rattle.snap_runs.proofs.Mapping.{witness_below, witness_count, witness_sources}
use Rattle.snap_runs.proofs.map.witness_map.Goals as goal

pub table_of-requires-clause-mine : goal.table_of-requires-clause-mine
table_of-requires-clause-mine c =
    ap length (c.deref.ensures.value ∙ c.in_ok-mine.ensures) ∙ length-range_with_len 2 c.len.result ∙ c.len.ensures.len ∙ ap length (sym c.in_ok-cut.ensures)

pub table_of-requires-clause-each : goal.table_of-requires-clause-each
table_of-requires-clause-each c =
    witness_count c.args.index.now c.args.left.now.events c.args.numbers.now c.requires.numbers ∙ ap (λ left. length (calls_of left)) (sym c.in_ok-cut.ensures)

pub table_of-requires-clause-within : goal.table_of-requires-clause-within
table_of-requires-clause-within c = witness_below c.args.index.now c.args.left.now.events c.args.numbers.now c.requires.numbers

pub returns : goal.returns
returns c =
    let es = c.args.index.now in
    let records = c.args.records.now in
    let left = c.args.left.now.events in
    let numbers = c.args.numbers.now in
    let sources = map (call_numbered (calls_of es)) numbers in
    let mine = c.deref.ensures.value ∙ c.in_ok-mine.ensures ∙ ap (range_with_len 2) c.len.ensures.len in
    IfOk-weaker c.table_of.result _ _ (λ out e. λ writers status history has. record {
      left = left;
      sources = sources;
      cut = record { answers = has; atomic = λ a. absurd (c.requires.not_atomic ((in_order_by writers es history).1 a)); not_atomic = λ _. c.requires.witness };
      are = witness_sources writers es left numbers c.requires.numbers;
      writes = e ∙ ap (λ mine. map_text mine records (calls_of c.in_ok-cut.cut) sources) mine ∙ ap (λ z. map_text (range_with_len 2 (length left)) records (calls_of z) sources) c.in_ok-cut.ensures;
    }) c.table_of.ensures
