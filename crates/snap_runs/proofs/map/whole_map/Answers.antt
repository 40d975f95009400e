use Rattle.std.proofs.Common.{◌∙◌, ap, length, map, refl, sym}
use Rattle.std.specs.List.{range_with_len}
use Rattle.std.proofs.lemmas.List.FromFn.{length-range_with_len}
use Rattle.std.proofs.lemmas.Result.{IfOk-weaker}
use Rattle.snap_core.specs.Calls.{call_numbered, calls_of}
use Rattle.snap_theory.proofs.OrderLaws.{in_order_by}
use Rattle.snap_runs.specs.Mapping.{map_text}
use Rattle.snap_runs.proofs.Mapping.{whole_below, whole_sources}
use Rattle.snap_runs.proofs.map.whole_map.Goals as goal

pub table_of-requires-clause-mine : goal.table_of-requires-clause-mine
table_of-requires-clause-mine c =
    ap length (c.deref.ensures.value ∙ c.in_ok-mine.ensures) ∙ length-range_with_len 2 c.len.result ∙ c.len.ensures.len ∙ ap length (sym c.in_ok-cut.ensures)

pub table_of-requires-clause-each : goal.table_of-requires-clause-each
table_of-requires-clause-each c =
    ap length (c.deref-2.ensures.value ∙ c.in_ok-sources.ensures) ∙ length-range_with_len 0 c.call_count.result ∙ c.call_count.ensures
    ∙ ap (λ es. length (calls_of es)) (sym c.requires.left ∙ sym c.in_ok-cut.ensures)

pub table_of-requires-clause-within : goal.table_of-requires-clause-within
table_of-requires-clause-within c =
    whole_below (calls_of c.args.index.now) c.deref-2.result.now (c.deref-2.ensures.value ∙ c.in_ok-sources.ensures ∙ ap (range_with_len 0) c.call_count.ensures)

pub returns : goal.returns
returns c =
    let es = c.args.index.now in
    let records = c.args.records.now in
    let numbers = c.deref-2.result.now in
    let sources = map (call_numbered (calls_of es)) numbers in
    let all = c.deref-2.ensures.value ∙ c.in_ok-sources.ensures ∙ ap (range_with_len 0) c.call_count.ensures in
    let mine = c.deref.ensures.value ∙ c.in_ok-mine.ensures ∙ ap (range_with_len 2) (c.len.ensures.len ∙ ap length c.requires.left) in
    let cut = c.in_ok-cut.ensures ∙ c.requires.left in
    IfOk-weaker c.table_of.result _ _ (λ out e. λ writers status history has. let atomic = (in_order_by writers es history).0 c.requires.atomic in record {
      left = es;
      sources = sources;
      cut = record { answers = has; atomic = λ _. refl; not_atomic = λ no. absurd (no atomic) };
      are = whole_sources writers es es numbers atomic refl all;
      writes = e ∙ ap (λ mine. map_text mine records (calls_of c.in_ok-cut.cut) sources) mine ∙ ap (λ left. map_text (range_with_len 2 (length es)) records (calls_of left) sources) cut;
    }) c.table_of.ensures
