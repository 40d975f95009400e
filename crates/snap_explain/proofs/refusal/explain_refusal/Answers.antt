use Rattle.std.proofs.Common.{◌≡◌, ◌++◌, ◌∙◌, ap, map}
use Rattle.std.specs.Prelude.{option_map}
use Rattle.snap_format.specs.Records.{record_at}
use Rattle.snap_format.specs.Rows.{rows_of}
use Rattle.snap_report.specs.Lines.{line_text}
use Rattle.snap_report.specs.Refusals.{refusal_line}
use Rattle.snap_explain.specs.Refusals.{fault_told, limit_of, record_text, refusal_explanation, rule_of}
use Rattle.snap_explain.proofs.Pieces.{five_in_turn}
use Rattle.snap_explain.proofs.RecordFacts.{same_fields}
use Rattle.snap_explain.proofs.refusal.explain_refusal.Goals as goal

pub returns : goal.returns
unfolding refusal_explanation
returns c =
    let place = c.args.place in
    let fault = c.args.fault in
    let limit = c.args.limit in
    let there = record_at (rows_of c.args.text.now) place in
    let one : option_map (λ fields. map (λ f. f.items) fields.now) c.as_deref.result ≡ there = same_fields _ _ c.as_deref.ensures.value ∙ c.in_ok-record.ensures in
    let two : option_map (λ fields. map (λ f. f.items) fields.now) c.as_deref-2.result ≡ there = same_fields _ _ c.as_deref-2.ensures.value ∙ c.in_ok-record.ensures in
    five_in_turn (line_text (refusal_line place fault)) (fault_told fault there) (rule_of fault) (limit_of limit fault) (record_text place there) _ _ _ _ _ c.in_ok-out.ensures
    (c.in_ok-put_fault.ensures ∙ ap (λ r. c.in_ok-out.out.items ++ fault_told fault r) one)
    (rw (c.as_bytes.ensures.value, c.rule_of.ensures) at c.in_ok-extend_from_slice.ensures.items)
    c.in_ok-put_limit.ensures
    (c.in_ok-put_record.ensures ∙ ap (λ r. c.put_limit.new.out.items ++ record_text place r) two)
