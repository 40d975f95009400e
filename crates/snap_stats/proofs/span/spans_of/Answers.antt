use Rattle.std.proofs.Common.{◌≡◌, ◌<◌, ◌++◌, ◌∷◌, [], ◌∙◌, Global, Vec, ap, arith, length, sym, take}
use Rattle.snap_core.specs.Calls.{call_numbered, calls_of}
use Rattle.snap_report.proofs.Calls.{op_is}
use Rattle.snap_stats.specs.declared.span.Span.{Span}
use Rattle.snap_stats.specs.inside.Spans.{is_of}
use Rattle.snap_stats.proofs.Spans.{span_at, span_indexed, spans_in, spans_more, spans_same}
use Rattle.snap_stats.proofs.span.spans_of.Goals as goal
use Rattle.snap_stats.proofs.span.spans_of.Goals.{then-is_of+in_ok-push, else-is_of}

pub loop-number-preserved : goal.loop-number-preserved
loop-number-preserved g c =
    let calls = calls_of c.args.index.now in
    let n = c.loop-number.number in
    let within : n < length calls = omega (arith, c.loop-number-test.true, c.call_count-number-end.ensures) in
    let is = span_indexed c.in-Some.call.now (call_numbered calls n) (op_is c.args.index.now n c.in-Some.call.now within c.in-Some.ensures) in
    elim c.if-is_of.branch [
      | then-is_of+in_ok-push w ↦
          ap (λ (v : Vec Span Global). v.items) w.spans-is ∙ w.in_ok-push.ensures.items
          ∙ ap (λ z. z ++ span_at c.in-Some.call.now ∷ []) c.loop-number.invariant
          ∙ ap (λ s. spans_in (is_of c.args.kind) (take n calls) ++ s ∷ []) is
          ∙ sym (spans_more (is_of c.args.kind) calls n within (sym c.is_of.ensures ∙ w.if-is_of.true))
      | else-is_of w ↦
          ap (λ (v : Vec Span Global). v.items) w.spans-is ∙ c.loop-number.invariant
          ∙ sym (spans_same (is_of c.args.kind) calls n within (sym c.is_of.ensures ∙ w.if-is_of.false))
    ]
