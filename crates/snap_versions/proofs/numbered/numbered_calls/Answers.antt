use Rattle.std.proofs.Common.{◌≡◌, ◌∙◌, IfOk, List, map, length, ap, subst, arith}
use Rattle.std.proofs.lemmas.List.{length-map}
use Rattle.snap_core.specs.Calls.{Call, calls_of}
use Rattle.snap_theory.specs.Versioned.{counted_calls, kept_calls}
use Rattle.snap_versions.specs.Rows.{call_of}
use Rattle.snap_index.proofs.IndexedCalls.{call_count_within}
use Rattle.snap_versions.specs.inside.Listed.{call_listed, calls_listed}
use Rattle.snap_versions.proofs.Counted.{kept_few}
use Rattle.snap_versions.proofs.numbered.numbered_calls.Goals as goal

pub kept_calls-requires : goal.kept_calls-requires
kept_calls-requires c =
    omega (arith, length-map c.in_ok-calls.calls.items call_listed, ap length c.in_ok-calls.ensures, call_count_within c.args.events.now, c.requires.short)

pub counted_rows-requires : goal.counted_rows-requires
counted_rows-requires c =
    let calls = c.in_ok-calls.calls.items in
    omega (arith, ap length c.deref.ensures.value, length-map c.in_ok-kept.kept.items call_listed, ap length c.in_ok-kept.ensures, kept_few (calls_listed calls), length-map calls call_listed, ap length c.in_ok-calls.ensures, call_count_within c.args.events.now, c.requires.short)

pub returns : goal.returns
returns c =
    let kept : calls_listed c.deref.result.now ≡ kept_calls (calls_of c.args.events.now) = ap calls_listed c.deref.ensures.value ∙ c.in_ok-kept.ensures ∙ ap kept_calls c.in_ok-calls.ensures in
    subst (λ (z : List Call). IfOk c.counted_rows.result (λ rows. map call_of rows.items ≡ counted_calls z)) kept c.counted_rows.ensures
