use Rattle.std.proofs.Common.{◌≡◌, ◌+◌, ◌-◌, ◌∙◌, ℕ, take, drop, length, sym, ap, subst, arith}
use Rattle.std.specs.List.{All}
use Rattle.std.proofs.lemmas.List.{drop-drop, length-drop, take_rest}
use Rattle.snap_plain.specs.Lines.{IsInner}
use Rattle.snap_plain.proofs.PlainFacts.{both_parts, inner_first}
use Rattle.snap_plain.proofs.fields.field_size.Goals as goal

pub returns-in-Some-clause-inner : goal.returns-in-Some-clause-inner
returns-in-Some-clause-inner c =
    let text = c.args.text.now in
    let left = c.loop-left.left.now in
    let more = subst (λ z. All IsInner (take c.in-Some.before z)) c.loop-left.invariant.rest (inner_first c.in-Some.before left c.in-Some.ensures.1) in
    both_parts (length text - length left) c.in-Some.before text c.loop-left.invariant.inner more

pub loop-left-preserved : goal.loop-left-preserved
loop-left-preserved c =
    let text = c.args.text.now in
    let left = c.loop-left.left.now in
    let at = length text - length left in
    let next : length text - length (drop 32 left) ≡ at + 32 = omega (arith, length-drop 32 left) in
    let more = subst (λ z. All IsInner (take 32 z)) c.loop-left.invariant.rest (inner_first 32 left c.in_default.ensures) in
    rw (take_rest left 32) record {
      within = omega (arith, length-drop 32 left);
      rest = ap (drop 32) c.loop-left.invariant.rest ∙ drop-drop 32 at text ∙ ap (λ (n : ℕ). drop n text) (sym next);
      inner = rw next (both_parts at 32 text c.loop-left.invariant.inner more);
    }
