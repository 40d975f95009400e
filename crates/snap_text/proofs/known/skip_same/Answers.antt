use Rattle.std.proofs.Common.{◌≡◌, ◌+◌, ◌-◌, ◌≤◌, drop, length, take, arith, ap, ℕ}
use Rattle.std.proofs.lemmas.List.{take_rest}
use Rattle.snap_text.proofs.KnownFacts.{same_more}
use Rattle.snap_text.proofs.known.skip_same.Goals as goal

pub loop-at-preserved : goal.loop-at-preserved
loop-at-preserved c =
    let a = c.args.a.now in
    let b = c.args.b.now in
    let at = c.loop-at.at in
    let step : at + c.args.step - at ≡ c.args.step = omega arith in
    let first : at + c.args.step ≤ length a = omega arith in
    let second : at + c.args.step ≤ length b = omega arith in
    record {
      first = first;
      second = second;
      same = same_more a b _ _ at c.args.step c.starts_with.result c.loop-at.invariant.same second (take_rest a at) (ap (λ (k : ℕ). take k (drop at b)) step)
          c.starts_with.ensures.value c.if-starts_with.true;
    }
