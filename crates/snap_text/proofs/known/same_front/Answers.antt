use Rattle.std.proofs.Common.{◌≡◌, ◌+◌, ◌-◌, ◌∙◌, ℕ, List, ap, drop, length, sym, take, take-add, arith}
use Rattle.std.proofs.lemmas.List.{take_rest}
use Rattle.snap_text.proofs.known.same_front.Goals as goal

-- texts that are alike some bytes further
further : (a b : List ℕ) (at n : ℕ) → take at a ≡ take at b → take n (take (length a - at) (drop at a)) ≡ take n (take (length b - at) (drop at b)) → take (at + n) a ≡ take (at + n) b
further a b at n same more =
    let rests = ap (take n) (sym (take_rest a at)) ∙ more ∙ ap (take n) (take_rest b at) in
    take-add at n a ∙ rw (same, rests) (sym (take-add at n b))

pub returns-then-same-lt-LANES-clause-same : goal.returns-then-same-lt-LANES-clause-same
returns-then-same-lt-LANES-clause-same c = further c.args.a.now c.args.b.now c.loop-at.at c.same_lanes-same.result c.loop-at.invariant.same c.same_lanes-same.ensures.same

pub loop-at-preserved : goal.loop-at-preserved
loop-at-preserved c = record {
  first = omega arith;
  second = omega arith;
  same = further c.args.a.now c.args.b.now c.loop-at.at c.same_lanes-same.result c.loop-at.invariant.same c.same_lanes-same.ensures.same;
}
