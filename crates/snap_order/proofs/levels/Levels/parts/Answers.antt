use Rattle.std.proofs.Common.{◌≡◌, ◌<◌, ◌-◌, ◌+◌, ◌∙◌, length, get_or, sym, ap, subst, arith}
use Rattle.std.specs.List.{AllZip, range_with_len}
use Rattle.std.proofs.lemmas.List.FromFn.{length-range_with_len}
use Rattle.std.proofs.lemmas.Slice.Zip.{AllZip-long}
use Rattle.rayon.specs.Lists.{map_base, map_f}
use Rattle.rayon.specs.Numbers.{nat_range}
use Rattle.rayon.proofs.ListFacts.{IfOk-then}
use Rattle.rayon.proofs.ToStd.{nat_range-All}
use Rattle.snap_core.specs.Calls.{calls_of}
use Rattle.snap_order.specs.inside.Blocks.{IsBlock, AreBlocks}
use Rattle.snap_order.proofs.Blocks.{zipped_at}
use Rattle.snap_order.proofs.levels.Levels.parts.Goals as goal

-- the closure's `requires` at each block of the range
pub collect-requires-clause-ready : goal.collect-requires-clause-ready
collect-requires-clause-ready g c κs within =
    let ends = c.into_par_iter.ensures in
    let n = c.args.blocks in
    let inside = nat_range-All (λ i. i < n) 0 n (λ i low high. high) in
    rw (c.with_min_len.ensures.base, c.map.ensures.base, c.map.ensures.f, ends.0, ends.1) (λ k d lt. (inside k d lt, λ y p. tt))

pub returns-clause-count : goal.returns-clause-count
returns-clause-count g c =
    let ends = c.into_par_iter.ensures in
    let calls = calls_of c.args.self.now in
    let n = c.args.blocks in
    let whole : n - 0 ≡ n = omega arith in
    IfOk-then c.collect.result _ _ c.collect.ensures (λ v h.
    let base = ap map_base c.with_min_len.ensures.base ∙ c.map.ensures.base in
    let block = ap map_f c.with_min_len.ensures.base ∙ c.map.ensures.f in
    let places = h.1.1 ∙ (λ i. nat_range (base i).start (base i).end) ∙ (λ i. nat_range (ends.0 i) (ends.1 i)) ∙ ap (range_with_len 0) whole in
    let beside = subst (λ f. AllZip (IsBlock (calls_of f.0.now) f.2.now) h.1.0 h.0) block h.1.2 in
    ap length h.2 ∙ AllZip-long (IsBlock calls n) h.1.0 h.0 beside ∙ ap length places ∙ length-range_with_len 0 n)

pub returns-clause-parts : goal.returns-clause-parts
returns-clause-parts g c =
    let ends = c.into_par_iter.ensures in
    let calls = calls_of c.args.self.now in
    let n = c.args.blocks in
    let whole : n - 0 ≡ n = omega arith in
    IfOk-then c.collect.result _ _ c.collect.ensures (λ v h.
    let base = ap map_base c.with_min_len.ensures.base ∙ c.map.ensures.base in
    let block = ap map_f c.with_min_len.ensures.base ∙ c.map.ensures.f in
    let places = h.1.1 ∙ (λ i. nat_range (base i).start (base i).end) ∙ (λ i. nat_range (ends.0 i) (ends.1 i)) ∙ ap (range_with_len 0) whole in
    let each = subst (λ f. AllZip (IsBlock (calls_of f.0.now) f.2.now) h.1.0 h.0) block h.1.2 in
    let beside = subst (λ z. AllZip (IsBlock calls n) z h.0) places each in
    let all : AreBlocks calls n h.0 = λ i none l. let at : 0 + i ≡ i = omega arith in subst (λ j. IsBlock calls n j (get_or h.0 i none)) at (zipped_at (IsBlock calls n) 0 n h.0 beside i none l) in
    subst (AreBlocks calls n) (sym h.2) all)
