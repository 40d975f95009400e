use Rattle.std.proofs.Common.{◌≡◌, ◌∙◌, All, max, sym, ap, subst, arith}
use Rattle.std.specs.List.{AllZip}
use Rattle.rayon.specs.Lists.{chunks_of, map_base, map_f}
use Rattle.rayon.proofs.ListFacts.{IfOk-then}
use Rattle.rayon.proofs.ToStd.{slice-AllZip}
use Rattle.snap_core.specs.Calls.{calls_of}
use Rattle.snap_report.specs.Orders.{HasLine}
use Rattle.snap_report.specs.inside.Parts.{IsTextOf}
use Rattle.snap_report.proofs.Parts.{all_of_blocks}
use Rattle.snap_report.proofs.order.lines_of_blocks.Goals as goal

-- the closure's `requires` at each block
pub collect-requires-clause-ready : goal.collect-requires-clause-ready
collect-requires-clause-ready g c κs within =
    let calls = calls_of c.args.index.now in
    let size : max c.par_chunks.result.size 1 ≡ c.args.size = omega (arith, c.requires.some, c.par_chunks.ensures.size) in
    let inside = all_of_blocks (HasLine calls) c.args.size c.args.numbers.now c.requires.calls in
    rw (c.with_min_len.ensures.base, c.map.ensures.base, c.map.ensures.f, size, c.par_chunks.ensures.slice) (λ k d lt x e. (subst (All (HasLine calls)) (sym e) (inside k d lt), λ y p. tt))

pub returns : goal.returns
returns g c =
    let calls = calls_of c.args.index.now in
    let size : max c.par_chunks.result.size 1 ≡ c.args.size = omega (arith, c.requires.some, c.par_chunks.ensures.size) in
    IfOk-then c.collect.result _ _ c.collect.ensures (λ v h.
    let base = ap map_base c.with_min_len.ensures.base ∙ c.map.ensures.base in
    let lines = ap map_f c.with_min_len.ensures.base ∙ c.map.ensures.f in
    let each = subst (λ f. AllZip (λ block text. IsTextOf (calls_of f.1.now) block.now text) h.1.0 h.0) lines h.1.2 in
    let blocks = h.1.1 ∙ (λ i. chunks_of (max (base i).size 1) (base i).slice.now) ∙ ap (λ z. chunks_of z c.par_chunks.result.slice.now) size ∙ ap (chunks_of c.args.size) c.par_chunks.ensures.slice in
    rw h.2 (slice-AllZip h.1.0 (chunks_of c.args.size c.args.numbers.now) blocks (IsTextOf calls) h.0 each))
