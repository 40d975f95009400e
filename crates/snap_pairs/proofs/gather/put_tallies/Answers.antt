use Rattle.std.proofs.Common.{◌<◌, ◌≡◌, arith, get_or, length, subst, sym, below_more, set, ◌∙◌, Some}
use Rattle.std.proofs.lemmas.List.{get_or_default}
use Rattle.snap_core.specs.Calls.{calls_of}
use Rattle.snap_pairs.proofs.Gathering.{fit_set, full_set, full_here}
use Rattle.snap_pairs.specs.declared.worker.Drawn.{Drawn}
use Rattle.snap_pairs.specs.inside.Pieces.{IsPieceTally, IsFull}
use Rattle.snap_pairs.proofs.gather.put_tallies.Goals as goal

pub loop-pair-preserved : goal.loop-pair-preserved
loop-pair-preserved g c =
    let calls = calls_of c.args.index.now in
    let n = c.args.cutting.pieces in
    let i = c.loop-pair.pair-index in
    let r = c.pair-item.result in
    let piece : IsPieceTally calls n r.piece r.tally = subst (λ (d : Drawn). IsPieceTally calls n d.piece d.tally) (sym c.pair-item.is) (c.requires.pairs i r c.loop-pair-test.true) in
    let low : r.piece < length c.loop-pair.slots = omega (arith, piece.0, c.loop-pair.invariant.fit.count) in
    record {
      fit = fit_set calls n r.piece r.tally c.loop-pair.slots c.loop-pair.invariant.fit piece;
      kept = λ p h. full_set r.piece p r.tally c.loop-pair.slots low (c.loop-pair.invariant.kept p h);
      full = λ k d lt.
          let now = set c.loop-pair.slots r.piece (Some r.tally) in
          let same : get_or c.args.pairs.now i d ≡ r = get_or_default c.args.pairs.now i d r c.loop-pair-test.true ∙ sym c.pair-item.is in
          below_more (λ j. IsFull now (get_or c.args.pairs.now j d).piece) i
          (λ j less. full_set r.piece (get_or c.args.pairs.now j d).piece r.tally c.loop-pair.slots low (c.loop-pair.invariant.full j d less))
          (subst (λ (q : Drawn). IsFull now q.piece) (sym same) (full_here r.piece r.tally c.loop-pair.slots low)) k lt;
    }
