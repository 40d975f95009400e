use Rattle.std.proofs.Common.{◌≡◌, ◌++◌, ◌∷◌, [], ◌∙◌, length, get_or, sym, ap, arith, below_more, length-append}
use Rattle.std.proofs.Math.Seq.{get_or-append_seam}
use Rattle.std.proofs.lemmas.List.{get_or_append_left}
use Rattle.snap_pairs.proofs.reads.part_numbers.Goals as goal

pub loop-part-preserved : goal.loop-part-preserved
loop-part-preserved c =
    let old = c.loop-part.parts.items in
    let part = c.loop-part.part in
    let i = c.loop-part.invariant in
    let pushed = c.in_ok-push.ensures.items in
    record {
      count = omega (arith, ap length pushed, length-append old (part ∷ []), i.count);
      each = below_more (λ k. get_or c.push.new.self.items k 0 ≡ k) part
          (λ k less. ap (λ l. get_or l k 0) pushed ∙ get_or_append_left old (part ∷ []) 0 k (omega (arith, less, i.count)) ∙ i.each k less)
          (ap (λ l. get_or l part 0) pushed ∙ ap (λ n. get_or (old ++ part ∷ []) n 0) (sym i.count) ∙ get_or-append_seam old part [] 0);
    }
