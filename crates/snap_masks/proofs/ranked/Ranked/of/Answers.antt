use Rattle.std.proofs.Common.{◌≡◌, ◌<◌, ℕ, List, length, get_or, sym, ap, subst, arith}
use Rattle.std.specs.Prelude.{nat_lt}
use Rattle.std.proofs.lemmas.List.Elements.{Contains-get_or}
use Rattle.snap_masks.specs.Masks.{mask_by}
use Rattle.snap_masks.specs.Ranks.{AreRanks}
use Rattle.snap_masks.proofs.Ranking.{rank_small, ranked_mask}
use Rattle.snap_masks.proofs.ranked.Ranked.of.Goals as goal

pub masks_of-requires-clause-within : goal.masks_of-requires-clause-within
masks_of-requires-clause-within c = λ i l.
    let numbers = c.args.numbers.now in
    let distinct = c.in_ok-distinct.distinct.items in
    let ranks = c.in_ok-ranks.ranks.items in
    let r = subst (λ z. AreRanks numbers z ranks) c.deref.ensures.value c.in_ok-ranks.ensures in
    let k : i < length numbers = omega (arith, l, ap length c.deref-2.ensures.value, r.count) in
    let small = rank_small distinct (get_or numbers i 0) (get_or ranks i 0) (c.in_ok-distinct.ensures.each (get_or numbers i 0) (Contains-get_or numbers i 0 k)) (r.each i k) in
    subst (λ (z : List ℕ). get_or z i 0 < c.len.result) (sym c.deref-2.ensures.value) (omega (arith, small, c.len.ensures))

pub invariant_of-result : goal.invariant_of-result
invariant_of-result c =
    let numbers = c.args.numbers.now in
    let distinct = c.in_ok-distinct.distinct.items in
    let ranks = c.in_ok-ranks.ranks.items in
    let under = c.in_ok-under.under.items in
    let r = subst (λ z. AreRanks numbers z ranks) c.deref.ensures.value c.in_ok-ranks.ensures in
    record {
      order = c.in_ok-distinct.ensures.order;
      count = omega (arith, c.in_ok-under.ensures.count, c.len.ensures);
      masked = λ x rank s.
          let here = subst (λ (z : List ℕ). get_or under rank 0 ≡ mask_by (λ n. nat_lt n rank) z) c.deref-2.ensures.value (c.in_ok-under.ensures.tabled rank (omega (arith, s.within, c.len.ensures))) in
          ranked_mask numbers distinct ranks (get_or under rank 0) x rank c.in_ok-distinct.ensures r s here;
    }
