use Rattle.std.proofs.Common.{ℕ, List, ◌≡◌, ◌<◌, ◌+◌, ◌++◌, ◌∷◌, [], length, get_or, inl, inr, ap, ◌∙◌, arith}
use Rattle.std.proofs.lemmas.Bool.{cases_eq}
use Rattle.std.proofs.lemmas.List.{get_or_append_left, get_or_push, length-append}
use Rattle.snap_masks.specs.Ranks.{IsRank}
use Rattle.snap_masks.proofs.ranked.ranks_of.Goals as goal

-- the ranks of the numbers up to one, where that of the last was put after the others
ranks_more : (numbers distinct ranks : List ℕ) (i r : ℕ) → length ranks ≡ i → ((a : ℕ) → a < i → IsRank distinct (get_or numbers a 0) (get_or ranks a 0)) → IsRank distinct (get_or numbers i 0) r →
    (a : ℕ) → a < i + 1 → IsRank distinct (get_or numbers a 0) (get_or (ranks ++ r ∷ []) a 0)
ranks_more numbers distinct ranks i r size below here a l = elim (cases_eq a i) [
  | inl e ↦ rw (e, get_or_push ranks r 0 i size) here
  | inr e ↦ rw (get_or_append_left ranks (r ∷ []) 0 a (omega (arith, size, e, l))) (below a (omega (arith, e, l)))
]

pub loop-i-preserved : goal.loop-i-preserved
loop-i-preserved c =
    let items = c.in_ok-push.ensures.items in
    rw items (record {
      size = length-append c.loop-i.ranks.items _ ∙ ap (λ n. n + 1) c.loop-i.invariant.size;
      each = ranks_more c.args.numbers.now c.args.distinct.now c.loop-i.ranks.items c.loop-i.i c.rank_of.result c.loop-i.invariant.size c.loop-i.invariant.each c.rank_of.ensures;
    })
