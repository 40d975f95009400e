use Rattle.std.proofs.Common.{◌+◌, ◌<◌, ◌∙◌, length, subst, arith}
use Rattle.std.proofs.lemmas.List.{get_or_default}
use Rattle.snap_masks.specs.Ranks.{IsRank}
use Rattle.snap_masks.proofs.ranked.Ranked.around.Goals as goal

pub returns-clause-below : goal.returns-clause-below
returns-clause-below c =
    let me = c.self.inside in
    let rank = c.rank_by-rank.result in
    let is_rank = subst (λ z. IsRank z c.args.x rank) c.deref.ensures.value c.rank_by-rank.ensures in
    let within : rank < length me.under.items = omega (arith, is_rank.within, c.self.invariant.count) in
    rw (← c.self.view_is) (c.index.ensures ∙ get_or_default me.under.items rank c.index.result.now 0 within ∙ c.self.invariant.masked c.args.x rank is_rank)

pub returns-clause-at_most : goal.returns-clause-at_most
returns-clause-at_most c =
    let me = c.self.inside in
    let rank = c.rank_behind-behind.result in
    let is_rank = subst (λ z. IsRank z (c.args.x + 1) rank) c.deref-2.ensures.value c.rank_behind-behind.ensures in
    let within : rank < length me.under.items = omega (arith, is_rank.within, c.self.invariant.count) in
    rw (← c.self.view_is) (c.index-2.ensures ∙ get_or_default me.under.items rank c.index-2.result.now 0 within ∙ c.self.invariant.masked (c.args.x + 1) rank is_rank)
