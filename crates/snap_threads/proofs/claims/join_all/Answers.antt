use Rattle.std.proofs.Common.{◌≡◌, ℕ, ◌<◌, ◌++◌, List, length, get_or, All, arith, sym, refl, ap, ◌∙◌, subst, length-append}
use Rattle.snap_core.specs.Sums.{times, total}
use Rattle.snap_threads.specs.inside.Draws.{past}
use Rattle.snap_threads.specs.Claiming.{ClaimView}
use Rattle.snap_threads.proofs.Keeps.{joins, settles}
use Rattle.snap_threads.proofs.Finishing.{past_any}
use Rattle.snap_threads.proofs.Closing.{all_front, all_last, one_sum, more_sum, total-any, empty_sum}
use Rattle.snap_threads.proofs.claims.join_all.Goals as goal

pub loop-claim-init : goal.loop-claim-init
loop-claim-init c =
    let h = c.in-Some.ensures in
    let claim = c.in-Some.first in
    let key = c.args.table.shared.key in
    let table = c.args.table.shared.table_id in
    let P : ClaimView → Type 0 = λ d. (d.table ≡ table) × (d.pieces ≡ key.pieces) in
    let all = subst (λ (xs : List ClaimView). All P xs) h.items c.requires.claims in
    let last = all_last P c.pop.new.self.items claim all in
    let list = ap (λ m. m.0) c.seat_of-all.ensures.list in
    let one = ap length list in
    record {
      same = refl;
      at = c.seat_of-all.ensures.table ∙ last.0;
      bare = ap (λ m. m.1) c.seat_of-all.ensures.list;
      count = omega (arith, h.len, one);
      sums = λ f. one_sum f (λ (d : ClaimView). f d.drawn) c.seat_of-all.result.me.0 claim.drawn claim c.pop.new.self.items c.args.claims.items list refl h.items;
      of = all_front P c.pop.new.self.items claim all;
    }

pub join_seat-requires : goal.join_seat-requires
join_seat-requires c =
    let i = c.loop-claim.invariant in
    let h = c.in-Some-pop.ensures in
    let claim = c.in-Some-pop.claim in
    let key = c.args.table.shared.key in
    let table = c.args.table.shared.table_id in
    let P : ClaimView → Type 0 = λ d. (d.table ≡ table) × (d.pieces ≡ key.pieces) in
    let all = subst (λ (xs : List ClaimView). All P xs) h.items i.of in
    let last = all_last P c.pop-in-loop-claim.new.self.items claim all in
    (i.at, c.seat_of.ensures.table ∙ last.0, ap (λ m. m.1) c.seat_of.ensures.list, omega (arith, c.requires.table.0), joins _ _ _ _ _ _)

pub loop-claim-preserved : goal.loop-claim-preserved
loop-claim-preserved c =
    let i = c.loop-claim.invariant in
    let h = c.in-Some-pop.ensures in
    let j = c.join_seat.ensures in
    let claim = c.in-Some-pop.claim in
    let key = c.args.table.shared.key in
    let table = c.args.table.shared.table_id in
    let P : ClaimView → Type 0 = λ d. (d.table ≡ table) × (d.pieces ≡ key.pieces) in
    let all = subst (λ (xs : List ClaimView). All P xs) h.items i.of in
    let list = ap (λ m. m.0) c.seat_of.ensures.list in
    let one = ap length list in
    let now : c.join_seat.new.seat.me.0 ≡ c.loop-claim.all.me.0 ++ c.seat_of.result.me.0 = ap (λ m. m.0) j.2 in
    let both = ap length now ∙ length-append c.loop-claim.all.me.0 c.seat_of.result.me.0 in
    record {
      same = refl;
      at = j.0 ∙ i.at;
      bare = ap (λ m. m.1) j.2 ∙ i.bare;
      count = omega (arith, h.len, i.count, both, one);
      sums = λ f. more_sum f (λ (d : ClaimView). f d.drawn) c.loop-claim.all.me.0 c.seat_of.result.me.0 c.join_seat.new.seat.me.0 claim.drawn claim c.pop-in-loop-claim.new.self.items c.loop-claim.claims.items _ now list refl h.items (i.sums f);
      of = all_front P c.pop-in-loop-claim.new.self.items claim all;
    }

pub returns : goal.returns
returns c p low =
    let i = c.loop-claim.invariant in
    let h = c.in_default-pop.ensures in
    let claims = c.args.claims.items in
    let key = c.args.table.shared.key in
    let v = c.close_with.ensures.values.2 in
    let empty : length c.loop-claim.claims.items ≡ 0 = omega (arith, h.cases.0) in
    let any = c.requires.finished in
    let d = any.1 in
    let of = c.requires.claims any.0 d any.2 in
    let own : d.pieces ≡ key.pieces = ap (λ (e : ClaimView). e.pieces) (sym any.3) ∙ of.1 in
    let finished : 0 < past key.pieces d.drawn = subst (λ (n : ℕ). 0 < past n d.drawn) own (past_any d.pieces d.drawn any.4) in
    let none : (f : ClaimView → ℕ) → total f c.loop-claim.claims.items ≡ 0 = λ f. empty_sum f c.loop-claim.claims.items empty in
    let some_past : 0 < total (past key.pieces) c.loop-claim.all.me.0 =
    (let s = i.sums (past key.pieces) in
    let z = none (λ e. past key.pieces e.drawn) in
    let b = total-any (λ (e : ClaimView). past key.pieces e.drawn) claims any.0 d any.2 in
    let e : past key.pieces (get_or claims any.0 d).drawn ≡ past key.pieces d.drawn = ap (λ (q : ClaimView). past key.pieces q.drawn) any.3 in
    omega (arith, e, finished, b, z, s)) in
    let one = settles key.pieces key.workers c.loop-claim.all.id c.loop-claim.all.me.0 (omega (arith, i.count, c.requires.all, empty)) some_past v.0 v.1.0 v.1.1 p low in
    let s = i.sums (times p) in
    let z = none (λ e. times p e.drawn) in
    omega (arith, one, s, z)
