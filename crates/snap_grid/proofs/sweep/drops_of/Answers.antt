use Rattle.std.proofs.Common.{◌≡◌, ◌≤◌, ◌<◌, ◌+◌, ◌-◌, ℕ, List, length, get_or, set, length-set, get_or-set_same, get_or-set_other, sym, ap, subst, ◌∙◌, inl, inr, arith}
use Rattle.std.proofs.lemmas.Bool.{cases_lt, cases_eq}
use Rattle.std.proofs.lemmas.List.{get_or_default}
use Rattle.snap_grid.specs.Columns.{number}
use Rattle.snap_grid.specs.inside.Sweeps.{HasCounted, drops_from}
use Rattle.snap_grid.specs.inside.Trees.{IsTree, sum_below_place}
use Rattle.snap_grid.proofs.Sweeps.{counted_none, few_counted, none_behind, swept}
use Rattle.snap_grid.proofs.sweep.drops_of.Goals as goal

pub loop-left-init : goal.loop-left-init
loop-left-init c =
    let r = c.in_ok-ranks.ensures.order in
    record {
      within = omega (arith, c.len-left.ensures, c.in_ok-keys.keys.ok);
      counted = counted_none (length c.args.numbers.now + 1) c.in_ok-ranks.ranks.items c.as_mut_slice-nodes.result.now (length c.args.begins.now) (omega (arith, r.count, c.requires.rows.0)) (subst (IsTree (length c.args.numbers.now + 1)) (sym c.as_mut_slice-nodes.ensures.value) c.in_ok-tree.ensures.tree)
          (λ i. ap (λ z. get_or z i 0) c.as_mut_slice-nodes.ensures.value ∙ c.in_ok-tree.ensures.empty i);
      behind = λ b i d l m. absurd (omega (arith, l, m));
      rows = omega (arith, c.in_ok-counts.ensures.len, c.in_ok-counts.counts.ok, c.requires.rows.1);
      done = λ i d l m. absurd (omega (arith, l, m, c.len-left.ensures, c.in_ok-keys.keys.ok));
    }

pub sum_below-requires-clause-small : goal.sum_below-requires-clause-small
sum_below-requires-clause-small c =
    omega (arith, few_counted (length c.args.numbers.now + 1) _ c.count_behind-from.new.nodes c.count_behind-from.result c.index-in-loop-left.result.now c.count_behind-from.ensures.counted, ap (λ (z : List ℕ). length z) c.deref.ensures.value, c.in_ok-ranks.ensures.order.count, c.requires.rows.0, c.requires.few)

pub loop-left-preserved : goal.loop-left-preserved
loop-left-preserved c =
    let kept = c.loop-left.invariant in
    let order = c.in_ok-keys.ensures in
    let keys = c.in_ok-keys.keys.items in
    let ranks = c.in_ok-ranks.ranks.items in
    let last = c.loop-left.left - 1 in
    let key = c.index.result.now in
    let row = key.1 in
    let at_last : last < length keys = omega (arith, kept.within, c.loop-left-test.true) in
    let here = λ (d : ℕ × ℕ). get_or_default keys last d key at_last ∙ sym c.index.ensures in
    let row_is = ap (λ (k : ℕ × ℕ). k.1) (here (0, 0)) in
    let within : row < length c.args.begins.now = omega (arith, row_is, order.row last (0, 0) at_last, c.requires.rows.1) in
    let counted = subst (λ z. HasCounted (length c.args.numbers.now + 1) z c.count_behind-from.result c.count_behind-from.new.nodes) c.deref.ensures.value c.count_behind-from.ensures.counted in
    let same = c.in_ok-ranks.ensures.order in
    let behind : (b i : ℕ) (d : ℕ × ℕ) → c.count_behind-from.result ≤ b → b < length c.args.begins.now → i ≤ last → (get_or keys i d).0 < number c.args.begins.now b = λ b i d l m k. elim (cases_lt b c.loop-left.from) [
      | inl new ↦ omega (arith, c.count_behind-from.ensures.behind b l new, order.order i last d k at_last, ap (λ (k : ℕ × ℕ). k.0) (here d))
      | inr old ↦ kept.behind b i d old m (omega (arith, k, c.loop-left-test.true))
    ] in
    let rank = c.index-in-loop-left.ensures ∙ get_or_default ranks row c.index-in-loop-left.result.now 0 (omega (arith, within, same.count, c.requires.rows.0)) in
    let drops =
    c.sum_below.ensures ∙ ap (sum_below_place (length c.args.numbers.now + 1) c.count_behind-from.new.nodes) rank
    ∙ swept (length c.args.numbers.now + 1) c.args.numbers.now ranks c.args.begins.now c.args.ends.now c.count_behind-from.new.nodes c.count_behind-from.result row key.0 counted same c.requires.rows.0 within
    (ap (λ (k : ℕ × ℕ). k.0) (sym (here (0, 0))) ∙ order.end last (0, 0) at_last ∙ ap (number c.args.ends.now) row_is)
    (λ b l m. omega (arith, behind b last (0, 0) l m (omega arith), ap (λ (k : ℕ × ℕ). k.0) (here (0, 0))))
    (none_behind c.args.begins.now c.count_behind-from.result key.0 c.requires.rising (omega (arith, counted.within, same.count, c.requires.rows.0)) c.count_behind-from.ensures.last) in
    record {
      within = omega (arith, kept.within);
      counted = counted;
      behind = λ b i d l m k. behind b i d l m (omega (arith, k));
      rows = length-set _ _ _ ∙ kept.rows;
      done = λ i d l m. elim (cases_eq (get_or keys i d).1 row) [
        | inl is ↦ ap (number (set c.loop-left.counts.items row c.sum_below.result)) is ∙ get_or-set_same c.loop-left.counts.items row c.sum_below.result 0 (omega (arith, within, kept.rows)) ∙ drops
            ∙ ap (drops_from c.args.numbers.now c.args.begins.now c.args.ends.now) (sym is)
        | inr other ↦ get_or-set_other c.loop-left.counts.items row (get_or keys i d).1 c.sum_below.result 0 other ∙ kept.done i d (omega (arith, l, λ (e : i ≡ last). other (ap (λ z. (get_or keys z d).1) e ∙ ap (λ (k : ℕ × ℕ). k.1) (here d)))) m
      ];
    }

pub returns : goal.returns
returns c = record {
  count = c.loop-left.invariant.rows;
  each = λ a l.
      let at = c.in_ok-keys.ensures.all a (omega (arith, l, c.requires.rows.1)) in
      subst (λ z. number c.loop-left.counts.items z ≡ drops_from c.args.numbers.now c.args.begins.now c.args.ends.now z) (at.2 (0, 0)) (c.loop-left.invariant.done at.0 (0, 0) (omega (arith, c.loop-left-test.false)) at.1);
}
