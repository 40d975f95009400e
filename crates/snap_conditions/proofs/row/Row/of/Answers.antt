use Rattle.std.proofs.Common.{◌≡◌, ◌+◌, ◌<◌, refl, sym, ap, ◌∙◌, inl, inr, arith, length, get_or, set, length-set, get_or-set_same, get_or-set_other}
use Rattle.std.proofs.lemmas.Bool.{cases_eq}
use Rattle.snap_views.specs.Rows.{row_number, sum_below}
use Rattle.snap_views.proofs.Compared.{number_small}
use Rattle.snap_views.proofs.Sums.{sum_none, sum_more}
use Rattle.snap_conditions.proofs.row.Row.of.Goals as goal

pub loop-k-init : goal.loop-k-init
loop-k-init c = record { size = refl; small = omega arith; sum_is = sym (sum_none (row_number c.numbers_of-numbers.result)); sums_are = λ j l. absurd (omega (arith, l)) }

pub loop-k-preserved : goal.loop-k-preserved
loop-k-preserved c =
    let k = c.loop-k.k in
    let numbers = c.numbers_of-numbers.result in
    let sum : c.loop-k.sum + c.from-sum.result ≡ sum_below (row_number numbers) (k + 1) = omega (arith, c.loop-k.invariant.sum_is, c.from-sum.ensures, sum_more (row_number numbers) k) in
    let total = c.loop-k.sum + c.from-sum.result in
    let within : k < length c.loop-k.sums = omega (arith, c.loop-k.invariant.size, c.loop-k-test.true) in
    record {
      size = length-set _ _ _ ∙ c.loop-k.invariant.size;
      small = omega (arith, c.loop-k.invariant.small, c.from-sum.ensures, c.numbers_of-numbers.ensures k c.loop-k-test.true, number_small c.args.entries.now c.requires k);
      sum_is = sum;
      sums_are = λ j l. elim (cases_eq k j) [
        | inl same ↦ ap (λ z. get_or (set c.loop-k.sums k total) z 0) (sym same) ∙ get_or-set_same c.loop-k.sums k total 0 within ∙ sum ∙ ap (λ z. sum_below (row_number numbers) (z + 1)) same
        | inr other ↦ get_or-set_other c.loop-k.sums k j total 0 (λ e. other (sym e)) ∙ c.loop-k.invariant.sums_are j (omega (arith, l, other))
      ];
    }
