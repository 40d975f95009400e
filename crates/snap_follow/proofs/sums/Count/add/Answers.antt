use Rattle.std.proofs.Common.{◌≡◌, ◌∙◌, ap, arith, eq-eqb, false, ne_eqb, subst, sym, true}
use Rattle.std.specs.Prelude.{Some}
use Rattle.std.specs.Option.{option_or}
use Rattle.snap_follow.specs.inside.Sums.{IsFirst}
use Rattle.snap_follow.specs.Windows.{has_code, verdict_code}
use Rattle.snap_follow.proofs.Summing.{count_other, count_same, first_more, first_other}
use Rattle.snap_follow.proofs.sums.Count.add.Goals as goal

pub returns-then-code-self : goal.returns-then-code-self
returns-then-code-self c = λ kind told t code number is.
    let same : has_code kind t ≡ true = eq-eqb (verdict_code t.window.verdict) kind (code ∙ c.if-code-self.true ∙ is.code_is) in
    let counted = is.windows_are in
    let more = c.saturating_add-self.ensures in
    record {
      code_is = is.code_is;
      windows_are = omega (arith, counted, more, count_same kind told t same);
      first = subst (IsFirst kind _) (sym (c.or-self.ensures ∙ ap (λ n. option_or c.args.self.now.first (Some n)) (sym number))) (first_more kind told t c.args.self.now.first same is.first);
    }

pub returns-else-code-self : goal.returns-else-code-self
returns-else-code-self c = λ kind told t code number is.
    let other : has_code kind t ≡ false = ne_eqb (verdict_code t.window.verdict) kind (λ e. c.if-code-self.false (sym code ∙ e ∙ sym is.code_is)) in
    let counted = is.windows_are in
    record {
      code_is = is.code_is;
      windows_are = omega (arith, counted, count_other kind told t other);
      first = first_other kind told t c.args.self.now.first other is.first;
    }
