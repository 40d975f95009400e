use Rattle.std.proofs.Common.{◌≡◌, ◌≤◌, ◌==◌, ◌∙◌, ℕ, ap, arith, eq-eqb, false, length, ne_eqb, subst, sym, true}
use Rattle.std.specs.Prelude.{Some, count_by}
use Rattle.std.specs.Option.{option_or}
use Rattle.std.proofs.lemmas.List.Sums.{count_by-le-length}
use Rattle.snap_files.specs.inside.Sums.{IsFirst}
use Rattle.snap_files.specs.Sums.{has_code}
use Rattle.snap_files.proofs.Summing.{count_other, count_same, first_more, first_other}
use Rattle.snap_files.proofs.sums.Kind.add.Goals as goal

pub returns-then-code-self : goal.returns-then-code-self
returns-then-code-self c = λ kind files name place_is fits is.
    let same : (c.args.code == kind) ≡ true = eq-eqb c.args.code kind (c.if-code-self.true ∙ is.code_is) in
    let few : count_by (has_code kind) files ≤ length files = count_by-le-length (has_code kind) files in
    let counted = is.counts in
    let more = c.saturating_add-self.ensures in
    record {
      code_is = is.code_is;
      counts = omega (arith, few, counted, more, fits, count_same kind files name c.args.code same);
      first = subst (IsFirst kind _) (sym (c.or-self.ensures ∙ ap (λ (n : ℕ). option_or c.args.self.now.first (Some n)) place_is)) (first_more kind files name c.args.code c.args.self.now.first same is.first);
    }

pub returns-else-code-self : goal.returns-else-code-self
returns-else-code-self c = λ kind files name place_is fits is.
    let other : (c.args.code == kind) ≡ false = ne_eqb c.args.code kind (λ e. c.if-code-self.false (e ∙ sym is.code_is)) in
    record {
      code_is = is.code_is;
      counts = is.counts ∙ sym (count_other kind files name c.args.code other);
      first = first_other kind files name c.args.code c.args.self.now.first other is.first;
    }
