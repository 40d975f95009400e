use Rattle.std.proofs.Common.{◌∙◌, ap, arith, length-append, max, sym, ◌∷◌, []}
use Rattle.snap_files.specs.Sums.{with_code}
use Rattle.snap_files.proofs.Summing.{greatest_more}
use Rattle.snap_files.proofs.sums.Sums.add.Goals as goal

pub returns : goal.returns
returns c = λ files name fits are.
    let counted = are.counts in
    record {
      counts = omega (arith, counted, fits, c.saturating_add-self.ensures, length-append files (with_code name c.args.code ∷ []));
      greatest = c.max-self.ensures ∙ ap (λ n. max c.args.code n) are.greatest ∙ sym (greatest_more files name c.args.code);
      atomic = c.add.ensures 0 files name are.counts fits are.atomic;
      only_regular = c.add-2.ensures 1 files name are.counts fits are.only_regular;
      not_regular = c.add-3.ensures 2 files name are.counts fits are.not_regular;
      refused = c.add-4.ensures 3 files name are.counts fits are.refused;
      failed = c.add-5.ensures 4 files name are.counts fits are.failed;
    }
