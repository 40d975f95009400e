use Rattle.std.proofs.Common.{arith, length, ap, sym, ◌∙◌}
use Rattle.snap_core.specs.Calls.{calls_of}
use Rattle.snap_index.proofs.LookUps.{row_is, seen}
use Rattle.snap_index.proofs.index.Index.update_limit.Goals as goal

pub returns : goal.returns
returns g c =
    let i = seen _ _ _ _ _ _ c.self.view_is c.self.invariant in
    record {
      few = c.limit.ensures.few;
      least = λ k is. rw (sym (row_is k (calls_of c.args.self.now))) (rw (i.tables.of_updates k (omega (arith, is, c.limit.ensures.few))) at (c.limit.ensures.last k is));
      none = λ k behind within. sym (row_is k (calls_of c.args.self.now)) ∙ ap length (sym (i.tables.of_updates k within) ∙ c.limit.ensures.none k behind within);
    }
