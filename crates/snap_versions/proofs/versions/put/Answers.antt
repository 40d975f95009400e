use Rattle.std.proofs.Common.{◌∙◌, ◌++◌, ◌∷◌, [], ap, sym, arith, Vec, Global, ℕ}
use Rattle.snap_versions.proofs.Tables.{changed_in}
use Rattle.snap_versions.proofs.versions.put.Goals as goal

pub returns-clause-put : goal.returns-clause-put
returns-clause-put c = changed_in (λ z. z ++ c.args.number ∷ []) c.args.lists.now c.from.result c.args.component c.index-lists-from.result c.push.new.self c.from.ensures (omega arith) c.index-lists-from.is
    (c.in_ok-push.ensures.items ∙ ap (λ (v : Vec ℕ Global). v.items ++ c.args.number ∷ []) (sym c.index-lists-from.is))
