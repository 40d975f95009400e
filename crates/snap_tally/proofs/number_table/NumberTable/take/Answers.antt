use Rattle.std.proofs.Common.{[], Vec, Global, get_or, set, sym, ap, ◌∙◌, arith}
use Rattle.std.proofs.lemmas.List.{map-set, get_or-map}
use Rattle.snap_tally.proofs.number_table.NumberTable.take.Goals as goal

pub returns-clause-taken : goal.returns-clause-taken
returns-clause-taken c =
    let table = c.self.inside.by_component.items in
    let k = c.args.k in
    ap (λ (v : Vec _ Global). v.items) (c.replace.ensures.value ∙ c.index_mut.ensures.value)
    ∙ sym (get_or-map (λ (v : Vec _ Global). v.items) table k c.index_mut.result.now [] (omega (arith, c.self.invariant))) ∙ ap (λ z. get_or z k []) c.self.view_is

pub returns-clause-left : goal.returns-clause-left
returns-clause-left c =
    let table = c.self.inside.by_component.items in
    let k = c.args.k in
    map-set (λ (v : Vec _ Global). v.items) table k c.replace.new.dest
    ∙ ap (λ z. set z k c.replace.new.dest.items) c.self.view_is ∙ ap (λ (v : Vec _ Global). set c.args.self.now k v.items) c.replace.ensures.after ∙ ap (set c.args.self.now k) c.new.ensures.items
