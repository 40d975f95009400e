use Rattle.std.proofs.Common.{rules, ◌≡◌, ◌∷◌, [], ℕ, List, Vec, Global, length, get_or, set, replicate, refl, sym, ap, ◌∙◌, arith}
use Rattle.std.proofs.lemmas.List.{map-set, get_or-map, nil_from_length, set-get_or}
use Rattle.std.proofs.lemmas.Bool.{eqb-true, eqb-false}
use Rattle.snap_tally.specs.inside.NumberTables.{opened}
use Rattle.snap_tally.proofs.number_table.NumberTable.open.Goals as goal

pub returns-in_ok-self-inside : goal.returns-in_ok-self-inside
returns-in_ok-self-inside c =
    let table = c.self.inside.by_component.items in
    let k = c.args.k in
    let none : c.index.result.now.items ≡ [] = nil_from_length c.index.result.now.items (omega (arith, c.index.result.now.ok, eqb-true _ _ (sym c.is_empty.ensures ∙ c.if-is_empty.true))) in
    let row : c.index.result.now.items ≡ get_or c.args.self.now k [] =
    ap (λ (v : Vec _ Global). v.items) c.index.ensures ∙ sym (get_or-map (λ (v : Vec _ Global). v.items) table k c.index.result.now [] (omega (arith, c.self.invariant)))
    ∙ ap (λ z. get_or z k []) c.self.view_is in
    let zeros : c.in_ok-self-inside.field-0.items ≡ replicate c.args.count 0 = c.in_ok-self-inside.ensures.items_if_clones_equal (search rules) in
    map-set (λ (v : Vec _ Global). v.items) table k c.in_ok-self-inside.field-0
    ∙ ap (λ z. set z k c.in_ok-self-inside.field-0.items) c.self.view_is
    ∙ ap (set c.args.self.now k) (zeros ∙ ap (opened c.args.count) (sym none ∙ row))

-- what is there stays
open_there : (table : List (List ℕ)) (k count : ℕ) (row : List ℕ) → get_or table k [] ≡ row → (row ≡ [] → ⊥) → table ≡ set table k (opened count (get_or table k []))
open_there table k count [] e h = absurd (h refl)
open_there table k count (n ∷ ns) e h = sym (set-get_or table k []) ∙ ap (set table k) (e ∙ sym (ap (opened count) e))

pub returns-else-is_empty : goal.returns-else-is_empty
returns-else-is_empty c =
    let table = c.self.inside.by_component.items in
    let k = c.args.k in
    let row : c.index.result.now.items ≡ get_or c.args.self.now k [] =
    ap (λ (v : Vec _ Global). v.items) c.index.ensures ∙ sym (get_or-map (λ (v : Vec _ Global). v.items) table k c.index.result.now [] (omega (arith, c.self.invariant)))
    ∙ ap (λ z. get_or z k []) c.self.view_is in
    open_there c.args.self.now k c.args.count c.index.result.now.items (sym row)
    (λ e. let size : length c.index.result.now.items ≡ 0 = ap length e in eqb-false _ _ (sym c.is_empty.ensures ∙ c.if-is_empty.false) (omega (arith, c.index.result.now.ok, size)))
