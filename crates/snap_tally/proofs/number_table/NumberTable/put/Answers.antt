use Rattle.std.proofs.Common.{◌≡◌, ◌<◌, [], ℕ, List, Vec, Global, length, get_or, set, get_or-set_same, sym, ap, ◌∙◌, arith}
use Rattle.std.specs.Vec.{with_item}
use Rattle.std.proofs.lemmas.List.{map-set, get_or-map, set-set}
use Rattle.snap_index.specs.Rows.{rows}
use Rattle.snap_tally.specs.inside.NumberTables.{opened}
use Rattle.snap_tally.proofs.NumberTables.{opened_length}
use Rattle.snap_tally.proofs.number_table.NumberTable.put.Goals as goal

-- the row of a component that was opened
open_row : (table : List (Vec ℕ Global)) (wide now : List (List ℕ)) (k count : ℕ) (v : Vec ℕ Global) → length table ≡ 256 → v ≡ get_or table k v → rows table ≡ wide → wide ≡ set now k (opened count (get_or now k [])) → length now ≡ 256 → k < 256 →
    v.items ≡ opened count (get_or now k [])
open_row table wide now k count v size is view opens length_now l =
    ap (λ (z : Vec ℕ Global). z.items) is ∙ sym (get_or-map (λ (z : Vec ℕ Global). z.items) table k v [] (omega (arith, l, size)))
    ∙ ap (λ z. get_or z k []) (view ∙ opens) ∙ get_or-set_same now k (opened count (get_or now k [])) [] (omega (arith, l, length_now))

pub index_mut-requires-2 : goal.index_mut-requires-2
index_mut-requires-2 c =
    let row = open_row c.self.inside.by_component.items c.open.new.self c.args.self.now c.args.k c.args.count c.index_mut.result.now c.self.invariant c.index_mut.ensures.value c.self.view_is c.in_ok-open.ensures c.requires.rows.size (omega arith) in
    let long = opened_length c.args.count (get_or c.args.self.now c.args.k []) (c.requires.rows.each c.args.k (omega arith)) in
    omega (arith, c.index_mut.result.now.ok, ap length row, long, c.requires.place)

pub returns : goal.returns
returns c =
    let k = c.args.k in
    let row = open_row c.self.inside.by_component.items c.open.new.self c.args.self.now k c.args.count c.index_mut.result.now c.self.invariant c.index_mut.ensures.value c.self.view_is c.in_ok-open.ensures c.requires.rows.size (omega arith) in
    let numbers = set c.index_mut.result.now.items c.args.place c.args.number in
    map-set (λ (v : Vec ℕ Global). v.items) c.self.inside.by_component.items k (with_item c.index_mut.result.now c.args.place c.args.number)
    ∙ ap (λ z. set z k numbers) (c.self.view_is ∙ c.in_ok-open.ensures)
    ∙ set-set c.args.self.now k (opened c.args.count (get_or c.args.self.now k [])) numbers
    ∙ ap (λ z. set c.args.self.now k (set z c.args.place c.args.number)) row
