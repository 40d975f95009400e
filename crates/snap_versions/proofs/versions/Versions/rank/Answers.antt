use Rattle.std.proofs.Common.{◌≡◌, ◌∙◌, ◌<◌, ℕ, Vec, Global, length, sym, ap, subst, arith}
use Rattle.std.specs.List.Sorted.{IsNonDecreasing}
use Rattle.std.proofs.lemmas.List.{length-map}
use Rattle.snap_index.specs.Rows.{rows}
use Rattle.snap_versions.specs.inside.Versions.{rank_among, versions_in}
use Rattle.snap_versions.proofs.Tables.{list_read}
use Rattle.snap_versions.proofs.versions.Versions.rank.Goals as goal

pub rank_in-requires-clause-rising : goal.rank_in-requires-clause-rising
rank_in-requires-clause-rising c =
    let table = c.self.inside.by_component.items in
    let k = c.args.component in
    let within : k < length table = omega (arith, c.self.invariant.size, length-map table (λ (v : Vec ℕ Global). v.items)) in
    let list : c.deref.result.now ≡ versions_in (rows table) k = c.deref.ensures.value ∙ list_read table c.from.result k c.index.result.now c.from.ensures within c.index.ensures in
    subst IsNonDecreasing (sym list) (c.self.invariant.rising k)

pub rank_in-requires-clause-few : goal.rank_in-requires-clause-few
rank_in-requires-clause-few c =
    let table = c.self.inside.by_component.items in
    let k = c.args.component in
    let within : k < length table = omega (arith, c.self.invariant.size, length-map table (λ (v : Vec ℕ Global). v.items)) in
    let list : c.deref.result.now ≡ versions_in (rows table) k = c.deref.ensures.value ∙ list_read table c.from.result k c.index.result.now c.from.ensures within c.index.ensures in
    omega (arith, ap length list, c.self.invariant.few k)

pub returns : goal.returns
returns c =
    let table = c.self.inside.by_component.items in
    let k = c.args.component in
    let within : k < length table = omega (arith, c.self.invariant.size, length-map table (λ (v : Vec ℕ Global). v.items)) in
    let list : c.deref.result.now ≡ versions_in c.args.self.now k = c.deref.ensures.value ∙ list_read table c.from.result k c.index.result.now c.from.ensures within c.index.ensures ∙ ap (λ z. versions_in z k) c.self.view_is in
    c.rank_in.ensures ∙ ap (λ z. rank_among z c.args.number) list
