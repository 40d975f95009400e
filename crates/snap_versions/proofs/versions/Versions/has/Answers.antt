use Rattle.std.proofs.Common.{◌≡◌, ◌∙◌, ◌<◌, ℕ, Vec, Global, length, sym, ap, subst, arith}
use Rattle.std.specs.List.Sorted.{IsNonDecreasing}
use Rattle.std.proofs.lemmas.List.{length-map}
use Rattle.snap_index.specs.Rows.{rows}
use Rattle.snap_versions.specs.inside.Versions.{has_version, versions_in}
use Rattle.snap_versions.proofs.Tables.{list_read}
use Rattle.snap_versions.proofs.versions.Versions.has.Goals as goal

pub is_among-requires : goal.is_among-requires
is_among-requires c =
    let table = c.self.inside.by_component.items in
    let k = c.args.component in
    let within : k < length table = omega (arith, c.self.invariant.size, length-map table (λ (v : Vec ℕ Global). v.items)) in
    let list : c.deref.result.now ≡ versions_in (rows table) k = c.deref.ensures.value ∙ list_read table c.from.result k c.index.result.now c.from.ensures within c.index.ensures in
    subst IsNonDecreasing (sym list) (c.self.invariant.rising k)

pub returns : goal.returns
returns c =
    let table = c.self.inside.by_component.items in
    let k = c.args.component in
    let within : k < length table = omega (arith, c.self.invariant.size, length-map table (λ (v : Vec ℕ Global). v.items)) in
    let list : c.deref.result.now ≡ versions_in c.args.self.now k = c.deref.ensures.value ∙ list_read table c.from.result k c.index.result.now c.from.ensures within c.index.ensures ∙ ap (λ z. versions_in z k) c.self.view_is in
    c.is_among.ensures ∙ ap (λ z. has_version z c.args.number) list
