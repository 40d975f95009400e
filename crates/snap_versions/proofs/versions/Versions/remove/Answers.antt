use Rattle.std.specs.Prelude.{◌==◌, ◌&&◌, not}
use Rattle.std.proofs.Common.{◌≡◌, ◌∙◌, ◌<◌, ℕ, Vec, Global, length, filter, rules, sym, ap, subst, arith}
use Rattle.std.proofs.lemmas.Fn.{filter_same}
use Rattle.std.proofs.lemmas.List.{length-map}
use Rattle.snap_index.specs.Rows.{rows}
use Rattle.snap_versions.specs.inside.Versions.{IsTable, has_version, versions_in}
use Rattle.snap_versions.proofs.Tables.{changed_in, is_other, left_out, not_there, table_without}
use Rattle.snap_versions.proofs.versions.Versions.remove.Goals as goal

pub invariant_of-self : goal.invariant_of-self
invariant_of-self c =
    let table = c.self.inside.by_component.items in
    let k = c.args.component in
    let other = is_other c.args.number in
    let kept : c.retain.new.self.items ≡ filter other c.index_mut.result.now.items = filter_same _ other _ (λ x b f' k. search rules) _ _ c.retain.ensures.filtered in
    let within : k < length (rows table) = omega (arith, c.self.invariant.size) in
    let new = changed_in (filter other) table c.from.result k c.index_mut.result.now c.retain.new.self c.from.ensures (omega (arith, within, length-map table (λ (v : Vec ℕ Global). v.items))) c.index_mut.ensures.value kept in
    subst IsTable (sym new) (table_without (rows table) k other within c.self.invariant)

pub returns-then-has : goal.returns-then-has
returns-then-has c = λ j n.
    let table = c.self.inside.by_component.items in
    let k = c.args.component in
    let m = c.args.number in
    let other = is_other m in
    let kept : c.retain.new.self.items ≡ filter other c.index_mut.result.now.items = filter_same _ other _ (λ x b f' k. search rules) _ _ c.retain.ensures.filtered in
    let within : k < length (rows table) = omega (arith, c.self.invariant.size) in
    let new = changed_in (filter other) table c.from.result k c.index_mut.result.now c.retain.new.self c.from.ensures (omega (arith, within, length-map table (λ (v : Vec ℕ Global). v.items))) c.index_mut.ensures.value kept in
    ap (λ z. has_version (versions_in z j) n) new ∙ left_out (rows table) k m within j n ∙ ap (λ z. has_version (versions_in z j) n && not ((k == j) && (m == n))) c.self.view_is

pub returns-else-has : goal.returns-else-has
returns-else-has c = not_there c.args.self.now c.args.component c.args.number (sym c.has.ensures ∙ c.if-has.false)
