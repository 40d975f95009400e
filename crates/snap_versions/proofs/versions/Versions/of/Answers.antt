use Rattle.std.proofs.Common.{◌≡◌, ◌≤◌, ◌∙◌, ◌++◌, ℕ, Bool, List, Vec, Global, count_by, drop, length, take, sym, ap, subst, arith}
use Rattle.std.proofs.lemmas.List.{length-map}
use Rattle.snap_core.specs.Calls.{Call}
use Rattle.snap_core.specs.Events.{event_cap}
use Rattle.snap_index.specs.Rows.{rows}
use Rattle.snap_versions.specs.inside.Listed.{call_listed, calls_listed}
use Rattle.snap_versions.specs.inside.Versions.{AllRise, AreVersionsOf, IsTable, versions_in}
use Rattle.snap_versions.proofs.Tables.{is_table, sorted_versions, whole_back}
use Rattle.snap_versions.proofs.versions.Versions.of.Goals as goal

-- what a sort of each list leaves of a table
record IsSorted (table new : List (Vec ℕ Global)) : Type 0 where
  size : length new ≡ length table
  rising : AllRise (rows new)
  same : (k : ℕ) (test : ℕ → Bool) → count_by test (versions_in (rows new) k) ≡ count_by test (versions_in (rows table) k)

sorted_lists : (calls : List Call) (len : ℕ) (table lent new : List (Vec ℕ Global)) → len ≡ length table → lent ≡ table → IsSorted lent new → AreVersionsOf calls (rows table) → length calls ≤ event_cap →
    AreVersionsOf calls (rows (take len (new ++ drop (length new) table))) × IsTable (rows (take len (new ++ drop (length new) table)))
sorted_lists calls len table lent new l is s h few =
    let size : length new ≡ length table = s.size ∙ ap length is in
    let whole : take len (new ++ drop (length new) table) ≡ new = whole_back len table new l size in
    let same = subst (λ z. (k : ℕ) (test : ℕ → Bool) → count_by test (versions_in (rows new) k) ≡ count_by test (versions_in (rows z) k)) is s.same in
    let versions = sorted_versions calls (rows table) (rows new) h (omega (arith, size, length-map new (λ (v : Vec ℕ Global). v.items), length-map table (λ (v : Vec ℕ Global). v.items))) same in
    (subst (λ z. AreVersionsOf calls (rows z)) (sym whole) versions, subst (λ z. IsTable (rows z)) (sym whole) (is_table calls (rows new) versions s.rising few))

pub invariant_of-result : goal.invariant_of-result
invariant_of-result c =
    let old = c.in_ok-by_component.by_component in
    let s : IsSorted c.deref_mut.result.now c.sort_each.new.lists = record { size = c.sort_each.ensures.size; rising = c.sort_each.ensures.rising; same = c.sort_each.ensures.same } in
    (sorted_lists (calls_listed c.args.calls.now) old.len old.items c.deref_mut.result.now c.sort_each.new.lists old.ok.0 c.deref_mut.ensures.value s c.in_ok-by_component.ensures (omega (arith, c.requires, length-map c.args.calls.now call_listed))).1

pub returns : goal.returns
returns c =
    let old = c.in_ok-by_component.by_component in
    let s : IsSorted c.deref_mut.result.now c.sort_each.new.lists = record { size = c.sort_each.ensures.size; rising = c.sort_each.ensures.rising; same = c.sort_each.ensures.same } in
    (sorted_lists (calls_listed c.args.calls.now) old.len old.items c.deref_mut.result.now c.sort_each.new.lists old.ok.0 c.deref_mut.ensures.value s c.in_ok-by_component.ensures (omega (arith, c.requires, length-map c.args.calls.now call_listed))).0
