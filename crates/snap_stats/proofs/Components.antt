-- The components that have an update, one after the other.
use Rattle.std.proofs.Common.{length, refl, Some, None, Option, option_map, count_by, ◌<◌, ◌≤◌, ◌≡◌, ◌+◌, ℕ, Bool, true, false, cond, List, [], ◌∷◌, ◌++◌, append-nil, filter, map, map-id, sym, ap, ◌∙◌, arith}
use Rattle.std.specs.List.{range_with_len}
use Rattle.std.proofs.lemmas.Bool.{le-ltb, lt-ltb}
use Rattle.std.proofs.lemmas.List.{length-map, map-append}
use Rattle.std.proofs.lemmas.List.FromFn.{filter_of_map_range_with_len_more}
use Rattle.snap_core.specs.Calls.{Call, views_of}
use Rattle.snap_core.specs.Entries.{component_count}
use Rattle.snap_index.specs.declared.call.Call.{Call as IndexedCall}
use Rattle.snap_index.specs.IndexedCalls.{as_indexed}
use Rattle.snap_index.specs.Updates.{is_update_of}
use Rattle.snap_stats.specs.Shown.{all_components, has_update, process_of_call, shows_component, updated_components, writer_of}
use Rattle.snap_stats.specs.Stats.{component_stats, components_of}
use Rattle.snap_stats.specs.declared.stats.ComponentStats.{ComponentStats}

-- those of the components below k
abbrev pub components_below : List Call → ℕ → List ComponentStats
components_below calls k = map (component_stats calls) (filter (has_update calls) (range_with_len 0 k))

below_more : (calls : List Call) (k : ℕ) → filter (has_update calls) (range_with_len 0 (k + 1)) ≡ filter (has_update calls) (range_with_len 0 k) ++ cond (has_update calls k) (k ∷ []) []
below_more calls k =
    let same = λ (n : ℕ). ap (filter (has_update calls)) (map-id (range_with_len 0 n)) in
    sym (same (k + 1)) ∙ filter_of_map_range_with_len_more (has_update calls) (λ x. x) 0 k k (omega arith) ∙ ap (λ z. z ++ cond (has_update calls k) (k ∷ []) []) (same k)

pub one_more : (calls : List Call) (k : ℕ) → has_update calls k ≡ true → components_below calls (k + 1) ≡ components_below calls k ++ component_stats calls k ∷ []
one_more calls k h =
    ap (map (component_stats calls)) (below_more calls k ∙ ap (λ b. filter (has_update calls) (range_with_len 0 k) ++ cond b (k ∷ []) []) h)
    ∙ map-append (component_stats calls) (filter (has_update calls) (range_with_len 0 k)) (k ∷ [])

pub none_more : (calls : List Call) (k : ℕ) → has_update calls k ≡ false → components_below calls (k + 1) ≡ components_below calls k
none_more calls k h =
    ap (map (component_stats calls)) (below_more calls k ∙ ap (λ b. filter (has_update calls) (range_with_len 0 k) ++ cond b (k ∷ []) []) h ∙ append-nil (filter (has_update calls) (range_with_len 0 k)))

range_all : (n : ℕ) → n ≡ component_count → range_with_len 0 n ≡ all_components
unfolding all_components
range_all n e = ap (range_with_len 0) e

pub all_below : (calls : List Call) (n : ℕ) → n ≡ component_count → components_below calls n ≡ components_of calls
unfolding components_of updated_components
all_below calls n e = ap (λ z. map (component_stats calls) (filter (has_update calls) z)) (range_all n e)

pub writer_found : (o : Option Call) (b : IndexedCall) → Some b ≡ option_map as_indexed o → b.process ≡ process_of_call o
writer_found None b h = absurd (cc h)
writer_found (Some d) b h = let e : b ≡ as_indexed d = cc in ap (λ (z : IndexedCall). z.process) e

pub no_writer : (o : Option Call) → None ≡ option_map as_indexed o → 0 ≡ process_of_call o
no_writer None h = refl
no_writer (Some d) h = absurd (cc h)

-- a component is pushed where it has updates
pub has_some : (calls : List Call) (k : ℕ) → 0 < count_by (is_update_of k) calls → has_update calls k ≡ true
has_some calls k l = lt-ltb 0 (count_by (is_update_of k) calls) l

pub has_none : (calls : List Call) (k : ℕ) → count_by (is_update_of k) calls ≤ 0 → has_update calls k ≡ false
has_none calls k l = le-ltb 0 (count_by (is_update_of k) calls) l

abbrev pub made : ℕ → ℕ → ℕ → ℕ → ComponentStats
made k writer updates views = record { component = k; writer = writer; updates = updates; views = views }

pub made_is : (calls : List Call) (k writer updates views : ℕ) → writer ≡ writer_of calls k → updates ≡ count_by (is_update_of k) calls → views ≡ count_by (shows_component k) (views_of calls) → made k writer updates views ≡ component_stats calls k
made_is calls k writer updates views w u v =
    ap (λ n. made k n updates views) w ∙ ap (λ n. made k (writer_of calls k) n views) u ∙ ap (made k (writer_of calls k) (count_by (is_update_of k) calls)) v

pub component_total : (calls : List Call) → length (components_of calls) ≡ length (updated_components calls)
unfolding components_of
component_total calls = length-map (updated_components calls) (component_stats calls)
