use Rattle.std.proofs.Common.{◌≡◌, ◌∙◌, ◌++◌, List, Option, ℕ, map, sym, ap, subst}
use Rattle.std.specs.List.{AllPairs, filter, flat_map}
use Rattle.std.specs.Prelude.{not}
use Rattle.std.specs.List.Sorted.{IsPermutation}
use Rattle.std.proofs.lemmas.List.Sorted.{IsPermutation-map}
use Rattle.snap_core.specs.Calls.{Call}
use Rattle.snap_core.specs.Orders.{is_update}
use Rattle.snap_theory.specs.Versioned.{AreVersioned}
use Rattle.snap_versions.specs.declared.moments.Ranked.{Ranked}
use Rattle.snap_versions.specs.inside.RankedMoments.{ranked_of, ranked_whole}
use Rattle.snap_versions.specs.declared.update.Update.{Update}
use Rattle.snap_versions.specs.Rows.{call_of}
use Rattle.snap_versions.specs.inside.Contradictions.{HasEndBefore, HasNoEndBefore}
use Rattle.snap_versions.specs.inside.Updates.{update_call, update_calls, AreSorted, IsNoLaterVersion, begin_among, end_among}
use Rattle.snap_versions.proofs.Shared.{share, still_versioned}
use Rattle.snap_versions.proofs.Contradictions.{contradicted, agree}
use Rattle.snap_versions.proofs.Told.{told}
use Rattle.snap_versions.proofs.cut.cut_rows.Goals as goal

-- the updates sorted by version are those of the calls
sorted_updates : (calls : List Call) (given sorted : List Update) → update_calls given ≡ filter is_update calls → IsPermutation given sorted → IsPermutation (filter is_update calls) (update_calls sorted)
sorted_updates calls given sorted is p = subst (λ (z : List Call). IsPermutation z (update_calls sorted)) is (IsPermutation-map update_call given sorted p)

ready : (calls : List Call) → AreVersioned calls → (given sorted now : List Update) → update_calls given ≡ filter is_update calls → IsPermutation given sorted → AllPairs IsNoLaterVersion sorted → now ≡ sorted → AreSorted now
ready calls v given sorted now is p up same =
    subst AreSorted (sym same) (record { sorted = up; versioned = still_versioned calls (update_calls sorted) (share calls (update_calls sorted) (sorted_updates calls given sorted is p)) v })

abbrev begins_of : List Update → List ℕ
begins_of updates = map (begin_among updates) updates

abbrev ends_of : List Update → List (Option ℕ)
ends_of updates = map (end_among updates) updates

pub latest_begins-requires : goal.latest_begins-requires
latest_begins-requires c =
    ready (map call_of c.args.rows.items) c.requires.versioned c.in_ok-updates.updates.items c.sort_by_version.new.updates.items c.deref.result.now
    c.in_ok-updates.ensures.updates c.sort_by_version.ensures.same c.sort_by_version.ensures.sorted c.deref.ensures.value

pub earliest_ends-requires : goal.earliest_ends-requires
earliest_ends-requires c =
    ready (map call_of c.args.rows.items) c.requires.versioned c.in_ok-updates.updates.items c.sort_by_version.new.updates.items c.deref-2.result.now
    c.in_ok-updates.ensures.updates c.sort_by_version.ensures.same c.sort_by_version.ensures.sorted c.deref-2.ensures.value

pub returns-in-Some : goal.returns-in-Some
returns-in-Some c =
    let calls = map call_of c.args.rows.items in
    let sorted = c.sort_by_version.new.updates.items in
    let p = sorted_updates calls c.in_ok-updates.updates.items sorted c.in_ok-updates.ensures.updates c.sort_by_version.ensures.same in
    let begins : c.deref-3.result.now ≡ begins_of sorted = c.deref-3.ensures.value ∙ c.in_ok-begins.ensures ∙ ap begins_of c.deref.ensures.value in
    let ends : c.deref-4.result.now ≡ ends_of sorted = c.deref-4.ensures.value ∙ c.in_ok-ends.ensures ∙ ap ends_of c.deref-2.ensures.value in
    contradicted calls c.requires.versioned c.requires.placed sorted (share calls (update_calls sorted) p) c.in-Some.ended c.in-Some.begun
    (subst (λ (z : List (Option ℕ)). HasEndBefore (begins_of sorted) z c.in-Some.ended c.in-Some.begun) ends
    (subst (λ (z : List ℕ). HasEndBefore z c.deref-4.result.now c.in-Some.ended c.in-Some.begun) begins c.in-Some.ensures))

pub returns : goal.returns
returns c =
    let calls = map call_of c.args.rows.items in
    let sorted = c.sort_by_version.new.updates.items in
    let p = sorted_updates calls c.in_ok-updates.updates.items sorted c.in_ok-updates.ensures.updates c.sort_by_version.ensures.same in
    let begins : c.deref-3.result.now ≡ begins_of sorted = c.deref-3.ensures.value ∙ c.in_ok-begins.ensures ∙ ap begins_of c.deref.ensures.value in
    let ends : c.deref-4.result.now ≡ ends_of sorted = c.deref-4.ensures.value ∙ c.in_ok-ends.ensures ∙ ap ends_of c.deref-2.ensures.value in
    let agreed = agree calls sorted (share calls (update_calls sorted) p)
    (subst (λ (z : List (Option ℕ)). HasNoEndBefore (begins_of sorted) z) ends (subst (λ (z : List ℕ). HasNoEndBefore z c.deref-4.result.now) begins c.in_default.ensures)) in
    let given : c.push_updates.new.moments.items ≡ flat_map ranked_whole (filter (λ x. not (is_update x)) calls) ++ flat_map (ranked_of (update_calls sorted)) (update_calls sorted) =
    c.in_ok-push_updates.ensures ∙ ap (λ (z : List Ranked). z ++ flat_map (ranked_of (update_calls c.deref-5.result.now)) (update_calls c.deref-5.result.now)) c.in_ok-updates.ensures.views
    ∙ ap (λ (z : List Update). flat_map ranked_whole (filter (λ x. not (is_update x)) calls) ++ flat_map (ranked_of (update_calls z)) (update_calls z)) c.deref-5.ensures.value in
    told calls c.requires.versioned c.requires.placed sorted p agreed c.push_updates.new.moments.items given c.in_ok-in_order.field-0.items c.in_ok-in_order.ensures
