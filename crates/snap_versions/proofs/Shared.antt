-- Lists of calls with the same updates have the same latest begins and earliest ends.
use Rattle.std.proofs.Common.{◌≡◌, List, arith}
use Rattle.std.specs.List.{filter}
use Rattle.std.specs.List.Sorted.{IsPermutation}
use Rattle.std.proofs.lemmas.List.Sorted.{IsPermutation-sym}
use Rattle.snap_core.specs.declared.entry.Entry.{Entry}
use Rattle.snap_core.specs.Calls.{Call, Updates}
use Rattle.snap_core.specs.Orders.{is_update}
use Rattle.snap_core.specs.Regular.{IsUpdateOf}
use Rattle.snap_core.proofs.Lists.{In, In-from_Contains, Contains-from_In, In-filter, In-from_filter}
use Rattle.snap_theory.specs.Intervals.{latest_begin, earliest_end}
use Rattle.snap_theory.specs.Versioned.{AreVersioned}
use Rattle.snap_theory.proofs.Intervals.{begins_by, latest, ends_by, earliest}
use Rattle.snap_theory.proofs.CutCalls.{own_up}
use Rattle.snap_versions.proofs.Earliest.{same_ends}
use Rattle.snap_versions.proofs.Gathered.{In-permutation}
use Rattle.snap_versions.proofs.Splitting.{is_update_of}

-- the updates of the calls are those of others, and these are among the calls
pub record ShareUpdates (calls others : List Call) : Type 0 where
  pub forth : (c : Call) (e : Entry) → c.operation ≡ Updates e → In c calls → In c others
  pub back : (c : Call) → In c others → In c calls

pub share : (calls others : List Call) → IsPermutation (filter is_update calls) others → ShareUpdates calls others
share calls others p = record {
  forth = λ c e w i. In-permutation _ others c p (In-filter is_update calls c i (is_update_of c e w));
  back = λ c i. (In-from_filter is_update calls c (In-permutation others _ c (IsPermutation-sym _ others p) i)).0;
}

-- two of them still have two versions
pub still_versioned : (calls others : List Call) → ShareUpdates calls others → AreVersioned calls → AreVersioned others
still_versioned calls others s v a b d e i j = v a b d e (among a d i) (among b e j)
  where
    among : (c : Call) (x : Entry) → IsUpdateOf others c x → IsUpdateOf calls c x
    among c x k = record { there = Contains-from_In calls c (s.back c (In-from_Contains others c k.there)); writes = k.writes }

pub same_latest : (calls others : List Call) → ShareUpdates calls others → (c : Call) (e : Entry) → In c others → c.operation ≡ Updates e → latest_begin others e ≡ latest_begin calls e
same_latest calls others s c e i w =
    let here = latest others e c i (own_up c e w) in
    let there = latest calls e c (s.back c i) (own_up c e w) in
    let low = begins_by calls e here.call (s.back here.call here.there) here.is in
    let high = begins_by others e there.call (s.forth there.call there.is.entry there.is.writes there.there) there.is in
    let h = here.begun in
    let t = there.begun in
    omega (arith, low, high, h, t)

pub same_earliest : (calls others : List Call) → ShareUpdates calls others → (e : Entry) → earliest_end others e ≡ earliest_end calls e
same_earliest calls others s e = same_ends _ _
    (λ place is. let n = earliest others e place is in ends_by calls e n.call place (s.back n.call n.there) n.is n.ended)
    (λ place is. let n = earliest calls e place is in ends_by others e n.call place (s.forth n.call n.is.entry n.is.writes n.there) n.is n.ended)
