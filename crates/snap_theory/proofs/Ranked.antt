-- Numbered calls, once they are cut: the updates of each component begin and end in the order of their ranks.
use Rattle.std.proofs.Common.{◌≡◌, ◌≢◌, ℕ, suc, ◌<◌, cond, List, [], ◌∷◌, map, refl, sym, ap, ◌∙◌, arith}
use Rattle.snap_core.specs.declared.entry.Entry.{Entry}
use Rattle.snap_core.specs.declared.event.Event.{Event}
use Rattle.snap_core.specs.Calls.{Call, calls_of}
use Rattle.snap_core.specs.Refusals.{writes_below}
use Rattle.snap_core.specs.Regular.{IsUpdateOf}
use Rattle.snap_core.proofs.Histories.{numbered_part}
use Rattle.snap_core.proofs.Lists.{In-from_Contains, Contains-from_In, Pairs, Pairs-filter, Pairs-weaker, count-cons, count_le}
use Rattle.snap_core.proofs.Members.{In-from_map, Pairs-map}
use Rattle.snap_theory.specs.Intervals.{AreVersions, cut, cut_calls}
use Rattle.snap_theory.specs.Versioned.{AreVersioned, counted, counted_calls, counted_entry, counted_operation, kept_calls, numbered_calls, stays_as}
use Rattle.snap_theory.proofs.Counted.{below, below_from, below_to, rank, ranks_rise, update_was, versions_rise}
use Rattle.snap_theory.proofs.CutCalls.{cut_in_order, same_number, same_operation}
use Rattle.snap_theory.proofs.Matched.{count-map}
use Rattle.snap_theory.proofs.Numbered.{numbered_versions}
use Rattle.snap_theory.proofs.OrderTold.{AreRanked}

-- a rank counts the ranks below it
ranks_count : (calls : List Call) (c : Call) (e : Entry) → IsUpdateOf (counted_calls calls) c e → e.number ≡ suc (below (counted_calls calls) e)
ranks_count calls c e u =
    let o = In-from_map (counted calls) calls c (In-from_Contains _ _ u.there) in
    let x = update_was calls o.it e (ap (λ (z : Call). z.operation) o.is ∙ u.writes) in
    let ux : IsUpdateOf calls o.it x.entry = record { there = Contains-from_In _ _ o.there; writes = x.writes } in
    let component : x.entry.component ≡ e.component = ap (λ (z : Entry). z.component) x.is in
    let number = ap (λ (z : Entry). z.number) x.is in
    let up = count_le (λ c. writes_below c.operation x.entry) (λ c. writes_below (counted calls c).operation e) calls (λ c i t.
    let w = below_to c.operation x.entry t in
    let less = ranks_rise calls c o.it w.entry x.entry (record { there = Contains-from_In _ _ i; writes = w.writes }) ux w.component w.number in
    below_from (counted calls c).operation e (record { entry = counted_entry calls w.entry; writes = ap (counted_operation calls) w.writes; component = w.component ∙ component; number = omega (arith, less, number) })) in
    let down = count_le (λ c. writes_below (counted calls c).operation e) (λ c. writes_below c.operation x.entry) calls (λ c i t.
    let w = below_to (counted calls c).operation e t in
    let z = update_was calls c w.entry w.writes in
    let same : z.entry.component ≡ x.entry.component = ap (λ (z : Entry). z.component) z.is ∙ w.component ∙ sym component in
    let l = w.number in
    let less = versions_rise calls c o.it z.entry x.entry (record { there = Contains-from_In _ _ i; writes = z.writes }) ux same (omega (arith, l, number, ap (λ (z : Entry). z.number) z.is)) in
    below_from c.operation x.entry (record { entry = z.entry; writes = z.writes; component = same; number = less })) in
    omega (arith, number, rank calls o.it x.entry ux, up, down, count-map (λ c. writes_below c.operation e) (counted calls) calls)

-- a cut keeps what is below
below_kept : (calls : List Call) (e : Entry) (xs : List Call) → below (map (cut calls) xs) e ≡ below xs e
below_kept calls e [] = refl
below_kept calls e (x ∷ xs) =
    let one : cond (writes_below (cut calls x).operation e) 1 0 ≡ cond (writes_below x.operation e) 1 0 = ap {B = ℕ} (λ o. cond (writes_below o e) 1 0) (same_operation calls x) in
    omega (arith, one, below_kept calls e xs, count-cons (λ c. writes_below c.operation e) (cut calls x) (map (cut calls) xs), count-cons (λ c. writes_below c.operation e) x xs)

-- an update that is cut
record CutUpdate (calls : List Call) (c : Call) (e : Entry) : Type 0 where
  call : Call
  update : IsUpdateOf calls call e
  is : cut calls call ≡ c

cut_was : (calls : List Call) (c : Call) (e : Entry) → IsUpdateOf (cut_calls calls) c e → CutUpdate calls c e
cut_was calls c e u =
    let o = In-from_map (cut calls) calls c (In-from_Contains _ _ u.there) in
    record { call = o.it; update = record { there = Contains-from_In _ _ o.there; writes = sym (same_operation calls o.it) ∙ ap (λ (z : Call). z.operation) o.is ∙ u.writes }; is = o.is }

abbrev IsFirst : Call → Call → Type 0
IsFirst a b = a.number < b.number

cut_apart : (calls : List Call) → Pairs IsFirst calls → Pairs (λ a b. a ≢ b) (cut_calls calls)
cut_apart calls p =
    let rise = Pairs-map IsFirst (cut calls) calls (Pairs-weaker IsFirst (λ a b. IsFirst (cut calls a) (cut calls b)) calls (λ a b i j h. omega (arith, h, same_number calls a, same_number calls b)) p) in
    Pairs-weaker IsFirst (λ a b. a ≢ b) (cut_calls calls) (λ a b i j h q. omega (arith, h, ap (λ (z : Call). z.number) q)) rise

numbers_rise : (events : List Event) → Pairs IsFirst (numbered_calls (calls_of events))
numbers_rise events = Pairs-map IsFirst (counted (kept_calls (calls_of events))) (kept_calls (calls_of events)) (Pairs-filter IsFirst (λ c. stays_as (calls_of events) c.ended c.operation) (calls_of events) (numbered_part events))

pub cut_ranked : (events : List Event) → AreVersioned (calls_of events) → AreRanked (cut_calls (numbered_calls (calls_of events)))
cut_ranked events versioned = record {
  distinct = cut_apart calls (numbers_rise events);
  alone = λ a b d e u w same n.
      let x = cut_was calls a d u in
      let y = cut_was calls b e w in
      sym x.is ∙ ap (cut calls) (versions.alone x.call y.call d e x.update y.update same n) ∙ y.is;
  begins = λ a b d e u w same less.
      let x = cut_was calls a d u in
      let y = cut_was calls b e w in
      let l = (cut_in_order calls x.call y.call d e x.update y.update same (omega (arith, less))).0 in
      omega (arith, l, ap (λ (z : Call). z.begun) x.is, ap (λ (z : Call). z.begun) y.is);
  ends = λ a b d e place u w same less end.
      let x = cut_was calls a d u in
      let y = cut_was calls b e w in
      let l = (cut_in_order calls x.call y.call d e x.update y.update same (omega (arith, less))).1 place (ap (λ (z : Call). z.ended) y.is ∙ end) in
      (l.0, ap (λ (z : Call). z.ended) (sym x.is) ∙ l.1, l.2);
  counted = λ c e u.
      let x = cut_was calls c e u in
      ranks_count (kept_calls (calls_of events)) x.call e x.update ∙ ap suc (sym (below_kept calls e calls));
}
  where
    calls : List Call
    calls = numbered_calls (calls_of events)

    versions : AreVersions calls
    versions = numbered_versions (calls_of events) versioned
