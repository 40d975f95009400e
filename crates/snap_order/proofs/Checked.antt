-- What one turn of the check of an order does.
use Rattle.std.proofs.Common.{cond, ◌≡◌, ◌<◌, ℕ, Bool, false, List, length, length-set, get_or, set, get_or-set_same, get_or-set_other, slice_get, Option, Some, None, refl, sym, ap, ◌∙◌, inl, inr, arith}
use Rattle.std.specs.Option.{option_map}
use Rattle.std.proofs.lemmas.Bool.{cases_eq, eq-eqb, ne_eqb}
use Rattle.std.proofs.lemmas.List.{get_or_default}
use Rattle.std.proofs.lemmas.Option.{slice_get_within}
use Rattle.snap_core.specs.declared.entry.Entry.{Entry}
use Rattle.snap_core.specs.declared.event.Event.{Event}
use Rattle.snap_core.specs.Entries.{component_count}
use Rattle.snap_core.specs.Bounded.{IsBoundedOrdered}
use Rattle.snap_core.specs.Calls.{Call, Operation, Updates, Views, calls_of, call_numbered}
use Rattle.snap_core.specs.Orders.{written_by}
use Rattle.snap_core.proofs.Fits.{bytes_of_events}
use Rattle.snap_core.proofs.Histories.{byte_components}
use Rattle.snap_theory.proofs.Components.{byte_views}
use Rattle.snap_index.specs.IndexedCalls.{as_indexed, indexed_op}
use Rattle.snap_index.specs.declared.call.Call.{Call as IndexedCall}
use Rattle.snap_index.specs.declared.call.CallOp.TheVariants.{Update}
use Rattle.snap_index.proofs.IndexedCalls.{numbered_there, mapped_some, update_from}
use Rattle.snap_order.proofs.State.{AreBytes}

pub bytes_of : (es : List Event) → IsBoundedOrdered es → AreBytes (calls_of es)
bytes_of es k = let b = bytes_of_events es k.fit in record { updates = byte_components es b; views = byte_views es b }

-- what was found stands within the list
pub within : {X Y : Type 0} (f : X → Y) (xs : List X) (place : ℕ) (y : Y) → Some y ≡ option_map f (slice_get xs place) → place < length xs
within f xs place y h = let m = mapped_some f (slice_get xs place) y (sym h) in slice_get_within xs place m.from m.is

-- what was read of a list in range, at the default false
pub read_false : (xs : List Bool) (n : ℕ) (b : Bool) → n < length xs → b ≡ get_or xs n b → get_or xs n false ≡ b
read_false xs n b l e = get_or_default xs n false b l ∙ sym e

abbrev pub Puts : Call → List (Option Entry) → List (Option Entry) → Type 0
Puts c last after = (length after ≡ length last) × ((k : ℕ) → k < component_count → get_or after k None ≡ written_by c.operation k (get_or last k None))

pub puts_update : (calls : List Call) (n : ℕ) (x : IndexedCall) (e : Entry) (last after : List (Option Entry)) → x ≡ as_indexed (call_numbered calls n) → x.op ≡ Update e → AreBytes calls → n < length calls → length last ≡ component_count → after ≡ set last e.component (Some e) → Puts (call_numbered calls n) last after
puts_update calls n x e last after is o b l size put = (
  ap length put ∙ length-set last e.component (Some e),
  λ k small. ap (λ z. get_or z k None) put ∙ at k ∙ ap (λ z. written_by z k (get_or last k None)) (sym w),
)
  where
    w : (call_numbered calls n).operation ≡ Updates e
    w = update_from (call_numbered calls n).operation e (sym (ap (λ (z : IndexedCall). z.op) is) ∙ o)

    byte : e.component < component_count
    byte = b.updates (call_numbered calls n) e (record { there = numbered_there calls n l; writes = w })

    at : (k : ℕ) → get_or (set last e.component (Some e)) k None ≡ written_by (Updates e) k (get_or last k None)
    at k = elim (cases_eq e.component k) [
      | inl q ↦ ap (λ z. get_or (set last e.component (Some e)) z None) (sym q) ∙ get_or-set_same last e.component (Some e) None (omega (arith, byte, size)) ∙ ap (λ z. cond z (Some e) (get_or last k None)) (sym (eq-eqb e.component k q))
      | inr q ↦ get_or-set_other last e.component k (Some e) None (λ z. q (sym z)) ∙ ap (λ z. cond z (Some e) (get_or last k None)) (sym (ne_eqb e.component k q))
    ]

pub puts_nothing : (calls : List Call) (n : ℕ) (x : IndexedCall) (last after : List (Option Entry)) → x ≡ as_indexed (call_numbered calls n) → ((e : Entry) → x.op ≡ Update e → ⊥) → after ≡ last → Puts (call_numbered calls n) last after
puts_nothing calls n x last after is none put = (ap length put, λ k small. ap (λ z. get_or z k None) put ∙ at k (call_numbered calls n).operation refl)
  where
    at : (k : ℕ) (o : Operation) → (call_numbered calls n).operation ≡ o → get_or last k None ≡ written_by (call_numbered calls n).operation k (get_or last k None)
    at k (Updates e) w = absurd (none e (ap (λ (z : IndexedCall). z.op) is ∙ ap indexed_op w))
    at k (Views a) w = ap (λ z. written_by z k (get_or last k None)) (sym w)
