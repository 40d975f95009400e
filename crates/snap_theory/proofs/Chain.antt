-- Where the conditions hold, the views form a chain, and levels respect precedence.
use Rattle.std.proofs.Common.{◌≡◌, ℕ, ◌<◌, ◌≤◌, true, false, not, ◌&&◌, List, inr, arith}
use Rattle.std.specs.Prelude.{nat_lt}
use Rattle.std.proofs.lemmas.Bool.{ltb-true, lt-ltb, and_parts, and_from, not-true, not_from_false, and_left, and_right}
use Rattle.snap_core.specs.declared.entry.Entry.{Entry}
use Rattle.snap_core.specs.Calls.{Call, is_view, shown_number}
use Rattle.snap_core.specs.Regular.{IsViewOf}
use Rattle.snap_theory.specs.Conditions.{MeetsConditions}
use Rattle.snap_theory.specs.Faults.{exceeds}
use Rattle.snap_theory.specs.Levels.{update_level, view_level}
use Rattle.snap_core.proofs.Lists.{In, In-from_Contains, Contains-from_In, count_le, count_lt}
use Rattle.snap_theory.proofs.Exceeding.{exceeds_from, exceeds_to, exceeds_not, not_exceeds}

-- of two views one shows no more than the other
pub chain : (calls : List Call) → MeetsConditions calls → (r s : Call) → IsViewOf calls r → IsViewOf calls s → exceeds r s ≡ true → exceeds s r ≡ false
chain calls m r s v w h =
    let x = exceeds_to r s h in
    not_exceeds s r (m.read s r w v (inr (x.component, x.more)))

view_of : (calls : List Call) (t : Call) → In t calls → is_view t ≡ true → IsViewOf calls t
view_of calls t i h = record { there = Contains-from_In calls t i; completed = h }

pub view_view_levels : (calls : List Call) → (r s : Call) → ((k : ℕ) → shown_number r k ≤ shown_number s k) → view_level calls r ≤ view_level calls s
unfolding view_level
view_view_levels calls r s le = count_le _ _ calls step
  where
    step : (t : Call) → In t calls → (is_view t && (exceeds r t && not (exceeds t r))) ≡ true → (is_view t && (exceeds s t && not (exceeds t s))) ≡ true
    step t i h =
        let p = and_parts (is_view t) (exceeds r t && not (exceeds t r)) h in
        let q = and_parts (exceeds r t) (not (exceeds t r)) p.1 in
        let x = exceeds_to r t q.0 in
        let up : exceeds s t ≡ true = exceeds_from s t x.component (omega (arith, x.more, le x.component)) in
        let down : exceeds t s ≡ false = not_exceeds t s (λ k. omega (arith, exceeds_not t r k (not-true _ q.1), le k)) in
        and_from _ _ p.0 (and_from _ _ up (not_from_false _ down))

pub view_update_levels : (calls : List Call) → (r : Call) (e : Entry) → IsViewOf calls r → shown_number r e.component < e.number → view_level calls r < update_level calls e
unfolding view_level update_level
view_update_levels calls r e v l = count_lt _ _ calls step r (In-from_Contains calls r v.there) self_no self_yes
  where
    step : (t : Call) → In t calls → (is_view t && (exceeds r t && not (exceeds t r))) ≡ true → (is_view t && nat_lt (shown_number t e.component) e.number) ≡ true
    step t i h =
        let p = and_parts (is_view t) (exceeds r t && not (exceeds t r)) h in
        let q = and_parts (exceeds r t) (not (exceeds t r)) p.1 in
        and_from _ _ p.0 (lt-ltb _ _ (omega (arith, exceeds_not t r e.component (not-true _ q.1))))

    self_no : (is_view r && (exceeds r r && not (exceeds r r))) ≡ false
    self_no = and_right _ _ (and_left _ _ (not_exceeds r r (λ k. omega arith)))

    self_yes : (is_view r && nat_lt (shown_number r e.component) e.number) ≡ true
    self_yes = and_from _ _ v.completed (lt-ltb _ _ l)

pub update_view_levels : (calls : List Call) → MeetsConditions calls → (r : Call) (e : Entry) → IsViewOf calls r → e.number ≤ shown_number r e.component → update_level calls e ≤ view_level calls r
unfolding view_level update_level
update_view_levels calls m r e v l = count_le _ _ calls step
  where
    step : (t : Call) → In t calls → (is_view t && nat_lt (shown_number t e.component) e.number) ≡ true → (is_view t && (exceeds r t && not (exceeds t r))) ≡ true
    step t i h =
        let p = and_parts (is_view t) (nat_lt (shown_number t e.component) e.number) h in
        let below : shown_number t e.component < e.number = ltb-true _ _ p.1 in
        let up : exceeds r t ≡ true = exceeds_from r t e.component (omega arith) in
        and_from _ _ p.0 (and_from _ _ up (not_from_false _ (chain calls m r t v (view_of calls t i p.0) up)))

pub update_update_levels : (calls : List Call) → (d e : Entry) → ((t : Call) → IsViewOf calls t → e.number ≤ shown_number t e.component → d.number ≤ shown_number t d.component) → update_level calls d ≤ update_level calls e
unfolding update_level
update_update_levels calls d e h = count_le _ _ calls step
  where
    step : (t : Call) → In t calls → (is_view t && nat_lt (shown_number t d.component) d.number) ≡ true → (is_view t && nat_lt (shown_number t e.component) e.number) ≡ true
    step t i g =
        let p = and_parts (is_view t) (nat_lt (shown_number t d.component) d.number) g in
        let below : shown_number t d.component < d.number = ltb-true _ _ p.1 in
        let no : ¬ (e.number ≤ shown_number t e.component) = λ le. omega (arith, below, h t (view_of calls t i p.0) le) in
        and_from _ _ p.0 (lt-ltb _ _ (omega (arith, no)))
