use Rattle.std.proofs.Common.{◌≡◌, ◌<◌, ◌+◌, ◌∙◌, ◌++◌, ◌∷◌, [], cond, Bool, true, false, ℕ, List, Some, None, length, map, refl, sym, ap, subst, vec_items, arith}
use Rattle.std.proofs.lemmas.List.{append-nil}
use Rattle.snap_core.specs.Calls.{Call, calls_of, call_numbered, nobody}
use Rattle.snap_core.proofs.Histories.{numbered_calls}
use Rattle.snap_theory.specs.Levels.{rank, is_printed}
use Rattle.snap_theory.specs.Keys.{key_of, rank_of}
use Rattle.snap_core.specs.Bounded.{IsBoundedOrdered}
use Rattle.snap_views.proofs.Sizes.{few_views}
use Rattle.snap_order.specs.inside.Blocks.{keys_between}
use Rattle.snap_order.proofs.Blocks.{none_between, one_more}
use Rattle.snap_order.proofs.Ranking.{word_fits}
use Rattle.snap_order.proofs.Searches.{view_of_number}
use Rattle.snap_order.proofs.levels.Levels.keys_between.Goals as goal
use Rattle.snap_order.proofs.levels.Levels.keys_between.Goals.{in-Some+in_ok-push, in_default}

ranked : (calls : List Call) (c : Call) (r : ℕ) → rank_of calls c ≡ Some r → (is_printed calls c ≡ true) × (rank calls c ≡ r)
ranked calls c r h = at (is_printed calls c) refl
  where
    at : (b : Bool) → is_printed calls c ≡ b → (is_printed calls c ≡ true) × (rank calls c ≡ r)
    at true e = let s : Some (rank calls c) ≡ Some r = sym (ap (λ z. cond z (Some (rank calls c)) None) e) ∙ h in let q : rank calls c ≡ r = cc in (e, q)
    at false e = absurd (let s : None ≡ Some r = sym (ap (λ z. cond z (Some (rank calls c)) None) e) ∙ h in cc)

unranked : (calls : List Call) (c : Call) → ((r : ℕ) → rank_of calls c ≡ Some r → ⊥) → is_printed calls c ≡ false
unranked calls c h = at (is_printed calls c) refl
  where
    at : (b : Bool) → is_printed calls c ≡ b → is_printed calls c ≡ false
    at true e = absurd (h (rank calls c) (ap (λ z. cond z (Some (rank calls c)) None) e))
    at false e = e

pub loop-number-preserved : goal.loop-number-preserved
loop-number-preserved g c =
    let es = c.args.self.now in
    let calls = calls_of es in
    let i = c.loop-number.number in
    let within : i < length calls = (let l = c.loop-number-test.true in let e = c.requires.calls in omega (arith, l, e)) in
    let made : vec_items c.match-rank.keys ≡ keys_between calls c.args.from (i + 1) = elim c.match-rank.branch [
      | in-Some+in_ok-push w ↦
          let r = ranked calls (call_numbered calls i) w.in-Some.rank (sym c.rank.ensures ∙ w.in-Some.is) in
          ap (λ z. z.items) w.keys-is ∙ w.in_ok-push.ensures.items ∙ ap (λ z. z ++ (w.in-Some.rank, i) ∷ []) c.loop-number.invariant.keys
          ∙ ap (λ z. keys_between calls c.args.from i ++ (z, i) ∷ []) (sym r.1) ∙ ap (λ z. keys_between calls c.args.from i ++ (rank calls (call_numbered calls i), z) ∷ []) (sym (numbered_calls es i nobody within))
          ∙ ap (λ z. keys_between calls c.args.from i ++ map (key_of calls) (cond z (call_numbered calls i ∷ []) [])) (sym r.0) ∙ sym (one_more calls c.args.from i c.loop-number.invariant.low within)
      | in_default w ↦
          let none = unranked calls (call_numbered calls i) (λ r h. w.in_default.not-Some r (c.rank.ensures ∙ h)) in
          ap (λ z. z.items) w.keys-is ∙ c.loop-number.invariant.keys ∙ sym (append-nil (keys_between calls c.args.from i))
          ∙ ap (λ z. keys_between calls c.args.from i ++ map (key_of calls) (cond z (call_numbered calls i ∷ []) [])) (sym none) ∙ sym (one_more calls c.args.from i c.loop-number.invariant.low within)
    ] in
    record { low = omega (arith, c.loop-number.invariant.low); high = omega (arith, c.loop-number-test.true); keys = made }

pub overflow_add-views : goal.overflow_add-views
overflow_add-views g c =
    let es = c.args.self.now in
    let within = (view_of_number es c.loop-number.views c.loop-number.number (c.is_view_at.ensures.0 c.if-is_view_at.true)).0 in
    word_fits (c.loop-number.views + 1) (omega (arith, within, few_views es (subst IsBoundedOrdered c.self.view_is c.self.invariant.kept)))

pub loop-number-init : goal.loop-number-init
loop-number-init g c = record { low = omega arith; high = c.requires.order; keys = c.in_ok-keys.ensures.items ∙ sym (none_between (calls_of c.args.self.now) c.args.from) }

pub returns : goal.returns
returns g c =
    let end : c.loop-number.number ≡ c.args.to = omega (arith, c.loop-number.invariant.high, c.loop-number-test.false) in
    c.loop-number.invariant.keys ∙ ap (keys_between (calls_of c.args.self.now) c.args.from) end
