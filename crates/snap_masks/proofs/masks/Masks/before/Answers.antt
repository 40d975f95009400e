use Rattle.std.proofs.Common.{◌≡◌, ◌<◌, ◌+◌, ◌-◌, suc, length, get_or, refl, sym, ap, ◌∙◌, arith}
use Rattle.std.specs.Prelude.{true, nat_lt}
use Rattle.std.proofs.lemmas.Bool.{lt-ltb, le-ltb, eqb-false}
use Rattle.std.proofs.lemmas.List.{get_or_default}
use Rattle.snap_masks.specs.Masks.{mask_by}
use Rattle.snap_masks.proofs.Bits.{mask_none, mask_below_same, mask_places}
use Rattle.snap_masks.proofs.masks.Masks.before.Goals as goal

pub returns-then-x-self : goal.returns-then-x-self
returns-then-x-self c = rw (← c.self.view_is) (c.none.ensures ∙ sym (mask_none (λ n. nat_lt n c.args.x) c.self.inside.numbers.now (λ i l. le-ltb _ _ (omega (arith, (c.self.invariant.tabled.bounded i l).0, c.if-x-self.true)))))

pub returns-then-self-x : goal.returns-then-self-x
returns-then-self-x c =
    let numbers = c.self.inside.numbers.now in
    rw (← c.self.view_is) (c.copy.ensures ∙ c.self.invariant.whole ∙ mask_below_same (λ a. true) (λ a. nat_lt (get_or numbers a 0) c.args.x) (length numbers) (λ a l. sym (lt-ltb _ _ (omega (arith, (c.self.invariant.tabled.bounded a l).1, c.if-self-x.true))))
    ∙ sym (mask_places (λ n. nat_lt n c.args.x) numbers (length numbers) refl))

pub returns-else-is_empty : goal.returns-else-is_empty
returns-else-is_empty c =
    let me = c.self.inside in
    let some : 0 < length me.under.items = omega (arith, me.under.ok, eqb-false _ _ (sym c.is_empty.ensures ∙ c.if-is_empty.false)) in
    let within : c.args.x - me.bounds.least + 1 < length me.under.items = omega (arith, (c.self.invariant.tabled.long some).1, c.if-self-x.false, c.if-x-self.false) in
    let next : c.args.x - me.bounds.least + 1 ≡ suc (c.args.x - me.bounds.least) = omega arith in
    let place : me.bounds.least + (c.args.x - me.bounds.least) ≡ c.args.x = omega (arith, c.if-x-self.false) in
    rw (← c.self.view_is) (c.copy-else-is_empty.ensures ∙ c.index.ensures ∙ get_or_default me.under.items (c.args.x - me.bounds.least + 1) _ 0 within ∙ ap (λ p. get_or me.under.items p 0) next ∙ c.self.invariant.tabled.tabled (c.args.x - me.bounds.least) (omega (arith, within)) ∙ ap (λ z. mask_by (λ n. nat_lt n z) me.numbers.now) place)
