use Rattle.std.proofs.Common.{rules, ◌+◌, ◌≤◌, ℕ, List, get_or, min, refl, ap, subst, ◌∙◌, arith, Fits, w64}
use Rattle.snap_views.specs.Rows.{row_number}
use Rattle.snap_conditions.specs.Rows.{AreSums}
use Rattle.snap_views.proofs.Compared.{not_compared, compared_next, compared_small, are_whole}
use Rattle.snap_conditions.proofs.Compared.{both_seen, first_more, second_more}
use Rattle.snap_theory.proofs.Entries.{nothing}
use Rattle.snap_conditions.proofs.row.Row.compare.Goals as goal

fits : (n : ℕ) → n ≤ 2199023255551 → Fits w64 n
fits n l = search (rules, l)

pub loop-entry-init : goal.loop-entry-init
loop-entry-init c = (0, not_compared c.args.self.now c.args.other.now c.requires)

pub overflow_add-lesser : goal.overflow_add-lesser
overflow_add-lesser c =
    let small = compared_small c.args.self.now c.args.other.now c.loop-entry.entry-index c.loop-entry.invariant.0 c.loop-entry.lesser c.loop-entry.sum c.requires c.loop-entry.invariant.1 in
    let number = (c.requires.fit c.loop-entry.entry-index nothing c.loop-entry-test.true).1 in
    fits _ (omega (arith, c.from-lesser.ensures, c.min.ensures, number, small.0, small.1))

pub overflow_add-sum : goal.overflow_add-sum
overflow_add-sum c =
    let small = compared_small c.args.self.now c.args.other.now c.loop-entry.entry-index c.loop-entry.invariant.0 c.loop-entry.lesser c.loop-entry.sum c.requires c.loop-entry.invariant.1 in
    let number = (c.requires.fit c.loop-entry.entry-index nothing c.loop-entry-test.true).1 in
    fits _ (omega (arith, c.from-sum.ensures, number, small.1))

pub returns-then-lesser-self : goal.returns-then-lesser-self
returns-then-lesser-self c =
    let e = get_or c.args.other.now c.loop-entry.entry-index nothing in
    let lesser = ap (λ z. c.loop-entry.lesser + z) (c.from-lesser.ensures ∙ c.min.ensures ∙ ap (λ (n : List ℕ). min e.number (row_number n e.component)) c.self.view_is) in
    let sum = ap (λ z. c.loop-entry.sum + z) c.from-sum.ensures in
    let next = compared_next c.args.self.now c.args.other.now c.loop-entry.entry-index c.loop-entry.invariant.0 c.loop-entry.lesser c.loop-entry.sum _ _ c.requires c.loop-entry-test.true lesser sum c.loop-entry.invariant.1 in
    let sums = subst (λ n. AreSums n c.self.inside.sums) c.self.view_is c.self.invariant in
    let seen = both_seen c.args.self.now c.self.inside.sums c.args.other.now _ e.component _ _ sums (c.requires.fit c.loop-entry.entry-index nothing c.loop-entry-test.true).0 next c.if-lesser-sum.true c.if-lesser-self.true in
    record { first = (λ t. seen.0, λ m. refl); second = (λ t. seen.1, λ m. refl) }

pub loop-entry-preserved : goal.loop-entry-preserved
loop-entry-preserved c =
    let e = get_or c.args.other.now c.loop-entry.entry-index nothing in
    let lesser = ap (λ z. c.loop-entry.lesser + z) (c.from-lesser.ensures ∙ c.min.ensures ∙ ap (λ (n : List ℕ). min e.number (row_number n e.component)) c.self.view_is) in
    let sum = ap (λ z. c.loop-entry.sum + z) c.from-sum.ensures in
    (e.component + 1, compared_next c.args.self.now c.args.other.now c.loop-entry.entry-index c.loop-entry.invariant.0 c.loop-entry.lesser c.loop-entry.sum _ _ c.requires c.loop-entry-test.true lesser sum c.loop-entry.invariant.1)

pub returns-clause-first : goal.returns-clause-first
returns-clause-first c =
    let sums = subst (λ n. AreSums n c.self.inside.sums) c.self.view_is c.self.invariant in
    first_more c.args.self.now c.self.inside.sums c.args.other.now c.loop-entry.lesser c.loop-entry.sum sums
    (are_whole c.args.self.now c.args.other.now c.loop-entry.entry-index c.loop-entry.invariant.0 c.loop-entry.lesser c.loop-entry.sum c.loop-entry-test.false c.loop-entry.invariant.1)

pub returns-clause-second : goal.returns-clause-second
returns-clause-second c =
    second_more c.args.self.now c.args.other.now c.loop-entry.lesser c.loop-entry.sum
    (are_whole c.args.self.now c.args.other.now c.loop-entry.entry-index c.loop-entry.invariant.0 c.loop-entry.lesser c.loop-entry.sum c.loop-entry-test.false c.loop-entry.invariant.1)
