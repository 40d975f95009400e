use Rattle.std.proofs.Common.{◌≡◌, ◌∙◌, ◌<◌, inl, inr, sym, arith, nat_eq, ◌&&◌}
use Rattle.std.proofs.lemmas.Bool.{and_parts, and_from, eqb-true, eq-eqb, ltb-true}
use Rattle.snap_windows.proofs.Shown.{shown_is, shown_as}
use Rattle.snap_windows.proofs.missed.shows.Goals as goal

pub returns-then-number-gt0 : goal.returns-then-number-gt0
returns-then-number-gt0 c =
    let e = c.args.entry in
    let k = c.args.component in
    let es = c.args.view.now in
    let n = c.number-number.result in
    let v = c.value.result in (
      λ t.
          let p = and_parts (nat_eq e.component k) (nat_eq e.number n && nat_eq e.value v) (sym c.eq.ensures ∙ t) in
          let q = and_parts (nat_eq e.number n) (nat_eq e.value v) p.1 in
          let number : e.number ≡ n = eqb-true _ _ q.0 in
          inl (shown_is es k e (eqb-true _ _ p.0) (omega (arith, number, c.if-number-gt0.true)) (sym c.number-number.ensures ∙ sym number) (sym c.value.ensures ∙ sym (eqb-true _ _ q.1))),
      λ s. elim s [
        | inl is ↦ (
            let w = shown_as es k e c.entries-entries.ensures.view is in
            c.eq.ensures ∙ and_from _ _ (eq-eqb _ _ w.component) (and_from _ _ (eq-eqb _ _ (sym (c.number-number.ensures ∙ w.number))) (eq-eqb _ _ (sym (c.value.ensures ∙ w.value)))))
        | inr l ↦ absurd (omega (arith, l, c.number-number.ensures, c.if-number-entry.false))
      ],
    )

pub returns-else-number-gt0 : goal.returns-else-number-gt0
returns-else-number-gt0 c = (
  λ t. absurd (let l : 0 < c.number-number.result = ltb-true _ _ t in omega (arith, l, c.if-number-gt0.false)),
  λ s. elim s [
    | inl is ↦ (let w = shown_as c.args.view.now c.args.component c.args.entry c.entries-entries.ensures.view is in absurd (omega (arith, w.number, w.positive, c.number-number.ensures, c.if-number-gt0.false)))
    | inr l ↦ absurd (omega (arith, l, c.number-number.ensures, c.if-number-entry.false))
  ],
)
