use Rattle.std.proofs.Common.{inl, inr, refl, subst, sym}
use Rattle.snap_c.specs.Answers.{IsAnsweredFor, IsAnsweredTo}
use Rattle.snap_c.proofs.answer_within.Goals as goal

pub returns-in_default : goal.returns-in_default
unfolding IsAnsweredFor
returns-in_default c = inr (c.in_default.ensures.none, record { answers = refl; needs = refl; writes = refl })

pub returns-in-Some-asked : goal.returns-in-Some-asked
unfolding IsAnsweredFor
returns-in-Some-asked c =
    let limit = c.in-Some.limit in
    let answered = subst (λ asked. IsAnsweredTo limit asked c.args.text.now c.args.out.now c.answer.new.out c.answer.new.length c.answer.result) (sym c.in-Some-asked.is) c.answer.ensures in
    inl (limit, c.in-Some.ensures.some, answered)

pub returns-in-None : goal.returns-in-None
unfolding IsAnsweredFor
returns-in-None c =
    let limit = c.in-Some.limit in
    let answered = subst (λ asked. IsAnsweredTo limit asked c.args.text.now c.args.out.now c.args.out.now 0 7) (sym c.in-None.is) (record { answers = refl; needs = refl; writes = refl }) in
    inl (limit, c.in-Some.ensures.some, answered)
