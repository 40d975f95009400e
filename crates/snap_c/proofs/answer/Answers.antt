use Rattle.std.proofs.Common.{Option, refl, inl, inr, arith, subst}
use Rattle.snap_c.specs.Questions.{IsAnswer}
use Rattle.snap_check.specs.declared.status.Status.{Status}
use Rattle.snap_c.proofs.answer.Goals as goal

-- by these answers a wrong body is refused at once, without a search

pub returns-then-needed-out : goal.returns-then-needed-out
returns-then-needed-out c =
    inr (inl (record {
      status = c.in-Ok-Some-default.status;
      out = c.in-Ok-Some-default.answer.items;
      is = subst (λ (answered : Option Status). IsAnswer c.args.asked c.args.limit c.args.text.now answered c.in-Ok-Some-default.answer.items)
          c.in-Ok-Some-default.field-0-0-is c.in-Ok-Some-default.ensures;
      answers = refl;
      needs = omega (arith, c.len-needed.ensures);
      too_long = omega (arith, c.len-needed.ensures, c.if-needed-out.true);
      writes = refl;
    }))

pub returns-in-Err : goal.returns-in-Err
returns-in-Err c = inr (inr (inl (record { answers = refl; needs = refl; writes = refl })))
