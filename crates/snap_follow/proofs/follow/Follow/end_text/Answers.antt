use Rattle.std.proofs.Common.{◌∙◌, inl, inr, refl, sym}
use Rattle.std.proofs.lemmas.Bool.{false≢true}
use Rattle.snap_follow.proofs.Reading.{text_ended}
use Rattle.snap_follow.proofs.follow.Follow.end_text.Goals as goal

pub returns-clause-ended : goal.returns-clause-ended
returns-clause-ended c = text_ended c.args.self.now _ c.if-not-self.false refl refl refl refl (refl, refl, refl, refl) c.saturating_add.ensures refl

pub returns-then-not-self-clause-refused : goal.returns-then-not-self-clause-refused
returns-then-not-self-clause-refused c = λ least most texts lines events h.
    elim h.lines_say [
      | inl says ↦ says.1
      | inr says ↦ absurd (false≢true (sym c.if-not-self.true ∙ says.0))
    ]
