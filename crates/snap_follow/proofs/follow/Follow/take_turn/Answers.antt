use Rattle.std.proofs.Common.{◌∙◌, arith, inl, inr, refl, sym}
use Rattle.std.proofs.lemmas.Bool.{false≢true}
use Rattle.snap_follow.proofs.Rising.{waits_more, waits_same}
use Rattle.snap_follow.proofs.follow.Follow.take_turn.Goals as goal

pub returns-in_ok-take_waiting-clause-turn : goal.returns-in_ok-take_waiting-clause-turn
returns-in_ok-take_waiting-clause-turn c = (
  record c.args.self.now { waiting = c.add.new.self },
  record {
    in_time = λ late. false≢true (sym c.if-is_late.false ∙ c.is_late.ensures.1 late);
    adds = c.in_ok-add.ensures.added c.if-not-branch.false;
    same = (refl, refl, refl, refl, refl, refl, refl, refl);
  },
  inr c.in_ok-take_waiting.ensures.taken,
)

pub returns-else-len-self-clause-turn : goal.returns-else-len-self-clause-turn
returns-else-len-self-clause-turn c = (
  record c.args.self.now { waiting = c.add.new.self },
  record {
    in_time = λ late. false≢true (sym c.if-is_late.false ∙ c.is_late.ensures.1 late);
    adds = c.in_ok-add.ensures.added c.if-not-branch.false;
    same = (refl, refl, refl, refl, refl, refl, refl, refl);
  },
  inl refl,
)

pub returns-in_ok-take_waiting-clause-waits : goal.returns-in_ok-take_waiting-clause-waits
returns-in_ok-take_waiting-clause-waits c = waits_same c.args.self.now.late c.args.self.now.waiting.turns.items c.add.new.self.turns.items c.take_waiting.new.self.waiting.turns.items _ (c.in_ok-add.ensures.added c.if-not-branch.false) (omega (arith, c.if-len-self.true, c.len.ensures)) c.in_ok-take_waiting.ensures.fewer

pub returns-else-len-self-clause-waits : goal.returns-else-len-self-clause-waits
returns-else-len-self-clause-waits c = waits_more c.args.self.now.late c.args.self.now.waiting.turns.items c.add.new.self.turns.items _ (c.in_ok-add.ensures.added c.if-not-branch.false) (omega (arith, c.if-len-self.false, c.len.ensures))
