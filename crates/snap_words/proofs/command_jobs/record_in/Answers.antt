use Rattle.std.proofs.Common.{refl, arith, rules, subst, sym}
use Rattle.std.proofs.lemmas.Option.{same_Some}
use Rattle.snap_words.specs.Jobs.{SaysOr}
use Rattle.snap_words.proofs.command_jobs.record_in.Goals as goal

pub returns-clause-job : goal.returns-clause-job
returns-clause-job c =
    let rounds = c.if-not-are_rounds.ensures.one refl in
    (search rules, (rounds.0, omega (arith, rounds.1, c.in_ok-events.ensures.limit)), search rules)

pub returns-clause-overfull : goal.returns-clause-overfull
returns-clause-overfull c = λ asks.
    let rounds = c.if-not-are_rounds.ensures.one refl in
    let said = c.number_or-rounds.ensures asks.rounds (omega (arith, asks.is_number)) (subst (λ said. SaysOr c.rounds_for.result said asks.rounds) (sym asks.rounds_are) refl) in
    let events = same_Some _ _ (c.in_ok-events.ensures.asked asks.events asks.limit) in
    absurd (omega (arith, rounds.1, said, events, asks.too_many))
