use Rattle.std.proofs.Common.{◌≡◌, ◌∷◌, [], ◌++◌, ◌+◌, ◌∙◌, rules, arith, vec_items, vec_len, length, List, Option, subst, sym, ap, All, length-append}
use Rattle.snap_core.specs.Calls.{calls_of}
use Rattle.snap_conditions.specs.declared.tally.Tally.{Tally}
use Rattle.snap_pairs.specs.inside.Pieces.{AreTallied, IsFull, FitSlots}
use Rattle.snap_pairs.specs.declared.worker.Drawn.{Drawn}
use Rattle.snap_pairs.proofs.Gathering.{AreGathered, last_answer, answers_before, gathered_more, take_whole}
use Rattle.snap_pairs.proofs.gather.gather.Goals as goal

pub loop-answer-preserved : goal.loop-answer-preserved
loop-answer-preserved g c =
    let calls = calls_of c.args.index.now in
    let counter = c.args.counter.now in
    let i = c.loop-answer.invariant in
    let a = last_answer calls counter (vec_items c.pop.new.self) c.in-Some.answer (vec_items c.loop-answer.answers) c.in_ok-claim.field-0 c.in-Some.ensures.items i.answers c.in_ok-claim.was in
    let now : List (Option Tally) = c.put_tallies.new.slots in
    let lent : c.as_mut_slice.result.now ≡ vec_items c.loop-answer.slots = c.as_mut_slice.ensures.value in
    let same = c.as_slice.ensures.value in
    let pushed : vec_items c.push.new.self ≡ vec_items c.loop-answer.claims ++ c.in_ok-claim.field-0.claim ∷ [] = search rules in
    let long : vec_len c.loop-answer.answers ≡ vec_len c.pop.new.self + 1 = search rules in
    let more : length (vec_items c.push.new.self) ≡ length (vec_items c.loop-answer.claims) + 1 = ap length pushed ∙ length-append (vec_items c.loop-answer.claims) (c.in_ok-claim.field-0.claim ∷ []) in
    let size : length now ≡ c.loop-answer.slots.len = omega (arith, c.put_tallies.auto.slots, c.as_mut_slice.ensures.len) in
    let whole = take_whole c.loop-answer.slots.len now (vec_items c.loop-answer.slots) size in
    let fit = subst (λ n. FitSlots calls n now) (sym c.requires.pieces) c.put_tallies.ensures.fit in
    let gathered = gathered_more calls counter (vec_items c.loop-answer.claims) (vec_items c.loop-answer.slots) now c.in_ok-claim.field-0 i.gathered a fit
    (λ p full. c.put_tallies.ensures.kept p (subst (λ (l : List (Option Tally)). IsFull l p) (sym lent) full))
    (subst (All (λ (q : Drawn). IsFull now q.piece)) same c.put_tallies.ensures.full) in
    record {
      answers = answers_before calls counter (vec_items c.pop.new.self) c.in-Some.answer (vec_items c.loop-answer.answers) c.in-Some.ensures.items i.answers;
      count = omega (arith, i.count, long, more);
      gathered = subst (λ (l : List (Option Tally)). AreGathered calls counter (vec_items c.push.new.self) l) (sym whole) (subst (λ l. AreGathered calls counter l now) (sym pushed) gathered);
    }

pub put_tallies-requires-clause-slots : goal.put_tallies-requires-clause-slots
put_tallies-requires-clause-slots g c =
    let calls = calls_of c.args.index.now in
    let fit = subst (FitSlots calls c.args.counter.now.pieces) (sym c.as_mut_slice.ensures.value) c.loop-answer.invariant.gathered.fit in
    subst (λ n. FitSlots calls n c.as_mut_slice.result.now) c.requires.pieces fit

pub put_tallies-requires-clause-pairs : goal.put_tallies-requires-clause-pairs
put_tallies-requires-clause-pairs g c =
    let calls = calls_of c.args.index.now in
    let counter = c.args.counter.now in
    let a = last_answer calls counter (vec_items c.pop.new.self) c.in-Some.answer (vec_items c.loop-answer.answers) c.in_ok-claim.field-0 c.in-Some.ensures.items c.loop-answer.invariant.answers c.in_ok-claim.was in
    let tallied = subst (AreTallied calls counter.pieces) (sym c.as_slice.ensures.value) a.tallied in
    subst (λ n. AreTallied calls n c.as_slice.result.now) c.requires.pieces tallied

pub loop-answer-smaller : goal.loop-answer-smaller
loop-answer-smaller g c = omega (arith, c.in-Some.ensures.len)

pub returns-clause-count : goal.returns-clause-count
returns-clause-count g c = search rules

pub returns-clause-claims : goal.returns-clause-claims
returns-clause-claims g c = (c.loop-answer.invariant.gathered.of_counter, c.loop-answer.invariant.gathered.finished)

pub returns-clause-slots : goal.returns-clause-slots
returns-clause-slots g c =
    subst (λ n. FitSlots (calls_of c.args.index.now) n (vec_items c.loop-answer.slots)) c.requires.pieces c.loop-answer.invariant.gathered.fit

pub returns-clause-full : goal.returns-clause-full
returns-clause-full g c = c.loop-answer.invariant.gathered.full
