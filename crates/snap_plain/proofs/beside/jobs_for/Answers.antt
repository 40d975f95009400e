use Rattle.std.proofs.Common.{◌≡◌, ◌++◌, ◌∷◌, ◌∙◌, [], All, List, rules, subst, sym}
use Rattle.std.proofs.lemmas.List.Elements.{All-push}
use Rattle.snap_plain.specs.declared.rings.Job.{Job}
use Rattle.snap_plain.specs.Sharing.{IsNewClaim, IsNewJob}
use Rattle.snap_threads.specs.Claiming.{ClaimView}
use Rattle.snap_threads.proofs.Closing.{all_front, all_last}
use Rattle.snap_plain.proofs.beside.jobs_for.Goals as goal

pub each-preserved : goal.each-preserved
each-preserved g c =
    let counter = c.args.counter.now in
    let h = c.in-Some.ensures in
    let claim = c.in-Some.claim in
    let P : ClaimView → Type 0 = IsNewClaim counter in
    let left = c.pop.new.self.items in
    let all = subst (λ (xs : List ClaimView). All P xs) h.items c.each.invariant.claims in
    let pushed : c.push.new.self.items ≡ c.each.jobs.items ++ record { claim = claim; inlet = c.in_ok-inlet.inlet } ∷ [] = search rules in
    record {
      claims = all_front P left claim all;
      jobs = subst (All (IsNewJob counter)) (sym pushed) (All-push (IsNewJob counter) c.each.jobs.items record { claim = claim; inlet = c.in_ok-inlet.inlet } c.each.invariant.jobs
          (all_last P left claim all, c.in_ok-inlet.ensures.producer.0, c.in_ok-inlet.ensures.producer.1 ∙ c.requires.room));
    }
