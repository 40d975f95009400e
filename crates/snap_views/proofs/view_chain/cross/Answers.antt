use Rattle.std.proofs.Common.{◌∙◌, not, sym, ap}
use Rattle.std.proofs.lemmas.Bool.{false≢true}
use Rattle.snap_core.specs.Calls.{calls_of}
use Rattle.snap_views.proofs.Chains.{crossing}
use Rattle.snap_views.proofs.view_chain.cross.Goals as goal

pub returns-then-not-climbs : goal.returns-then-not-climbs
returns-then-not-climbs g c t =
    crossing (calls_of c.args.index.now) c.args.one c.args.other c.requires.one c.requires.other
    (λ up. false≢true (sym c.if-not-climbs.true ∙ c.climbs.ensures.1 up))
    (λ up. false≢true (sym (ap not (c.climbs-then-not-climbs.ensures.1 up)) ∙ t))
