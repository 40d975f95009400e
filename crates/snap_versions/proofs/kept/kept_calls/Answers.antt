use Rattle.std.proofs.Common.{◌≡◌, filter, subst, rules}
use Rattle.std.proofs.lemmas.Fn.{filter_same}
use Rattle.snap_versions.specs.inside.Listed.{call_listed, calls_listed}
use Rattle.snap_versions.specs.inside.Unshown.{AreUnshown, stays_beside}
use Rattle.snap_versions.proofs.Staying.{kept_listed}
use Rattle.snap_versions.proofs.kept.kept_calls.Goals as goal

pub returns : goal.returns
returns c =
    let calls = c.args.calls.items in
    let unshown = c.in_ok-unshown.unshown in
    let kept : c.retain.new.self.items ≡ filter (λ l. stays_beside unshown (call_listed l)) calls = filter_same _ (λ l. stays_beside unshown (call_listed l)) _ (λ x b f' k. search rules) _ _ c.retain.ensures.filtered in
    kept_listed calls c.retain.new.self.items unshown (subst (λ z. AreUnshown (calls_listed z) unshown) c.deref.ensures.value c.in_ok-unshown.ensures) kept
