use Rattle.std.proofs.Common.{◌≡◌, ◌&&◌, ◌∙◌, ◌∷◌, ◌++◌, [], Bool, false, true, not, refl, take, sym, ap}
use Rattle.std.specs.Option.{option_copied}
use Rattle.snap_core.specs.Entries.{entry_of}
use Rattle.snap_theory.specs.Versioned.{is_version}
use Rattle.snap_versions.specs.inside.Listed.{call_listed, calls_listed}
use Rattle.snap_versions.specs.inside.Unshown.{is_shown, version}
use Rattle.snap_versions.specs.inside.Versions.{has_version, versions_in}
use Rattle.snap_versions.proofs.Listing.{listed_more}
use Rattle.snap_versions.proofs.Showing.{call_left_out}
use Rattle.snap_versions.proofs.Staying.{shows_none, shows_some}
use Rattle.snap_versions.proofs.unshown.leave_out_shown.Goals as goal
use Rattle.snap_versions.proofs.unshown.leave_out_shown.Goals.{in-Some, in_default}

as_before : (b : Bool) → b ≡ (b && not false)
as_before true = refl
as_before false = refl

pub loop-call-preserved : goal.loop-call-preserved
loop-call-preserved c = λ k n.
    let x = c.call-item.result in
    let so_far = calls_listed (take c.loop-call.call-index c.args.calls.now) in
    let more = listed_more c.args.calls.now c.loop-call.call-index x c.loop-call-test.true c.call-item.is in
    let old = has_version (versions_in c.args.versions.now k) n in
    let before = has_version (versions_in c.loop-call.versions k) n in
    let after = has_version (versions_in c.match-answer.versions k) n in
    let step : after ≡ (old && not (is_shown (so_far ++ call_listed x ∷ []) k n)) = elim c.match-answer.branch [
      | in-Some w ↦
          let es = w.in-Some.view.now in
          call_left_out so_far (call_listed x) k n old before after (is_version (version k n) (entry_of k es))
          (shows_some (version k n) (call_listed x) es (sym c.answer.ensures ∙ ap option_copied w.in-Some.is))
          (c.loop-call.invariant k n)
          (ap (λ z. has_version (versions_in z k) n) w.versions-is ∙ w.leave_out.ensures k n)
      | in_default w ↦
          call_left_out so_far (call_listed x) k n old before after false
          (shows_none (version k n) (call_listed x) (sym c.answer.ensures ∙ ap option_copied w.in_default.is))
          (c.loop-call.invariant k n)
          (ap (λ z. has_version (versions_in z k) n) w.versions-is ∙ as_before before)
    ] in
    step ∙ ap (λ z. old && not (is_shown z k n)) (sym more)
