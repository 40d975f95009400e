use Rattle.std.proofs.Common.{◌≡◌, ◌&&◌, ◌∙◌, [], not, length, vec_len, sym, ap, subst, arith}
use Rattle.std.proofs.lemmas.Bool.{eqb-true}
use Rattle.std.proofs.lemmas.List.{nil_from_length}
use Rattle.snap_versions.specs.inside.Listed.{calls_listed}
use Rattle.snap_versions.specs.inside.Unshown.{AreUnshown, is_shown}
use Rattle.snap_versions.specs.inside.Versions.{AreVersionsOf, has_version, versions_in}
use Rattle.snap_versions.proofs.Staying.{has_pending, none_unshown, pending_few}
use Rattle.snap_versions.proofs.unshown.unshown_versions.Goals as goal
use Rattle.snap_versions.proofs.unshown.unshown_versions.Goals.{then-not-is_empty, else-not-is_empty}

pub of-requires : goal.of-requires
of-requires c =
    omega (arith, pending_few c.args.calls.now c.in_ok-pending.pending.items c.in_ok-pending.ensures, ap length c.deref.ensures.value, c.requires)

pub returns : goal.returns
returns c =
    let calls = calls_listed c.args.calls.now in
    let pending = calls_listed c.in_ok-pending.pending.items in
    let old = c.in_ok-unshown.unshown in
    let versions = subst (λ z. AreVersionsOf (calls_listed z) old) c.deref.ensures.value c.in_ok-unshown.ensures in
    elim c.if-not-is_empty.branch [
      | then-not-is_empty w ↦ λ k n.
          ap (λ z. has_version (versions_in z k) n) w.unshown-is ∙ w.leave_out_shown.ensures k n
          ∙ ap (λ b. b && not (is_shown calls k n)) (has_pending calls pending old c.in_ok-pending.ensures versions k n)
      | else-not-is_empty w ↦
          let none : c.in_ok-pending.pending.items ≡ [] = nil_from_length c.in_ok-pending.pending.items (sym c.in_ok-pending.pending.ok.0 ∙ eqb-true (vec_len c.in_ok-pending.pending) 0 (sym w.if-not-is_empty.ensures)) in
          subst (AreUnshown calls) (sym w.unshown-is) (none_unshown calls pending old c.in_ok-pending.ensures (ap calls_listed none) versions)
    ]
