-- Scripts without a scan are done whole.
use Rattle.std.proofs.Common.{◌≡◌, ℕ, Bool, true, false, List, [], ◌∷◌, length, refl, sym, ap, ◌∙◌, subst, arith}
use Rattle.std.specs.Prelude.{slice_index_or}
use Rattle.snap_core.specs.declared.event.Event.{Event}
use Rattle.snap_core.specs.Events.{events_of}
use Rattle.snap_core.specs.Sums.{total}
use Rattle.snap_record.specs.declared.plan.Step.{Step}
use Rattle.snap_record.specs.declared.plan.Step.TheVariants.{Store, View, Scan}
use Rattle.snap_record.specs.Choices.{chosen, left_out, LeavesScans, IsScan, one_scan, scans_in}
use Rattle.snap_record.specs.Plans.{IsRun, HasScripts, HasWholeScripts, HasNoScans}
use Rattle.snap_board.specs.Settled.{falling}
use Rattle.snap_record.proofs.Planning.{all_kept}

no_scan : (s : Step) → IsScan s → one_scan s ≡ 0 → ⊥
no_scan (Store v) is e = is
no_scan View is e = is
no_scan (Scan tries) is e = absurd (omega (arith, e))

-- where there is no scan to be left out, every step is kept
kept_whole : (bs : List Bool) (ss : List Step) → LeavesScans bs ss → scans_in ss ≡ 0 → (chosen bs ss ≡ ss) × (left_out bs ss ≡ [])
kept_whole bs [] h e = (refl, refl)
kept_whole [] (s ∷ ss) h e = (ap (λ l. s ∷ l) (kept_whole [] ss (all_kept ss) (omega (arith, e))).0, refl)
kept_whole (true ∷ bs) (s ∷ ss) h e = let r = kept_whole bs ss h.1 (omega (arith, e)) in (ap (λ l. s ∷ l) r.0, r.1)
kept_whole (false ∷ bs) (s ∷ ss) h e = absurd (no_scan s (h.0 refl) (omega (arith, e)))

module _ (scripts : List (List Step)) (es : List Event) (interfered : ℕ) (h : HasScripts scripts es interfered) (none : HasNoScans scripts) where
  pub whole_scripts : HasWholeScripts scripts es
  whole_scripts w = subst (λ (ss : List Step). IsRun w ss (events_of w es)) (kept_whole (h.choices w) (slice_index_or scripts w []) (h.scans w) (none w)).0 (h.each w)

  none_out : (ws : List ℕ) → total (λ w. length (left_out (h.choices w) (slice_index_or scripts w []))) ws ≡ 0
  none_out [] = refl
  none_out (w ∷ ws) = let one = ap length (kept_whole (h.choices w) (slice_index_or scripts w []) (h.scans w) (none w)).1 in let rest = none_out ws in omega (arith, one, rest)

  pub none_interfered : interfered ≡ 0
  none_interfered = sym h.left ∙ none_out (falling (length scripts))
