use Rattle.std.proofs.Common.{◌≡◌, ℕ, ap, ◌∙◌, List}
use Rattle.std.specs.Prelude.{unwrap_or}
use Rattle.snap_core.specs.Calls.{Call}
use Rattle.snap_conditions.specs.declared.fault.ReadFault.{ReadFault}
use Rattle.snap_views.specs.declared.seen.SeenView.{SeenView}
use Rattle.snap_views.specs.Rows.{AreNumbersOf, number_among, row_number}
use Rattle.snap_conditions.specs.Rows.{first_less}
use Rattle.snap_views.specs.Seen.{IsSeen}
use Rattle.snap_conditions.specs.Tally.{reported_read}
use Rattle.snap_conditions.proofs.Finds.{least_by_numbers}
use Rattle.snap_views.proofs.Rows.{among_is_shown}
use Rattle.snap_conditions.proofs.read.fault_of.Goals as goal

told : (r s : Call) (view other : SeenView) (row : List ℕ) (k : ℕ) → IsSeen r view → IsSeen s other → AreNumbersOf view.entries.now row → k ≡ unwrap_or (first_less (number_among other.entries.now) (row_number row)) 0 →
    ◌≡◌ {A = ReadFault} (record { view = view.call_number; other = other.call_number; component = k }) (reported_read (r, s))
told r s view other row k v w n e =
    let fault : ℕ → ℕ → ℕ → ReadFault = λ a b j. record { view = a; other = b; component = j } in
    let least =
    least_by_numbers r s (row_number row) (number_among other.entries.now) (λ j l. n j l ∙ ap (λ es. number_among es j) v.entries ∙ among_is_shown r j)
    (λ j l. ap (λ es. number_among es j) w.entries ∙ among_is_shown s j) in
    ap (λ a. fault a other.call_number k) v.number ∙ ap (λ b. fault r.number b k) w.number ∙ ap (fault r.number s.number) (e ∙ ap (λ o. unwrap_or o 0) least)

pub returns : goal.returns
returns c = λ r s v w. told r s c.args.view.now c.args.other.now c.args.row.now c.unwrap_or.result v w c.requires.row (c.unwrap_or.ensures ∙ ap (λ o. unwrap_or o 0) c.first_excess.ensures)
