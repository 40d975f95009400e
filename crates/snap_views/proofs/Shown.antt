-- What a completed view shows of a component.
use Rattle.std.proofs.Common.{◌≡◌, ℕ, ◌<◌, List, ap, ◌∙◌, arith}
use Rattle.snap_core.specs.declared.entry.Entry.{Entry}
use Rattle.snap_core.specs.Entries.{AreEntries}
use Rattle.snap_core.specs.Calls.{Call, entries_of, shown_number}
use Rattle.snap_views.specs.Rows.{number_among}
use Rattle.snap_views.proofs.Compared.{is_listed}
use Rattle.snap_views.proofs.Rows.{among_is_shown}

-- what a view that was seen shows
pub seen_number : (r : Call) (es : List Entry) (k : ℕ) → es ≡ entries_of r.operation → number_among es k ≡ shown_number r k
seen_number r es k e = ap (λ z. number_among z k) e ∙ among_is_shown r k

-- a component of which a view shows a number
pub small : (r : Call) (k : ℕ) → AreEntries (entries_of r.operation) → 0 < shown_number r k → k < 256
small r k h l = let d = is_listed (entries_of r.operation) h k (omega (arith, l, among_is_shown r k)) in omega (arith, d.component, d.fits.0)
