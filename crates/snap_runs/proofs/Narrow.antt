-- A view of a recording lists at most one entry for each desk, so the recording's text is short.
use Rattle.std.proofs.Common.{◌≡◌, ◌≤◌, ℕ, List, [], ◌∷◌, length, refl, inl, inr, arith}
use Rattle.snap_core.specs.declared.limit.Limit.{Limit}
use Rattle.std.specs.List.{All}
use Rattle.std.proofs.lemmas.List.Elements.{All-cons, All-nil}
use Rattle.snap_core.specs.declared.entry.Entry.{Entry}
use Rattle.snap_core.specs.declared.event.Event.{Event}
use Rattle.snap_core.specs.declared.event.Event.TheVariants.{BeginUpdate, BeginView, EndUpdate, EndView}
use Rattle.snap_core.specs.Bounded.{IsBoundedOrdered}
use Rattle.snap_format.specs.Laws.{ListsAtMost}
use Rattle.snap_format.specs.Layout.{history_text}
use Rattle.snap_format.specs.Texts.{bytes_within}
use Rattle.snap_format.proofs.LengthFacts.{narrow_text_short}
use Rattle.snap_record.specs.Calls.{Mem}
use Rattle.snap_record.specs.declared.plan.Step.{Step}
use Rattle.snap_record.specs.Recording.{AreStamped}
use Rattle.snap_record.proofs.Narrow.{shows_few}

all_list : (n : ℕ) (xs : List Event) → ((p : ℕ) (es : List Entry) → Mem (EndView p es) xs → length es ≤ n) → All (ListsAtMost n) xs
all_list n [] h = All-nil (ListsAtMost n)
all_list n (x ∷ xs) h = All-cons (ListsAtMost n) x xs (one x (λ p es e. h p es (inl e))) (all_list n xs (λ p es m. h p es (inr m)))
  where
    one : (y : Event) → ((p : ℕ) (es : List Entry) → y ≡ EndView p es → length es ≤ n) → ListsAtMost n y
    one (BeginUpdate p e) g = tt
    one (BeginView p) g = tt
    one (EndUpdate p) g = tt
    one (EndView p es) g = g p es refl

-- a board has at most eight desks
pub recording_short : (limit : Limit) (scripts : List (List Step)) (events : List Event) (stamps : List ℕ) → IsBoundedOrdered events → length events ≤ limit.events → length scripts ≤ 8 → AreStamped scripts events stamps →
    length (history_text events) ≤ bytes_within limit
recording_short limit scripts events stamps k short few s =
    narrow_text_short limit events k short (all_list 36 events (λ p es m. let l = shows_few scripts events stamps s p es m in omega arith))
