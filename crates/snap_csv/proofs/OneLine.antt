-- The record of a line.
use Rattle.std.proofs.Common.{◌≡◌, ◌≢◌, ◌↔◌, ℕ, Bool, true, false, not, List, [], ◌∷◌, length, Ok, Err, refl, ap, ◌∙◌, inl, inr}
use Rattle.std.specs.Prelude.{IsTrue}
use Rattle.std.specs.Bool.{MatchBool}
use Rattle.std.proofs.lemmas.Bool.{false≢true}
use Rattle.snap_core.specs.declared.event.Event.{Event}
use Rattle.snap_text.specs.declared.fault.TextFault.TheVariants as faults
use Rattle.snap_text.specs.Fields.{Fields, event_of, row_event}
use Rattle.snap_format.specs.Stamps.{stamped_row}
use Rattle.snap_format.specs.declared.refusal.ReadRefusal.{ReadRefusal}
use Rattle.snap_format.specs.declared.refusal.ReadRefusal.TheVariants as refusals
use Rattle.snap_csv.specs.OneLine.{AnswersLine, AnswersStamped, HasFirst}
use Rattle.snap_format.specs.Taking.{FailsFields}
use Rattle.snap_format.proofs.ReadFacts.{event_is}

-- whether another record is after one
pub only_if : (more : Bool) (later : List Fields) (Next : Type 0) → (Next → later ≢ []) → MatchBool more Next (later ≡ []) → IsTrue (not more) ↔ (later ≡ [])
only_if true later Next n m = (λ t. absurd (false≢true t), λ e. absurd (n m e))
only_if false later Next n m = (λ t. m, λ e. refl)

pub short_event : (r : Fields) → length r ≢ 4 → row_event r ≡ Err faults.Fields
unfolding row_event
short_event [] h = refl
short_event (a ∷ []) h = refl
short_event (a ∷ p ∷ []) h = refl
short_event (a ∷ p ∷ o ∷ []) h = refl
short_event (a ∷ p ∷ o ∷ d ∷ []) h = absurd (h refl)
short_event (a ∷ p ∷ o ∷ d ∷ e ∷ r) h = refl

-- the event of the only record
pub only_event : (place : ℕ) (rows : List Fields) (row : Fields) (x : Event) (a p o d : List ℕ) → HasFirst rows row true → row ≡ a ∷ p ∷ o ∷ d ∷ [] → event_of a p o d ≡ Ok x → (r : Fields) × (rows ≡ r ∷ []) × (row_event r ≡ Ok x)
only_event place rows row x a p o d h is gives = (row, h.1 ∙ ap (λ z. row ∷ z) (h.2.0 refl), event_is row a p o d is ∙ gives)

pub only_fails : (place : ℕ) (rows : List Fields) (row : Fields) (a p o d : List ℕ) → HasFirst rows row true → row ≡ a ∷ p ∷ o ∷ d ∷ [] → (e : ReadRefusal) → FailsFields place e (event_of a p o d) → AnswersLine place rows (Err e)
only_fails place rows row a p o d h is (refusals.Text q f) x = (x.0, row, h.0, h.1, inl (h.2.0 refl, event_is row a p o d is ∙ x.1))
only_fails place rows row a p o d h is refusals.Device x = x
only_fails place rows row a p o d h is refusals.Memory x = tt

-- the fault of records that are not one of four fields
pub no_event : (place : ℕ) (rows : List Fields) (row : Fields) (only : Bool) → HasFirst rows row only → (only ≡ true → length row ≢ 4) → AnswersLine place rows (Err (refusals.Text place faults.Fields))
no_event place rows row true h short = (refl, row, h.0, h.1, inl (h.2.0 refl, short_event row (short refl)))
no_event place rows row false h short = (refl, row, h.0, h.1, inr (λ e. false≢true (h.2.1 e), refl))

-- ---- with stamps

short_stamped : (r : Fields) → length r ≢ 5 → stamped_row r ≡ Err faults.Fields
unfolding stamped_row
short_stamped [] h = refl
short_stamped (t ∷ []) h = refl
short_stamped (t ∷ a ∷ []) h = refl
short_stamped (t ∷ a ∷ p ∷ []) h = refl
short_stamped (t ∷ a ∷ p ∷ o ∷ []) h = refl
short_stamped (t ∷ a ∷ p ∷ o ∷ d ∷ []) h = absurd (h refl)
short_stamped (t ∷ a ∷ p ∷ o ∷ d ∷ e ∷ r) h = refl

-- the stamp and the event of the only record
pub only_stamped : (rows : List Fields) (row : Fields) (x : ℕ × Event) → HasFirst rows row true → stamped_row row ≡ Ok x → (r : Fields) × (rows ≡ r ∷ []) × (stamped_row r ≡ Ok x)
only_stamped rows row x h gives = (row, h.1 ∙ ap (λ z. row ∷ z) (h.2.0 refl), gives)

pub only_stamped_fails : (place : ℕ) (rows : List Fields) (row : Fields) → HasFirst rows row true → (e : ReadRefusal) → FailsFields place e (stamped_row row) → AnswersStamped place rows (Err e)
only_stamped_fails place rows row h (refusals.Text q f) x = (x.0, row, h.0, h.1, inl (h.2.0 refl, x.1))
only_stamped_fails place rows row h refusals.Device x = x
only_stamped_fails place rows row h refusals.Memory x = tt

pub no_stamped : (place : ℕ) (rows : List Fields) (row : Fields) (only : Bool) → HasFirst rows row only → (only ≡ true → length row ≢ 5) → AnswersStamped place rows (Err (refusals.Text place faults.Fields))
no_stamped place rows row true h short = (refl, row, h.0, h.1, inl (h.2.0 refl, short_stamped row (short refl)))
no_stamped place rows row false h short = (refl, row, h.0, h.1, inr (λ e. false≢true (h.2.1 e), refl))
