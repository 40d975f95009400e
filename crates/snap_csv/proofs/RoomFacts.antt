-- A text that was taken into a room, and what is answered of it there.
use Rattle.std.proofs.Common.{◌≡◌, ◌≤◌, ℕ, List, length, inr, Option, Some, None, Result, Ok, Err, refl, subst}
use Rattle.snap_core.specs.declared.limit.Limit.{Limit}
use Rattle.std.specs.Prelude.{IfOk, IfSome}
use Rattle.std.specs.Global.{Vec}
use Rattle.snap_core.specs.Limited.{LimitedEvents}
use Rattle.snap_text.specs.Fields.{Fields}
use Rattle.snap_format.specs.declared.refusal.ReadRefusal.{ReadRefusal}
use Rattle.snap_format.specs.declared.refusal.ReadRefusal.TheVariants as refusals
use Rattle.snap_format.specs.Rows.{rows_of}
use Rattle.snap_format.specs.Texts.{bytes_within}
use Rattle.snap_format.specs.Taking.{AnswersRows, RefusesRows}
use Rattle.snap_format.proofs.RecordFacts.{rows_spell}
use Rattle.snap_csv.specs.Answers.{AnswersRecords, AnswersText, Counts, Leaves, RefusalCounts, RefusalLeaves, RefusesText}
use Rattle.snap_csv.specs.inside.Rows.{AnswersListed}

-- the room holds the text
leaves : {A : Type 0} (text : List ℕ) (result : Result A ReadRefusal) → Leaves text text result
leaves text (Ok x) = refl
leaves text (Err e) = refused e
  where
    refused : (e : ReadRefusal) → RefusalLeaves text text e
    refused (refusals.Text place f) = λ some. refl
    refused refusals.Device = tt
    refused refusals.Memory = tt

pub room_leaves : {A : Type 0} (known : Option (List ℕ)) (room : List ℕ) (result : Result A ReadRefusal) → IfSome known (λ text. room ≡ text) → IfSome known (λ text. Leaves text room result)
room_leaves None room result is = tt
room_leaves (Some text) room result is = subst (λ t. Leaves t room result) is (leaves room result)

-- and what is said of its records is said of the text
refuses : (limit : Limit) (text : List ℕ) (e : ReadRefusal) → length text ≤ bytes_within limit → RefusesRows limit (rows_of text) e → RefusesText limit text e
refuses limit text (refusals.Text place f) short says = inr (short, says)
refuses limit text refusals.Device short says = tt
refuses limit text refusals.Memory short says = tt

answers_text : (limit : Limit) (text : List ℕ) (result : Result LimitedEvents ReadRefusal) → length text ≤ bytes_within limit → AnswersRows limit (rows_of text) result → AnswersText limit text result
answers_text limit text (Ok history) short says = (short, says.0)
answers_text limit text (Err e) short says = refuses limit text e short says

pub room_answers : (limit : Limit) (known : Option (List ℕ)) (room : List ℕ) (result : Result LimitedEvents ReadRefusal) → (length room ≤ bytes_within limit) × IfSome known (λ text. room ≡ text)
    → AnswersRows limit (rows_of room) result → IfSome known (λ text. AnswersText limit text result)
room_answers limit None room result (short, is) says = tt
room_answers limit (Some text) room result (short, is) says = subst (λ t. AnswersText limit t result) is (answers_text limit room result short says)

answers_records : (limit : Limit) (text : List ℕ) (result : Result (LimitedEvents × Vec ℕ) ReadRefusal) → length text ≤ bytes_within limit → AnswersListed limit (rows_of text) result → AnswersRecords limit text result
answers_records limit text (Ok x) short says = record { history = (short, says.0.0); numbers = says.1 }
answers_records limit text (Err e) short says = refuses limit text e short says

pub room_lists : (limit : Limit) (known : Option (List ℕ)) (room : List ℕ) (result : Result (LimitedEvents × Vec ℕ) ReadRefusal) → (length room ≤ bytes_within limit) × IfSome known (λ text. room ≡ text)
    → AnswersListed limit (rows_of room) result → IfSome known (λ text. AnswersRecords limit text result)
room_lists limit None room result (short, is) says = tt
room_lists limit (Some text) room result (short, is) says = subst (λ t. AnswersRecords limit t result) is (answers_records limit room result short says)

-- the history has the limit that was given
pub limit_kept : (limit : Limit) (rows : List Fields) (result : Result LimitedEvents ReadRefusal) → AnswersRows limit rows result → IfOk result (λ history. history.limit ≡ limit)
limit_kept limit rows (Ok history) says = says.1
limit_kept limit rows (Err e) says = tt

pub lists_limit : (limit : Limit) (rows : List Fields) (result : Result (LimitedEvents × Vec ℕ) ReadRefusal) → AnswersListed limit rows result → IfOk result (λ x. x.0.limit ≡ limit)
lists_limit limit rows (Ok x) says = says.0.1
lists_limit limit rows (Err e) says = tt

-- there is a number for each event
pub lists_each : (limit : Limit) (rows : List Fields) (result : Result (LimitedEvents × Vec ℕ) ReadRefusal) → AnswersListed limit rows result → IfOk result (λ x. length x.1.items ≡ length x.0.events)
lists_each limit rows (Ok x) says = (rows_spell limit rows x.0.events x.1.items says.0.0 says.1).count
lists_each limit rows (Err e) says = tt

-- no device fails after the text that was taken
stays : (limit : Limit) (rows : List Fields) (old new : ℕ) (e : ReadRefusal) → new ≡ old → RefusesRows limit rows e → RefusalCounts old new e
stays limit rows old new (refusals.Text place f) same says = same
stays limit rows old new refusals.Device same says = absurd says
stays limit rows old new refusals.Memory same says = same

pub room_counts : (limit : Limit) (rows : List Fields) (old new : ℕ) (result : Result LimitedEvents ReadRefusal) → new ≡ old → AnswersRows limit rows result → Counts old new result
room_counts limit rows old new (Ok history) same says = same
room_counts limit rows old new (Err e) same says = stays limit rows old new e same says

pub lists_counts : (limit : Limit) (rows : List Fields) (old new : ℕ) (result : Result (LimitedEvents × Vec ℕ) ReadRefusal) → new ≡ old → AnswersListed limit rows result → Counts old new result
lists_counts limit rows old new (Ok x) same says = same
lists_counts limit rows old new (Err e) same says = stays limit rows old new e same says
