-- What a run answers and writes.
use Rattle.std.proofs.Common.{◌≡◌, inl, inr, ℕ, List, Option, Some, None, refl, subst}
use Rattle.snap_core.specs.declared.limit.Limit.{Limit}
use Rattle.std.specs.Global.{Vec}
use Rattle.std.specs.Prelude.{IfSome}
use Rattle.std.specs.Io.KnownBytes.{Appends}
use Rattle.snap_core.specs.Limited.{LimitedEvents}
use Rattle.snap_core.specs.declared.event.Event.{Event}
use Rattle.snap_core.specs.Sending.{SendsFront}
use Rattle.snap_text.specs.declared.fault.TextFault.{TextFault}
use Rattle.snap_format.specs.Texts.{HasFault, IsText}
use Rattle.snap_report.specs.Lines.{line_text}
use Rattle.snap_report.specs.Refusals.{refusal_line}
use Rattle.snap_check.specs.declared.fault.RunFault.TheVariants as faults
use Rattle.snap_check.specs.declared.status.Status.{Status}
use Rattle.snap_check.specs.declared.status.Status.TheVariants.{Refused}
use Rattle.snap_check.specs.Verdicts.{IsVerdict}
use Rattle.snap_check.specs.Reports.{IsRefused, IsReport}
use Rattle.snap_check.specs.declared.reading.Reading.{Reading}
use Rattle.snap_check.specs.declared.reading.Reading.TheVariants.{History, Refusal}
use Rattle.snap_check.specs.Runs.{Reads, WroteFront, WroteWhole}

-- what follows of a known text from what it was read as

pub with_text : (P Q : List ℕ → Type 0) (known : Option (List ℕ)) → IfSome known P → ((text : List ℕ) → P text → Q text) → IfSome known Q
with_text P Q None h then = tt
with_text P Q (Some text) h then = then text h

pub from_history : (limit : Limit) (Q : List ℕ → Type 0) (known : Option (List ℕ)) (reading : Reading) (h : LimitedEvents) → IfSome known (λ text. Reads limit text reading) → reading ≡ History h → ((text : List ℕ) → IsText limit text h.events → Q text) → IfSome known Q
from_history limit Q known reading h reads is then = with_text (λ text. IsText limit text h.events) Q known (subst (λ (r : Reading). IfSome known (λ text. Reads limit text r)) is reads) then

pub from_refusal : (limit : Limit) (Q : List ℕ → Type 0) (known : Option (List ℕ)) (reading : Reading) (line : Vec ℕ) → IfSome known (λ text. Reads limit text reading) → reading ≡ Refusal line → ((text : List ℕ) → IsRefused limit text Refused line.items → Q text) → IfSome known Q
from_refusal limit Q known reading line h is then = with_text (λ text. IsRefused limit text Refused line.items) Q known (subst (λ (r : Reading). IfSome known (λ text. Reads limit text r)) is h) then

pub judged : (limit : Limit) (text : List ℕ) (events : List Event) (status : Status) (out : List ℕ) → IsText limit text events → IsVerdict limit.writers events status out → IsReport limit text status out
judged limit text events status out reads verdict = inr (record { events = events; history = reads; verdict = verdict })

pub refused : (limit : Limit) (known : Option (List ℕ)) (place : ℕ) (fault : TextFault) (out : List ℕ) → IfSome known (λ text. HasFault limit text place fault) → out ≡ line_text (refusal_line place fault) → IfSome known (λ text. IsRefused limit text Refused out)
refused limit None place fault out first e = tt
refused limit (Some text) place fault out first e = record { place = place; fault = fault; first = first; answers = refl; writes = e }

pub reported : (limit : Limit) (known : Option (List ℕ)) (out : List ℕ) → IfSome known (λ text. IsRefused limit text Refused out) → IfSome known (λ text. IsReport limit text Refused out)
reported limit None out h = tt
reported limit (Some text) out h = inl h

pub sent : {A : Type 0} (Is : List ℕ → A → List ℕ → Type 0) (known held new : Option (List ℕ)) (answer : A) (out : List ℕ) → IfSome known (λ text. Is text answer out) → Appends held new out → IfSome known (λ text. WroteWhole (Is text) held new answer)
sent Is None held new answer out h a = tt
sent Is (Some text) held new answer out h a = (out, h, a)

pub front_sent : {A : Type 0} (Is : List ℕ → A → List ℕ → Type 0) (known held new : Option (List ℕ)) (answer : A) (out : List ℕ) → IfSome known (λ text. Is text answer out) → SendsFront held new out → IfSome known (λ text. WroteFront (Is text) held new)
front_sent Is None held new answer out h a = tt
front_sent Is (Some text) held new answer out h a = (answer, out, h, a)
