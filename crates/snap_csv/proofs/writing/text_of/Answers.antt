use Rattle.std.proofs.Common.{◌++◌, List, ℕ, take, subst, sym, ap, ◌∙◌}
use Rattle.std.proofs.lemmas.List.{take_all}
use Rattle.snap_format.specs.Layout.{history_text}
use Rattle.snap_csv.specs.Writing.{Holds}
use Rattle.snap_csv.proofs.WriteFacts.{history_more}
use Rattle.snap_format.proofs.LineFacts.{line_of}
use Rattle.snap_csv.proofs.writing.text_of.Goals as goal

pub loop-event-init : goal.loop-event-init
loop-event-init g c = c.in_ok-writer.ensures

pub loop-event-preserved : goal.loop-event-preserved
loop-event-preserved g c =
    let events = c.events-events.result.now in
    let i = c.loop-event.event-index in
    let fits = (rw (sym c.events-events.ensures.events) at c.events-events.ensures.history).fit i _ c.loop-event-test.true in
    subst (λ (t : List ℕ). Holds c.write_event.new.writer t)
    (ap (λ (t : List ℕ). history_text (take i events) ++ t) (line_of _ fits) ∙ sym (history_more events i _ c.loop-event-test.true))
    (rw c.event-item.is at (c.in_ok-write_event.ensures (history_text (take i events)) c.loop-event.invariant))

pub returns : goal.returns
returns g c =
    c.in_ok-text.ensures _ c.loop-event.invariant
    ∙ ap history_text (take_all c.loop-event.event-index c.events-events.result.now c.loop-event-test.false ∙ c.events-events.ensures.events)
