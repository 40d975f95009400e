use Rattle.std.proofs.Common.{ap, refl, sym, ◌∙◌, arith, true, false}
use Rattle.snap_core.specs.Refusals.{breaks_order, breaks_writer, refusal_of}
use Rattle.snap_core.proofs.Picks.{picked, is_long, is_short}
use Rattle.snap_core.proofs.history.History.refusal.Goals as goal

pub returns-then-len-events : goal.returns-then-len-events
returns-then-len-events g c =
    let limit = c.self.inside.limit in
    let es = c.self.inside.events.items in
    let e = c.args.event.now in
    sym (picked limit es e true _ _ _ _ _ _ (is_long limit es (omega arith))
    refl
    refl
    refl
    refl
    refl
    refl)
    ∙ ap (λ z. refusal_of z.limit z.events e) c.self.view_is

pub returns-then-is_busy : goal.returns-then-is_busy
returns-then-is_busy g c =
    let limit = c.self.inside.limit in
    let es = c.self.inside.events.items in
    let e = c.args.event.now in
    sym (picked limit es e false true _ _ _ _ _ (is_short limit es (omega arith))
    (sym (c.is_busy.ensures limit.writers es c.self.invariant.0) ∙ c.if-is_busy.true)
    refl
    refl
    refl
    refl
    refl)
    ∙ ap (λ z. refusal_of z.limit z.events e) c.self.view_is

pub returns-then-is_idle : goal.returns-then-is_idle
returns-then-is_idle g c =
    let limit = c.self.inside.limit in
    let es = c.self.inside.events.items in
    let e = c.args.event.now in
    sym (picked limit es e false false true _ _ _ _ (is_short limit es (omega arith))
    (sym (c.is_busy.ensures limit.writers es c.self.invariant.0) ∙ c.if-is_busy.false)
    (sym (c.is_idle.ensures limit.writers es c.self.invariant.0) ∙ c.if-is_idle.true)
    refl
    refl
    refl
    refl)
    ∙ ap (λ z. refusal_of z.limit z.events e) c.self.view_is

pub returns-then-is_other : goal.returns-then-is_other
returns-then-is_other g c =
    let limit = c.self.inside.limit in
    let es = c.self.inside.events.items in
    let e = c.args.event.now in
    sym (picked limit es e false false false true _ _ _ (is_short limit es (omega arith))
    (sym (c.is_busy.ensures limit.writers es c.self.invariant.0) ∙ c.if-is_busy.false)
    (sym (c.is_idle.ensures limit.writers es c.self.invariant.0) ∙ c.if-is_idle.false)
    (sym (c.is_other.ensures limit.writers es c.self.invariant.0) ∙ c.if-is_other.true)
    refl
    refl
    refl)
    ∙ ap (λ z. refusal_of z.limit z.events e) c.self.view_is

pub returns-then-breaks_writer : goal.returns-then-breaks_writer
returns-then-breaks_writer g c =
    let limit = c.self.inside.limit in
    let es = c.self.inside.events.items in
    let e = c.args.event.now in
    sym (picked limit es e false false false false true _ _ (is_short limit es (omega arith))
    (sym (c.is_busy.ensures limit.writers es c.self.invariant.0) ∙ c.if-is_busy.false)
    (sym (c.is_idle.ensures limit.writers es c.self.invariant.0) ∙ c.if-is_idle.false)
    (sym (c.is_other.ensures limit.writers es c.self.invariant.0) ∙ c.if-is_other.false)
    (ap (λ z. breaks_writer z.limit.writers z.events e) c.self.view_is ∙ sym c.breaks_writer.ensures ∙ c.if-breaks_writer.true)
    refl
    refl)
    ∙ ap (λ z. refusal_of z.limit z.events e) c.self.view_is

pub returns-then-has_other_number : goal.returns-then-has_other_number
returns-then-has_other_number g c =
    let limit = c.self.inside.limit in
    let es = c.self.inside.events.items in
    let e = c.args.event.now in
    sym (picked limit es e false false false false false true _ (is_short limit es (omega arith))
    (sym (c.is_busy.ensures limit.writers es c.self.invariant.0) ∙ c.if-is_busy.false)
    (sym (c.is_idle.ensures limit.writers es c.self.invariant.0) ∙ c.if-is_idle.false)
    (sym (c.is_other.ensures limit.writers es c.self.invariant.0) ∙ c.if-is_other.false)
    (ap (λ z. breaks_writer z.limit.writers z.events e) c.self.view_is ∙ sym c.breaks_writer.ensures ∙ c.if-breaks_writer.false)
    (sym (c.has_other_number.ensures limit.writers es c.self.invariant.0) ∙ c.if-has_other_number.true)
    refl)
    ∙ ap (λ z. refusal_of z.limit z.events e) c.self.view_is

pub returns-then-breaks_order : goal.returns-then-breaks_order
returns-then-breaks_order g c =
    let limit = c.self.inside.limit in
    let es = c.self.inside.events.items in
    let e = c.args.event.now in
    sym (picked limit es e false false false false false false true (is_short limit es (omega arith))
    (sym (c.is_busy.ensures limit.writers es c.self.invariant.0) ∙ c.if-is_busy.false)
    (sym (c.is_idle.ensures limit.writers es c.self.invariant.0) ∙ c.if-is_idle.false)
    (sym (c.is_other.ensures limit.writers es c.self.invariant.0) ∙ c.if-is_other.false)
    (ap (λ z. breaks_writer z.limit.writers z.events e) c.self.view_is ∙ sym c.breaks_writer.ensures ∙ c.if-breaks_writer.false)
    (sym (c.has_other_number.ensures limit.writers es c.self.invariant.0) ∙ c.if-has_other_number.false)
    (ap (λ z. breaks_order z.limit.writers z.events e) c.self.view_is ∙ sym c.breaks_order.ensures ∙ c.if-breaks_order.true))
    ∙ ap (λ z. refusal_of z.limit z.events e) c.self.view_is

pub returns-else-breaks_order : goal.returns-else-breaks_order
returns-else-breaks_order g c =
    let limit = c.self.inside.limit in
    let es = c.self.inside.events.items in
    let e = c.args.event.now in
    sym (picked limit es e false false false false false false false (is_short limit es (omega arith))
    (sym (c.is_busy.ensures limit.writers es c.self.invariant.0) ∙ c.if-is_busy.false)
    (sym (c.is_idle.ensures limit.writers es c.self.invariant.0) ∙ c.if-is_idle.false)
    (sym (c.is_other.ensures limit.writers es c.self.invariant.0) ∙ c.if-is_other.false)
    (ap (λ z. breaks_writer z.limit.writers z.events e) c.self.view_is ∙ sym c.breaks_writer.ensures ∙ c.if-breaks_writer.false)
    (sym (c.has_other_number.ensures limit.writers es c.self.invariant.0) ∙ c.if-has_other_number.false)
    (ap (λ z. breaks_order z.limit.writers z.events e) c.self.view_is ∙ sym c.breaks_order.ensures ∙ c.if-breaks_order.false))
    ∙ ap (λ z. refusal_of z.limit z.events e) c.self.view_is
