use Rattle.std.proofs.Common.{◌≡◌, ℕ, ◌*◌, ◌≤◌, length, map, true≢false, refl, ap, ◌∙◌, sym, subst}
use Rattle.snap_account.specs.Rule.{Boarded, clock}
use Rattle.snap_board.specs.Boards.{BoardView, GatheredView}
use Rattle.snap_account.specs.Seats.{brief}
use Rattle.snap_board.specs.Settled.{Settled, ScansSettled, TicksSettled}
use Rattle.snap_board.specs.inside.Slots.{desks_in, AllIn, HasLast}
use Rattle.snap_board.proofs.Closing.{settles, settles_clock, settles_scans, settles_ticks}
use Rattle.snap_board.proofs.Ordering.{close_history, close_completed, close_regular}
use Rattle.snap_board.proofs.Monotone.{close_monotone}
use Rattle.snap_board.proofs.Atomic.{close_atomic}
use Rattle.snap_board.proofs.Climbing.{were_interfered}
use Rattle.snap_board.proofs.Fields.{gathered_at}
use Rattle.snap_board.proofs.Slotting.{all_held, held_all, last_stores}
use Rattle.snap_board.proofs.board.Board.close.Goals as goal

pub returns-then-not-all_in-clause-exact : goal.returns-then-not-all_in-clause-exact
returns-then-not-all_in-clause-exact c = (
  λ ok. absurd (true≢false (sym ok)),
  λ (full : length c.args.gathered.accounts ≡ c.args.self.desks).
      let old = c.gathered.inside in
      let is : length old.seat.me.0 ≡ old.desks = ap (λ (g : GatheredView). length g.accounts) c.gathered.view_is ∙ full ∙ sym c.requires.1 ∙ sym (ap (λ (g : GatheredView). g.desks) c.gathered.view_is) in
      absurd (true≢false (sym (c.if-not-all_in.ensures.1 (held_all old.desks old.slots old.seat.me.0 c.gathered.invariant.matches is)))),
)

pub returns-clause-exact : goal.returns-clause-exact
returns-clause-exact c = (
  (λ _. let old = c.gathered.inside in
      sym (ap (λ (g : GatheredView). length g.accounts) c.gathered.view_is) ∙ all_held old.desks old.slots old.seat.me.0 c.gathered.invariant.matches (c.if-not-all_in.ensures.0 refl) ∙ ap (λ (g : GatheredView). g.desks) c.gathered.view_is ∙ c.requires.1),
  λ _. refl,
)

pub returns-clause-settled : goal.returns-clause-settled
returns-clause-settled c _ =
    let old = c.gathered.inside in let self = c.self.inside in
    let v = c.close_with.ensures.values.2 in
    let at = gathered_at self _ old _ c.self.view_is c.gathered.view_is c.requires in
    subst (λ (b : BoardView). Settled b.desks c.args.gathered.accounts) c.self.view_is
    (subst (λ (g : GatheredView). Settled self.desks g.accounts) c.gathered.view_is
    (settles self.desks self.table.shared.key.limit.ticks old.seat.id old.seat.me.0 old.slots v.0 (subst (λ (z : ℕ). Boarded z self.table.shared.key.limit.ticks v.0) c.self.invariant.keyed v.1.0) v.1.1
    (c.gathered.invariant.matches ∙ ap (λ z. desks_in z old.slots) at.1) (subst (λ (z : ℕ). AllIn z old.slots) at.1 (c.if-not-all_in.ensures.0 refl))))

pub returns-clause-ticks : goal.returns-clause-ticks
returns-clause-ticks c _ =
    let old = c.gathered.inside in let self = c.self.inside in
    let v = c.close_with.ensures.values.2 in
    let at = gathered_at self _ old _ c.self.view_is c.gathered.view_is c.requires in
    subst (λ (g : GatheredView). TicksSettled g.accounts) c.gathered.view_is
    (settles_ticks self.desks self.table.shared.key.limit.ticks old.seat.id old.seat.me.0 old.slots v.0 (subst (λ (z : ℕ). Boarded z self.table.shared.key.limit.ticks v.0) c.self.invariant.keyed v.1.0) v.1.1
    (c.gathered.invariant.matches ∙ ap (λ z. desks_in z old.slots) at.1) (subst (λ (z : ℕ). AllIn z old.slots) at.1 (c.if-not-all_in.ensures.0 refl)))

pub returns-clause-clock : goal.returns-clause-clock
returns-clause-clock c _ =
    let old = c.gathered.inside in let self = c.self.inside in
    let v = c.close_with.ensures.values.2 in
    let at = gathered_at self _ old _ c.self.view_is c.gathered.view_is c.requires in
    subst (λ (b : BoardView). clock c.args.gathered.accounts ≤ b.desks * b.limit) c.self.view_is
    (subst (λ (g : GatheredView). clock g.accounts ≤ self.desks * self.limit.ticks) c.gathered.view_is
    (subst (λ (l : ℕ). clock old.seat.me.0 ≤ self.desks * l) c.self.invariant.limited
    (settles_clock self.desks self.table.shared.key.limit.ticks old.seat.id old.seat.me.0 old.slots v.0 (subst (λ (z : ℕ). Boarded z self.table.shared.key.limit.ticks v.0) c.self.invariant.keyed v.1.0) v.1.1
    (c.gathered.invariant.matches ∙ ap (λ z. desks_in z old.slots) at.1) (subst (λ (z : ℕ). AllIn z old.slots) at.1 (c.if-not-all_in.ensures.0 refl)))))

pub returns-clause-history : goal.returns-clause-history
returns-clause-history c e = close_history c.args.self.desks c.args.gathered.accounts (returns-clause-settled c e)

pub returns-clause-completed : goal.returns-clause-completed
returns-clause-completed c e = close_completed c.args.self.desks c.args.gathered.accounts (returns-clause-settled c e)

pub returns-clause-regular : goal.returns-clause-regular
returns-clause-regular c e = close_regular c.args.self.desks c.args.gathered.accounts (returns-clause-settled c e)

pub returns-clause-monotone : goal.returns-clause-monotone
returns-clause-monotone c e = close_monotone c.args.self.desks c.args.gathered.accounts (returns-clause-settled c e)

pub returns-clause-scans : goal.returns-clause-scans
returns-clause-scans c _ =
    let old = c.gathered.inside in let self = c.self.inside in
    let v = c.close_with.ensures.values.2 in
    subst (λ (g : GatheredView). ScansSettled g.accounts) c.gathered.view_is
    (settles_scans self.desks self.table.shared.key.limit.ticks old.seat.id old.seat.me.0 v.0 (subst (λ (z : ℕ). Boarded z self.table.shared.key.limit.ticks v.0) c.self.invariant.keyed v.1.0) v.1.1)

pub returns-clause-interfered : goal.returns-clause-interfered
returns-clause-interfered c e = were_interfered c.args.self.desks c.args.gathered.accounts (returns-clause-settled c e) (returns-clause-scans c e)

pub returns-clause-atomic : goal.returns-clause-atomic
returns-clause-atomic c e = close_atomic c.args.self.desks c.args.gathered.accounts (returns-clause-settled c e) (returns-clause-scans c e)

pub returns-clause-last : goal.returns-clause-last
returns-clause-last c =
    let old = c.gathered.inside in let self = c.self.inside in
    let at = gathered_at self _ old _ c.self.view_is c.gathered.view_is c.requires in
    let n = at.1 ∙ ap (λ (b : BoardView). b.desks) c.self.view_is in
    let hand = ap (λ (g : GatheredView). g.accounts) c.gathered.view_is in
    last_stores c.args.self.desks (record { desks = old.desks; last = c.last_stores-last.result }) old.slots c.args.gathered.accounts n (subst (λ (z : ℕ). HasLast z old.slots c.last_stores-last.result) n c.last_stores-last.ensures.0) (returns-clause-settled c refl)
    (ap (map brief) (sym hand) ∙ c.gathered.invariant.matches ∙ ap (λ z. desks_in z old.slots) n)
