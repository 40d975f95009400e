use Rattle.std.proofs.Common.{ℕ, ◌+◌, List, vec_capacity, sym, ap, ◌∙◌, subst, arith}
use Rattle.snap_account.specs.declared.account.Answered.{Answered}
use Rattle.snap_account.specs.Seats.{pairs, desk_of, doing_of, answered_of}
use Rattle.snap_account.specs.Tries.{IsRead, IsTrying}
use Rattle.snap_board.proofs.board.Board.try_until.Goals as goal

pub try_once-requires-clause-read : goal.try_once-requires-clause-read
try_once-requires-clause-read c =
    let i = c.tries.invariant in
    subst (λ (z : ℕ × List Answered). IsRead c.args.self.now.desks z.0 z.1 (pairs c.tries.before.items)) (λ k. (sym i.desk k, sym i.answered k)) i.read

pub returns-then-try_once-clause-read : goal.returns-then-try_once-clause-read
returns-then-try_once-clause-read c =
    let i = c.tries.invariant in
    subst (λ (z : ℕ × List Answered). IsRead c.args.self.now.desks z.0 z.1 (pairs c.try_once.new.since.items)) (λ k. (i.desk k, i.answered k)) c.try_once.ensures.read

pub tries-preserved : goal.tries-preserved
tries-preserved c =
    let i = c.tries.invariant in let e = c.try_once.ensures in
    let n = c.args.self.now.desks in
    let items = ap (λ (v : _). v.items) c.swap.ensures.x_after in
    record {
      at = e.seat.0 ∙ i.at;
      me = e.seat.1;
      desk = e.account.0 ∙ i.desk;
      answered = e.account.1 ∙ i.answered;
      begun = e.account.2 ∙ i.begun;
      ticks = omega (arith, e.ticks.0, i.ticks);
      made = e.ticks.1 ∙ ap (λ z. z + 1) i.made;
      trying = subst (λ (l : List ℕ). IsTrying n (desk_of c.args.seat.now.me.0) (answered_of c.args.seat.now.me.0) (pairs l) (doing_of c.try_once.new.seat.me.0)) (sym items)
          (subst (λ (z : ℕ × List Answered). IsTrying n z.0 z.1 (pairs c.try_once.new.since.items) (doing_of c.try_once.new.seat.me.0)) (λ k. (i.desk k, i.answered k)) (e.trying c.if-try_once.false));
      read = subst (λ (l : List ℕ). IsRead n (desk_of c.args.seat.now.me.0) (answered_of c.args.seat.now.me.0) (pairs l)) (sym items)
          (subst (λ (z : ℕ × List Answered). IsRead n z.0 z.1 (pairs c.try_once.new.since.items)) (λ k. (i.desk k, i.answered k)) e.read);
      room = (omega (arith, e.room, ap (λ (v : _). vec_capacity v) c.swap.ensures.x_after), omega (arith, i.room.0, ap (λ (v : _). vec_capacity v) c.swap.ensures.y_after));
    }
