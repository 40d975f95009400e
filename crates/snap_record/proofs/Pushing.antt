-- Each event of a history can be pushed after those before it.
use Rattle.std.proofs.Common.{◌≡◌, ◌≤◌, List, [], ◌∷◌, ◌++◌, length, None, sym, ap, ◌∙◌, subst, arith, append-nil, append_assoc, length-append}
use Rattle.snap_core.specs.declared.event.Event.{Event}
use Rattle.snap_core.specs.Events.{IsHistory}
use Rattle.snap_core.specs.declared.limit.Limit.{Limit}
use Rattle.snap_core.specs.declared.writers.Writers.TheVariants.{One}
use Rattle.snap_core.specs.Refusals.{IsAcceptedBy, refusal_of}
use Rattle.snap_core.proofs.Pushes.{history_back}
use Rattle.snap_core.proofs.Picks.{picked, is_short}

history_front : (ys xs : List Event) → IsHistory (xs ++ ys) → IsHistory xs
history_front [] xs h = subst IsHistory (append-nil xs) h
history_front (y ∷ ys) xs h = (history_back xs y (history_front ys (xs ++ y ∷ []) (subst IsHistory (sym (append_assoc xs (y ∷ []) ys)) h))).0

pub accepted : (limit : Limit) (xs : List Event) (e : Event) (rest whole : List Event) → xs ++ e ∷ rest ≡ whole → limit.writers ≡ One → IsHistory whole → length whole ≤ limit.events → refusal_of limit xs e ≡ None
accepted limit xs e rest whole is one h short =
    let front = history_front rest (xs ++ e ∷ []) (subst IsHistory (sym (append_assoc xs (e ∷ []) rest ∙ is)) h) in
    let a = subst (λ w. IsAcceptedBy w xs e) (sym one) (history_back xs e front).1 in
    let size = length-append xs (e ∷ rest) in let all = ap length is in
    picked limit xs e _ _ _ _ _ _ _ (is_short limit xs (omega arith)) a.not_busy a.not_idle a.not_other a.writer a.number a.order
