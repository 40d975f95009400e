-- Beginnings at which nothing was left.
use Rattle.std.proofs.Common.{List, ◌↔◌, inl, inr, arith}
use Rattle.snap_core.specs.Calls.{Call}
use Rattle.snap_core.specs.Orders.{IsLegalOrder}
use Rattle.snap_core.specs.declared.writers.Writers.TheVariants.{One, Many}
use Rattle.snap_theory.specs.Windows.{IsLegalOrderFrom, nothing}
use Rattle.snap_theory.specs.WindowLaws.{RegularFromNothing, AtomicFromNothing}

pub regular_from_nothing : RegularFromNothing
regular_from_nothing calls = (
  λ h. record { not_old = h.not_old; not_early = λ r k e v s. elim (h.not_early r k e v s) [ inl n ↦ cc | inr u ↦ u ] },
  λ h. record { not_old = h.not_old; not_less = λ r k v. omega arith; not_early = λ r k e v s. inr (h.not_early r k e v s) },
)

legal_from_nothing : (calls order : List Call) → IsLegalOrderFrom nothing calls order ↔ IsLegalOrder calls order
legal_from_nothing calls order = (
  λ o. record { only = o.only; distinct = o.distinct; completed = o.completed; precedence = o.precedence; latest = o.latest },
  λ o. record { only = o.only; distinct = o.distinct; completed = o.completed; precedence = o.precedence; latest = o.latest },
)

pub atomic_from_nothing : AtomicFromNothing
atomic_from_nothing One calls = (λ a. (a.0, (legal_from_nothing calls a.0).0 a.1), λ a. (a.0, (legal_from_nothing calls a.0).1 a.1))
atomic_from_nothing Many calls = (
  λ a. (a.0, record { legal = (legal_from_nothing calls a.0).0 a.1.legal; rising = a.1.rising }),
  λ a. (a.0, record { legal = (legal_from_nothing calls a.0).1 a.1.legal; rising = a.1.rising }),
)
