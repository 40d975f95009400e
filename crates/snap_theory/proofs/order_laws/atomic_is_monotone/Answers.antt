use Rattle.snap_theory.proofs.OrderLaws.{atomic_is_monotone}
use Rattle.snap_theory.proofs.order_laws.atomic_is_monotone.Goals as goal

pub returns : goal.returns
returns c = atomic_is_monotone
