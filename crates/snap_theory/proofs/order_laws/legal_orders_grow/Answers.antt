use Rattle.snap_theory.proofs.OrderLaws.{legal_start_grows}
use Rattle.snap_theory.proofs.order_laws.legal_orders_grow.Goals as goal

pub returns : goal.returns
returns c = legal_start_grows
