use Rattle.snap_theory.proofs.OrderLaws.{printed_order_alone}
use Rattle.snap_theory.proofs.order_laws.printed_order_is_alone.Goals as goal

pub returns : goal.returns
returns c = printed_order_alone
