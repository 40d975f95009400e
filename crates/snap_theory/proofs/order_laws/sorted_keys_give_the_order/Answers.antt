use Rattle.snap_theory.proofs.OrderLaws.{keys_give_order_law}
use Rattle.snap_theory.proofs.order_laws.sorted_keys_give_the_order.Goals as goal

pub returns : goal.returns
returns c = keys_give_order_law
