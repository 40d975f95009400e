use Rattle.snap_theory.proofs.OrderLaws.{ordered_printed_alone, ordered_keys_give_order}
use Rattle.snap_theory.proofs.version_laws.ordered_printed_order_is_alone.Goals as goal

pub returns-clause-alone : goal.returns-clause-alone
returns-clause-alone c = ordered_printed_alone

pub returns-clause-keys : goal.returns-clause-keys
returns-clause-keys c = ordered_keys_give_order
