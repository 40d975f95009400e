use Rattle.snap_text.proofs.KnownFacts.{none_spelled}
use Rattle.snap_text.proofs.known.Known.new.Goals as goal

pub invariant_of-result : goal.invariant_of-result
invariant_of-result c = record { spelled = rw (c.new.ensures.items, c.new-2.ensures.items) none_spelled; viewed = λ v e. absurd cc }
