use Rattle.std.proofs.Common.{rules, ◌≡◌, []}
use Rattle.snap_text.proofs.KnownFacts.{none_spelled, read_spelled}
use Rattle.snap_text.proofs.known.Known.keep.Goals as goal

pub invariant_of-self : goal.invariant_of-self
invariant_of-self c =
    let text : c.clear.new.self.items ≡ [] = search rules in
    let entries : c.extend_from_slice.new.self.items ≡ [] = search rules in
    record { spelled = rw (text, entries) none_spelled; viewed = λ v e. absurd cc }

pub invariant_of-self-then-is_err : goal.invariant_of-self-then-is_err
invariant_of-self-then-is_err c =
    let text : c.extend_from_slice-kept.new.self.items ≡ [] = search rules in
    let entries : c.clear-then-is_err.new.self.items ≡ [] = search rules in
    record { spelled = rw (text, entries) none_spelled; viewed = λ v e. absurd cc }

pub invariant_of-self-else-is_err : goal.invariant_of-self-else-is_err
invariant_of-self-else-is_err c =
    let text : c.extend_from_slice-kept.new.self.items ≡ c.args.text.now = search rules in
    let entries : c.extend_from_slice.new.self.items ≡ c.args.entries.now = search rules in
    record { spelled = rw (text, entries) (read_spelled c.args.entries.now c.args.text.now c.requires); viewed = λ v e. absurd cc }
