use Rattle.std.proofs.Common.{arith}
use Rattle.std.proofs.lemmas.Grind.{common_steps}
use Rattle.std.proofs.lemmas.Fmt.{length-decimal-le}
use Rattle.snap_text.proofs.words.write_entry.Goals as goal

pub write_number-at-requires-clause-room : goal.write_number-at-requires-clause-room
write_number-at-requires-clause-room c =
    let value = length-decimal-le 10 c.from.result (omega arith) (omega arith) (omega arith) in
    omega arith

pub write_number-at-requires-2-clause-room : goal.write_number-at-requires-2-clause-room
write_number-at-requires-2-clause-room c =
    let value = length-decimal-le 10 c.from.result (omega arith) (omega arith) (omega arith) in
    let number = length-decimal-le 10 c.from-2.result (omega arith) (omega arith) (omega arith) in
    omega arith

pub write_number-requires-clause-room : goal.write_number-requires-clause-room
write_number-requires-clause-room c =
    let value = length-decimal-le 10 c.from.result (omega arith) (omega arith) (omega arith) in
    let number = length-decimal-le 10 c.from-2.result (omega arith) (omega arith) (omega arith) in
    let component = length-decimal-le 3 c.from-3.result (omega arith) (omega arith) (omega arith) in
    omega arith

pub returns-clause-start : goal.returns-clause-start
returns-clause-start c =
    let value = length-decimal-le 10 c.from.result (omega arith) (omega arith) (omega arith) in
    let number = length-decimal-le 10 c.from-2.result (omega arith) (omega arith) (omega arith) in
    let component = length-decimal-le 3 c.from-3.result (omega arith) (omega arith) (omega arith) in
    (omega arith, omega arith)

pub returns-clause-written : goal.returns-clause-written
returns-clause-written c = grind (arith, common_steps)
