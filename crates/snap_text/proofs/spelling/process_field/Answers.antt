use Rattle.std.proofs.Common.{arith}
use Rattle.std.proofs.lemmas.Fmt.{length-decimal-le}
use Rattle.snap_text.proofs.spelling.process_field.Goals as goal

pub write_number-at-requires-clause-room : goal.write_number-at-requires-clause-room
write_number-at-requires-clause-room c =
    let process = length-decimal-le 5 c.from.result (omega arith) (omega arith) (omega arith) in
    omega arith
