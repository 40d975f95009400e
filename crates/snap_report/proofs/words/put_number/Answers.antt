use Rattle.std.proofs.Common.{arith}
use Rattle.std.proofs.lemmas.Fmt.{length-decimal-le}
use Rattle.snap_report.proofs.words.put_number.Goals as goal

pub write_digits-at-requires : goal.write_digits-at-requires
write_digits-at-requires c =
    let number = length-decimal-le 20 c.args.number (omega arith) (omega arith) (omega arith) in
    (omega arith, omega arith)
