use Rattle.std.proofs.Common.{◌≡◌, rules}
use Rattle.std.specs.Prelude.{is_none}
use Rattle.snap_plain.proofs.PlainFacts.{plain_by_search}
use Rattle.snap_plain.proofs.lines.is_plain.Goals as goal

pub returns : goal.returns
returns c =
    let none : c.is_none.result ≡ is_none c.memchr2.result = search rules in
    rw none (plain_by_search c.args.text.now c.memchr2.result c.memchr2.ensures)
