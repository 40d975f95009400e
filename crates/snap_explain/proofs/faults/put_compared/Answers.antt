use Rattle.std.proofs.Common.{◌++◌, codes}
use Rattle.snap_core.specs.Calls.{calls_of}
use Rattle.snap_report.proofs.Pieces.{piece_added}
use Rattle.snap_explain.specs.Faults.{compared_text, view_numbers}
use Rattle.snap_explain.proofs.Pieces.{five_pieces}
use Rattle.snap_explain.proofs.faults.put_compared.Goals as goal

pub returns : goal.returns
returns g c =
    let out = c.args.out.now.items in
    let calls = calls_of c.args.index.now in
    let updates = c.args.updates.now in
    let f = c.args.fault.now in
    piece_added c.extend_from_slice.result c.extend_from_slice.new.self.items c.put_numbers-2.new.out.items (codes "\n")
    (out ++ compared_text calls updates f) c.extend_from_slice.ensures.items
    (rw (c.in_ok-put_numbers-2.ensures, c.in_ok-put_numbers.ensures)
    (five_pieces out (codes "  ") (view_numbers calls updates f.view) (codes "; ") (view_numbers calls updates f.other) (codes "\n")))
