use Rattle.std.proofs.Common.{◌++◌, codes}
use Rattle.snap_report.specs.Lines.{call_word, update_word}
use Rattle.snap_report.proofs.Pieces.{same_text}
use Rattle.snap_explain.specs.Faults.{proximity_sentence, side_text}
use Rattle.snap_explain.proofs.Pieces.{five_pieces}
use Rattle.snap_explain.proofs.faults.put_proximity.Goals as goal

pub returns : goal.returns
returns c =
    let out = c.args.out.now.items in
    let f = c.args.fault.now in
    same_text c.put_side.result c.put_side.new.out.items _ (out ++ proximity_sentence f)
    (rw (c.in_ok-put_update.ensures, c.in_ok-put_call.ensures)
    (five_pieces out (codes "proximity: view ") (call_word f.view) (codes " shows ") (update_word f.component f.number) (side_text f.component f.number f.side)))
    c.put_side.ensures
