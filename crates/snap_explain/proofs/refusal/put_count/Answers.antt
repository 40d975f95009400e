use Rattle.std.proofs.Common.{◌++◌, append-nil, append_assoc, decimal}
use Rattle.snap_report.proofs.Pieces.{piece_added}
use Rattle.snap_explain.proofs.refusal.put_count.Goals as goal

pub returns : goal.returns
returns c =
    piece_added c.extend_from_slice.result c.extend_from_slice.new.self.items c.put_number.new.out.items c.args.after.now
    (c.args.out.now.items ++ (c.args.before.now ++ decimal c.args.number ++ c.args.after.now)) c.extend_from_slice.ensures.items
    (rw c.in_ok-put_number.ensures (simp (append-nil, append_assoc)))
