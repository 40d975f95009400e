use Rattle.std.proofs.Common.{◌++◌, codes, refl}
use Rattle.std.specs.List.{flat_map}
use Rattle.snap_report.specs.Lines.{call_word, entry_word, process_word}
use Rattle.snap_report.proofs.Pieces.{piece_added}
use Rattle.snap_report.proofs.words.put_view_line.Goals as goal

pub returns : goal.returns
returns c =
    piece_added c.extend_from_slice.result c.extend_from_slice.new.self.items c.put_groups.new.out.items (codes "\n")
    (c.args.out.now.items ++ call_word c.args.number ++ codes " " ++ process_word c.args.process ++ codes " view" ++ flat_map (λ entry. codes " " ++ entry_word entry) c.args.entries.now ++ codes "\n")
    c.extend_from_slice.ensures.items
    (rw (c.in_ok-put_groups.ensures, c.in_ok-put_view_front.ensures) refl)
