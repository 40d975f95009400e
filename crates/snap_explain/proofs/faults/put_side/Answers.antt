use Rattle.std.proofs.Common.{◌≡◌, ◌++◌, ◌∙◌, suc, ap, codes, sym}
use Rattle.snap_report.specs.Lines.{update_word}
use Rattle.snap_report.proofs.Pieces.{piece_added}
use Rattle.snap_witness.specs.Places.{side_number}
use Rattle.snap_explain.specs.Faults.{side_text}
use Rattle.snap_explain.proofs.Pieces.{three_pieces}
use Rattle.snap_explain.proofs.faults.put_side.Goals as goal

pub returns-in_ok-put_update-in-Old : goal.returns-in_ok-put_update-in-Old
returns-in_ok-put_update-in-Old c =
    let out = c.args.out.now.items in
    let f = c.args.fault.now in
    let update : c.args.update ≡ suc f.number = c.requires ∙ ap (λ side. side_number side f.number) c.in-Old.is in
    piece_added c.extend_from_slice.result c.extend_from_slice.new.self.items c.put_update.new.out.items (codes " had ended before the view began\n")
    (out ++ side_text f.component f.number f.side) c.extend_from_slice.ensures.items
    (rw (c.in_ok-put_update-in-Old.ensures, update)
    (three_pieces out (codes ", though update ") (update_word f.component (suc f.number)) (codes " had ended before the view began\n")
    ∙ ap (λ side. out ++ side_text f.component f.number side) (sym c.in-Old.is)))

pub returns-in-Early : goal.returns-in-Early
returns-in-Early c =
    let out = c.args.out.now.items in
    let f = c.args.fault.now in
    piece_added c.extend_from_slice-in-Early.result c.extend_from_slice-in-Early.new.self.items out (codes ", though that update began after the view had ended\n")
    (out ++ side_text f.component f.number f.side) c.extend_from_slice-in-Early.ensures.items
    (ap (λ side. out ++ side_text f.component f.number side) (sym c.in-Early.is))
