use Rattle.std.proofs.Common.{◌++◌, ◌∙◌, [], ◌∷◌, ap, codes, decimal, sym}
use Rattle.snap_conditions.specs.declared.fault.Kind.TheVariants.{Proximity}
use Rattle.snap_report.specs.Faults.{line_of_kind, proximity_line, side_word}
use Rattle.snap_report.specs.Lines.{call_word, line_text, update_word}
use Rattle.snap_report.proofs.Pieces.{eight_words, piece_added}
use Rattle.snap_report.proofs.faults.put_proximity.Goals as goal

pub returns-in-Old : goal.returns-in-Old
returns-in-Old c =
    let out = c.args.out.now.items in
    let f = c.args.fault.now in
    piece_added c.extend_from_slice.result c.extend_from_slice.new.self.items c.put_update.new.out.items (codes " old\n")
    (out ++ line_text (proximity_line c.args.count f)) c.extend_from_slice.ensures.items
    (rw (c.in_ok-put_update.ensures, c.in_ok-put_first.ensures)
    (eight_words (codes " ") (codes "\n") out (codes "proximity") (decimal c.args.count) (codes "first") (codes "view") (call_word f.view) (codes "entry") (update_word f.component f.number) (codes "old"))
    ∙ ap (λ side. out ++ line_text (line_of_kind Proximity c.args.count f.view (codes "entry" ∷ update_word f.component f.number ∷ side_word side ∷ []))) (sym c.in-Old.is))

pub returns-in-Early : goal.returns-in-Early
returns-in-Early c =
    let out = c.args.out.now.items in
    let f = c.args.fault.now in
    piece_added c.extend_from_slice-in-Early.result c.extend_from_slice-in-Early.new.self.items c.put_update.new.out.items (codes " early\n")
    (out ++ line_text (proximity_line c.args.count f)) c.extend_from_slice-in-Early.ensures.items
    (rw (c.in_ok-put_update.ensures, c.in_ok-put_first.ensures)
    (eight_words (codes " ") (codes "\n") out (codes "proximity") (decimal c.args.count) (codes "first") (codes "view") (call_word f.view) (codes "entry") (update_word f.component f.number) (codes "early"))
    ∙ ap (λ side. out ++ line_text (line_of_kind Proximity c.args.count f.view (codes "entry" ∷ update_word f.component f.number ∷ side_word side ∷ []))) (sym c.in-Early.is))
