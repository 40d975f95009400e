use Rattle.std.proofs.Common.{◌≡◌, ◌++◌, Some, ap, codes, decimal, map}
use Rattle.std.specs.Prelude.{option_map}
use Rattle.std.specs.List.{flat_map}
use Rattle.snap_report.proofs.Pieces.{piece_added}
use Rattle.snap_explain.specs.Refusals.{quoted, record_text}
use Rattle.snap_explain.proofs.Pieces.{five_pieces}
use Rattle.snap_explain.proofs.refusal.put_record.Goals as goal

pub returns : goal.returns
returns c =
    let out = c.args.out.now.items in
    let place = c.args.place in
    let found = option_map (λ fields. map (λ f. f.items) fields.now) c.args.found in
    let fields = map (λ f. f.items) c.in-Some.fields.now in
    let same : found ≡ Some fields = ap (option_map (λ fields. map (λ f. f.items) fields.now)) c.in-Some.is in
    piece_added c.extend_from_slice-3.result c.extend_from_slice-3.new.self.items c.put_fields.new.out.items (codes "\n")
    (out ++ record_text place found) c.extend_from_slice-3.ensures.items
    (rw (c.in_ok-put_fields.ensures, c.in_ok-extend_from_slice.ensures.items, c.in_ok-put_number.ensures, c.from.ensures, same)
    (five_pieces out (codes "  record ") (decimal place) (codes " has the fields") (flat_map quoted fields) (codes "\n")))
