use Rattle.std.proofs.Common.{◌≡◌, ◌++◌, ◌∙◌, false, ap, codes, decimal, sym}
use Rattle.std.specs.Prelude.{if◌then◌else◌, unwrap_or}
use Rattle.snap_core.specs.Calls.{call_numbered, calls_of, precedes}
use Rattle.snap_theory.specs.Faults.{least_exceeding}
use Rattle.snap_report.proofs.Pieces.{piece_added}
use Rattle.snap_witness.proofs.Excess.{least_exceeded}
use Rattle.snap_explain.specs.Faults.{against_text}
use Rattle.snap_explain.proofs.Pieces.{three_pieces}
use Rattle.snap_explain.proofs.faults.put_against.Goals as goal

pub returns : goal.returns
returns g c =
    let out = c.args.out.now.items in
    let r = call_numbered (calls_of c.args.index.now) c.args.view in
    let s = call_numbered (calls_of c.args.index.now) c.args.other in
    let less = unwrap_or (least_exceeding s r) 0 in
    let least : c.least_exceeding.result ≡ least_exceeding s r = c.least_exceeding.ensures ∙ least_exceeded s r c.view_numbered.result.now c.view_numbered-shown.result.now c.view_numbered.ensures c.view_numbered-shown.ensures in
    let number : c.from.result ≡ less = c.from.ensures ∙ c.unwrap_or-less.ensures ∙ ap (λ o. unwrap_or o 0) least in
    let apart : precedes r s ≡ false = sym c.precedes.ensures ∙ c.if-precedes.false in
    piece_added c.extend_from_slice-2.result c.extend_from_slice-2.new.self.items c.put_number.new.out.items (codes "\n") (out ++ against_text r s) c.extend_from_slice-2.ensures.items
    (rw (c.in_ok-put_number.ensures, number)
    (three_pieces out (codes ", and less of component ") (decimal less) (codes "\n")
    ∙ ap (λ b. out ++ (if b then codes ", and had ended before that view began\n" else codes ", and less of component " ++ decimal less ++ codes "\n")) (sym apart)))
