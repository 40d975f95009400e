use Rattle.std.proofs.Common.{◌≡◌, ◌+◌, ◌∙◌, length, ap, subst}
use Rattle.snap_core.specs.Calls.{calls_of, views_of}
use Rattle.snap_conditions.specs.declared.tally.Tally.{Tally}
use Rattle.snap_conditions.specs.Parts.{part_of}
use Rattle.snap_conditions.specs.Tally.{reported_read, tally_of, without_read}
use Rattle.snap_conditions.proofs.Ranges.{tally_is}
use Rattle.snap_theory.specs.Faults.{read_faults, stale_count}
use Rattle.snap_views.specs.Seen.{views_between}
use Rattle.snap_tally.proofs.Faultless.{faultless_tally}
use Rattle.snap_pairs.specs.inside.Pieces.{block_from, piece_start, views_in_blocks, views_in_piece, with_reads}
use Rattle.snap_pairs.specs.inside.Reads.{IsGridFor}
use Rattle.snap_pairs.proofs.reads.piece_tally.Goals as goal

pub returns-in-None : goal.returns-in-None
returns-in-None g c =
    let calls = calls_of c.args.index.now in
    let n = c.args.cutting.pieces in
    let p = c.args.piece in
    let views = length (views_of calls) in
    let same = c.view_count-views.ensures in
    let from : c.start_of-from.result ≡ piece_start n p views = c.start_of-from.ensures.start ∙ ap (piece_start n p) same in
    let to : c.start_of-to.result ≡ piece_start n (p + 1) views = c.start_of-to.ensures.start ∙ ap (piece_start n (p + 1)) same in
    let others : c.tally_without_read-others.result ≡ without_read (tally_of calls (views_in_piece calls n p)) = c.tally_without_read-others.ensures ∙ (λ i. without_read (tally_of calls (views_between calls (from i) (to i)))) in
    let none = faultless_tally calls (block_from (piece_start n p views) views) (block_from (piece_start n (p + 1) views) views) (subst (IsGridFor c.args.index.now) c.in-None.is c.requires.grid) in
    (c.requires.piece, others ∙ ap (with_reads (tally_of calls (views_in_piece calls n p))) none)

pub returns-in_ok-read-in-Some : goal.returns-in_ok-read-in-Some
unfolding tally_of
returns-in_ok-read-in-Some g c =
    let calls = calls_of c.args.index.now in
    let n = c.args.cutting.pieces in
    let p = c.args.piece in
    let views = length (views_of calls) in
    let same = c.view_count-views.ensures in
    let from : c.start_of-from.result ≡ piece_start n p views = c.start_of-from.ensures.start ∙ ap (piece_start n p) same in
    let to : c.start_of-to.result ≡ piece_start n (p + 1) views = c.start_of-to.ensures.start ∙ ap (piece_start n (p + 1)) same in
    let first : c.block_at-first.result ≡ block_from (piece_start n p views) views = c.block_at-first.ensures.start ∙ (λ i. block_from (from i) (same i)) in
    let end : c.block_at-end.result ≡ block_from (piece_start n (p + 1) views) views = c.block_at-end.ensures.start ∙ (λ i. block_from (to i) (same i)) in
    let events = subst (IsGridFor c.args.index.now) c.in-Some.is c.requires.grid in
    let others : c.tally_without_read-others.result ≡ without_read (tally_of calls (views_in_piece calls n p)) = c.tally_without_read-others.ensures ∙ (λ i. without_read (tally_of calls (views_between calls (from i) (to i)))) in
    let reads = c.in_ok-read-in-Some.ensures.faults ∙ (λ i. part_of reported_read (read_faults (calls_of (events i)) (views_between (calls_of (events i)) (first i) (end i)))) in
    let stale = c.in_ok-read-in-Some.ensures.stale ∙ (λ i. stale_count (calls_of (events i)) (views_between (calls_of (events i)) (first i) (end i))) in (
      c.requires.piece,
      tally_is _ (with_reads (tally_of calls (views_in_piece calls n p)) (tally_of calls (views_in_blocks calls n p)))
          (ap (λ (t : Tally). t.integrity) others) (ap (λ (t : Tally). t.proximity) others) reads (ap (λ (t : Tally). t.write) others) stale,
    )
