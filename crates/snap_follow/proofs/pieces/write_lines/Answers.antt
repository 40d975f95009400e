use Rattle.std.proofs.Common.{[], inl, refl, sym, ◌∙◌}
use Rattle.snap_core.specs.Counting.{inner_of}
use Rattle.snap_follow.proofs.Sending.{nothing_sent, sent_part}
use Rattle.snap_follow.proofs.Unquoting.{no_elements}
use Rattle.snap_follow.proofs.pieces.write_lines.Goals as goal

pub returns-in-Err-clause-wrote : goal.returns-in-Err-clause-wrote
returns-in-Err-clause-wrote g c = sent_part g.W.Write.contents c.args.writer.now c.send.new.self c.lines-2.result.now c.lines-2.ensures.whole c.in-Err.ensures.bytes c.in-Err.ensures.counts

pub returns-then-is_empty-clause-all : goal.returns-then-is_empty-clause-all
returns-then-is_empty-clause-all g c =
    let none = sym c.lines.ensures.same ∙ no_elements c.lines.result.now (sym c.if-is_empty.ensures) in
    (record { out = []; whole = inl refl; sent = nothing_sent (g.W.Write.contents (inner_of c.args.writer.now)); counts = refl }, (none, none, refl))

pub returns-in-Ok-clause-all : goal.returns-in-Ok-clause-all
returns-in-Ok-clause-all g c = (
  record { out = c.lines-2.result.now; whole = c.lines-2.ensures.whole; sent = c.in-Ok.ensures.bytes; counts = c.in-Ok.ensures.counts },
  (sym c.lines-2.ensures.same, c.clear_lines.ensures.none, c.clear_lines.ensures.sums),
)
