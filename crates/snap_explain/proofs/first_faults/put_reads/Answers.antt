use Rattle.std.proofs.Common.{◌∙◌, ap, not, sym}
use Rattle.snap_core.specs.Calls.{calls_of, views_of}
use Rattle.snap_explain.specs.Faults.{fault_text}
use Rattle.snap_explain.specs.FirstFaults.{firsts_among}
use Rattle.snap_conditions.specs.declared.fault.Kind.TheVariants.{Read}
use Rattle.snap_explain.proofs.FirstFaults.{is_nothing, no_read, read_part_of, untold}
use Rattle.snap_explain.proofs.first_faults.put_reads.Goals as goal

pub returns-then-is_none : goal.returns-then-is_none
returns-then-is_none g c =
    let calls = calls_of c.args.index.now in
    let rs = views_of calls in
    let none = sym c.first.ensures.first ∙ is_nothing c.first.result (c.is_none.ensures ∙ ap not c.if-is_none.true) in
    (untold (fault_text c.args.lines.listed c.args.lines.records.now calls) c.args.most (firsts_among Read calls rs) c.args.out.now.items (no_read calls rs c.args.tally.now.read (read_part_of calls rs c.args.tally.now c.requires.tally) none)).said
