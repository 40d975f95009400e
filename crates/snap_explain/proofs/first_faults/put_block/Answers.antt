use Rattle.std.proofs.Common.{◌∙◌, ap, not, sym}
use Rattle.snap_core.specs.Calls.{calls_of}
use Rattle.snap_views.specs.Seen.{views_between}
use Rattle.snap_explain.specs.Faults.{fault_text}
use Rattle.snap_explain.specs.FirstFaults.{firsts_among}
use Rattle.snap_conditions.specs.declared.fault.Kind.TheVariants.{Read}
use Rattle.snap_explain.proofs.FirstFaults.{is_nothing, no_read, untold}
use Rattle.snap_explain.proofs.first_faults.put_block.Goals as goal

pub returns-then-is_none-clause-text : goal.returns-then-is_none-clause-text
returns-then-is_none-clause-text g c =
    let calls = calls_of c.args.grid.now in
    let rs = views_between calls c.args.between.0 c.args.between.1 in
    let none = sym c.first.ensures.first ∙ is_nothing c.first.result (c.is_none.ensures ∙ ap not c.if-is_none.true) in
    (untold (fault_text c.args.lines.listed c.args.lines.records.now calls) c.args.left (firsts_among Read calls rs) c.args.out.now.items (no_read calls rs c.in_ok-faults.faults c.in_ok-faults.ensures.faults none)).said

pub returns-then-is_none-clause-more : goal.returns-then-is_none-clause-more
returns-then-is_none-clause-more g c =
    let calls = calls_of c.args.grid.now in
    let rs = views_between calls c.args.between.0 c.args.between.1 in
    let none = sym c.first.ensures.first ∙ is_nothing c.first.result (c.is_none.ensures ∙ ap not c.if-is_none.true) in
    (untold (fault_text c.args.lines.listed c.args.lines.records.now calls) c.args.left (firsts_among Read calls rs) c.args.out.now.items (no_read calls rs c.in_ok-faults.faults c.in_ok-faults.ensures.faults none)).more
