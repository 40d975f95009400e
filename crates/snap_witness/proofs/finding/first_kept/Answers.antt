use Rattle.std.proofs.Common.{Some, sym, ap, ◌∙◌, subst}
use Rattle.std.specs.Option.{option_map}
use Rattle.snap_core.specs.Calls.{calls_of}
use Rattle.snap_theory.specs.First.{first_fault}
use Rattle.snap_witness.specs.inside.Names.{NamesFirst}
use Rattle.snap_witness.proofs.Named.{named_numbers, names_same}
use Rattle.snap_witness.proofs.finding.first_kept.Goals as goal

pub returns-in_ok-kept-in-Some : goal.returns-in_ok-kept-in-Some
returns-in_ok-kept-in-Some g c =
    let es = c.args.index.now in
    let first = first_fault (calls_of es) in
    let n = subst (λ o. NamesFirst es (option_map (λ calls. (calls.views.items, calls.updates.items)) o)) c.in-Some.is c.in_ok-calls.ensures in
    let borrowed = names_same es first _ c.deref.result.now _ c.deref-in-Some.result.now c.deref.ensures.value c.deref-in-Some.ensures.value n in
    ap Some c.in_ok-kept-in-Some.ensures ∙ sym (named_numbers es first c.deref.result.now c.deref-in-Some.result.now borrowed)
