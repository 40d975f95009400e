use Rattle.std.proofs.Common.{◌≡◌, Some, sym, ap, ◌∙◌}
use Rattle.std.specs.Option.{option_copied}
use Rattle.snap_core.specs.Calls.{calls_of}
use Rattle.snap_index.proofs.Known.{answer_within}
use Rattle.snap_core.specs.Calls.{call_numbered, entries_of}
use Rattle.snap_witness.proofs.fault_calls.view_numbered.Goals as goal

pub unreachable-requires : goal.unreachable-requires
unreachable-requires g c = let gone = sym (ap option_copied c.in_default.is) ∙ c.answer.ensures ∙ answer_within (calls_of c.args.index.now) c.args.c c.requires.within c.requires.view in cc

pub returns : goal.returns
returns g c = let read : Some c.in-Some.view.now ≡ Some (entries_of (call_numbered (calls_of c.args.index.now) c.args.c).operation) = sym (ap option_copied c.in-Some.is) ∙ c.answer.ensures ∙ answer_within (calls_of c.args.index.now) c.args.c c.requires.within c.requires.view in cc
