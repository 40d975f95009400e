use Rattle.std.proofs.Common.{sym, ap, ◌∙◌, arith}
use Rattle.std.specs.Prelude.{nat_lt}
use Rattle.snap_core.specs.Calls.{calls_of, call_numbered}
use Rattle.snap_index.specs.declared.call.Call.{Call}
use Rattle.snap_index.proofs.IndexedCalls.{count_is, indexed_read, precedes_at, precedes_none}
use Rattle.snap_index.proofs.LookUps.{seen}
use Rattle.snap_index.proofs.index.Index.precedes.Goals as goal

pub returns-in-Some : goal.returns-in-Some
returns-in-Some g c =
    let es = c.args.self.now in
    let calls = (seen _ _ _ _ _ _ c.self.view_is c.self.invariant).indexed_calls in
    let count = count_is es c.self.inside.calls.items calls in
    let a = c.index.ensures ∙ indexed_read es c.self.inside.calls.items c.args.a c.index.result.now calls (omega (arith, count, c.requires.a)) in
    let b = c.index-in-Some.ensures ∙ indexed_read es c.self.inside.calls.items c.args.b c.index-in-Some.result.now calls (omega (arith, count, c.requires.b)) in
    ap (λ (z : Call). nat_lt c.in-Some.ended z.begun) b
    ∙ sym (precedes_at (call_numbered (calls_of es) c.args.a) (call_numbered (calls_of es) c.args.b) c.in-Some.ended (sym (ap (λ (z : Call). z.ended) a) ∙ c.in-Some.is))

pub returns-in-None : goal.returns-in-None
returns-in-None g c =
    let es = c.args.self.now in
    let calls = (seen _ _ _ _ _ _ c.self.view_is c.self.invariant).indexed_calls in
    let count = count_is es c.self.inside.calls.items calls in
    let a = c.index.ensures ∙ indexed_read es c.self.inside.calls.items c.args.a c.index.result.now calls (omega (arith, count, c.requires.a)) in
    sym (precedes_none (call_numbered (calls_of es) c.args.a) (call_numbered (calls_of es) c.args.b) (sym (ap (λ (z : Call). z.ended) a) ∙ c.in-None.is))
