use Rattle.std.proofs.Common.{arith}
use Rattle.snap_index.proofs.IndexedCalls.{call_count_within, count_is, word_fits}
use Rattle.snap_index.proofs.index.Index.call_count.Goals as goal

pub overflow_cast-result : goal.overflow_cast-result
overflow_cast-result g c =
    let es = c.args.self.now in
    word_fits c.len.result (let count = count_is _ _ c.self.invariant.indexed_calls in omega (arith, count, call_count_within c.self.inside.history.now.events, c.self.invariant.kept.short, c.len.ensures))
