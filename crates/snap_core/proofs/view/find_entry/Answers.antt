use Rattle.std.proofs.Common.{rules, of_calls, Bool, sym, arith}
use Rattle.std.specs.Prelude.{nat_lt}
use Rattle.std.proofs.lemmas.Fn.{always_returns_same}
use Rattle.snap_core.specs.declared.entry.Entry.{Entry}
use Rattle.snap_core.proofs.Rising.{entry_at, none_at, parted_at}
use Rattle.snap_core.proofs.view.find_entry.Goals as goal
use Rattle.snap_core.proofs.view.find_entry.Goals.{then-place-entries-2-via-then-place-entries-2, then-place-entries-2-via-else-place-entries-2+then-entries-place-2}

nothing : Entry
nothing = record { component = 0; number = 0; value = 0 }

pub returns-then-entries-place : goal.returns-then-entries-place
unfolding nothing
returns-then-entries-place c = sym (entry_at c.args.entries.now c.args.k nothing c.args.k c.requires.rising (omega (arith, c.if-place-entries.true)) c.if-entries-place.true)

pub returns-then-place-entries-2 : goal.returns-then-place-entries-2
unfolding nothing
returns-then-place-entries-2 c =
    let test : Entry → Bool = λ e. nat_lt e.component c.args.k in
    let point = c.partition_point-place.ensures.partitioned test (always_returns_same _ _ _ (λ a r q k. search (rules, of_calls))) (parted_at c.args.entries.now c.args.k c.requires.rising) in
    sym (none_at c.args.entries.now nothing c.args.k c.partition_point-place.result point c.requires.rising (λ l same. elim c.then-place-entries-2.branch [
      | then-place-entries-2-via-then-place-entries-2 w ↦ omega (arith, l, w.if-place-entries-2.true)
      | then-place-entries-2-via-else-place-entries-2+then-entries-place-2 w ↦ w.if-entries-place-2.true same
    ]))

pub returns : goal.returns
unfolding nothing
returns c = sym (entry_at c.args.entries.now c.partition_point-place.result nothing c.args.k c.requires.rising (omega (arith, c.partition_point-place.ensures.bound, c.if-place-entries-2.false)) c.if-entries-place-2.false)
