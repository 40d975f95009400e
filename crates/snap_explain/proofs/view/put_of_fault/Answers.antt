use Rattle.std.proofs.Common.{◌≡◌, ◌++◌, ap, sym, true, false, length, nat_lt, arith}
use Rattle.std.specs.Prelude.{if◌then◌else◌}
use Rattle.std.proofs.lemmas.Bool.Decides.{nat_tests}
use Rattle.snap_report.proofs.Pieces.{same_text}
use Rattle.snap_explain.specs.declared.view.TheConstants.{MOST_ENTRIES}
use Rattle.snap_explain.specs.Calls.{entries_text}
use Rattle.snap_explain.specs.Views.{of_fault_text, some_text}
use Rattle.snap_explain.proofs.view.put_of_fault.Goals as goal

pub returns-then-entries-gt-MOST_ENTRIES : goal.returns-then-entries-gt-MOST_ENTRIES
unfolding of_fault_text
returns-then-entries-gt-MOST_ENTRIES c =
    let out = c.args.out.now.items in
    let updates = c.args.updates.now in
    let es = c.args.entries.now in
    let many : nat_lt MOST_ENTRIES (length es) ≡ true = grind (arith, nat_tests) in
    same_text c.put_some.result c.put_some.new.out.items _ (out ++ of_fault_text updates es)
    (ap (λ b. out ++ (if b then some_text updates es else entries_text es)) (sym many))
    c.put_some.ensures

pub returns-else-entries-gt-MOST_ENTRIES : goal.returns-else-entries-gt-MOST_ENTRIES
unfolding of_fault_text
returns-else-entries-gt-MOST_ENTRIES c =
    let out = c.args.out.now.items in
    let updates = c.args.updates.now in
    let es = c.args.entries.now in
    let few : nat_lt MOST_ENTRIES (length es) ≡ false = grind (arith, nat_tests) in
    same_text c.put_entries.result c.put_entries.new.out.items _ (out ++ of_fault_text updates es)
    (ap (λ b. out ++ (if b then some_text updates es else entries_text es)) (sym few))
    c.put_entries.ensures
