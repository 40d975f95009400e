use Rattle.std.proofs.Common.{◌∙◌, None, sym, ap, slice_index_or}
use Rattle.snap_windows.proofs.Left.{writer_none, writer_some}
use Rattle.snap_windows.proofs.judge.has_other_writer.Goals as goal

pub returns-in-Some : goal.returns-in-Some
returns-in-Some c = λ es h single.
    let p = c.in-BeginUpdate.process in
    let e = c.in-BeginUpdate.entry in
    let is = sym (h e.component) ∙ ap (λ i. slice_index_or c.args.left.now i None) (sym c.from.ensures) ∙ c.in-Some.is in
    rw c.in-BeginUpdate.is (writer_some es p e c.in-Some.wrote single is)

pub returns-in-None : goal.returns-in-None
returns-in-None c = λ es h single.
    let p = c.in-BeginUpdate.process in
    let e = c.in-BeginUpdate.entry in
    let is = sym (h e.component) ∙ ap (λ i. slice_index_or c.args.left.now i None) (sym c.from.ensures) ∙ c.in-None.is in
    rw c.in-BeginUpdate.is (sym (writer_none es p e is))
