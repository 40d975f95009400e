use Rattle.std.proofs.Common.{ap, refl, sym, ◌∙◌}
use Rattle.snap_core.specs.inside.Tables.{is_written_by_other}
use Rattle.snap_core.proofs.tables.Tables.has_other_writer.Goals as goal

pub returns-in-Some : goal.returns-in-Some
returns-in-Some c = λ es r.
    let p = c.in-BeginUpdate.process in
    let k = c.in-BeginUpdate.entry.component in
    rw c.in-BeginUpdate.is (ap (is_written_by_other p) (sym c.in-Some.is ∙ c.writer.ensures) ∙ r.recalls.writer refl k p)

pub returns-in-None : goal.returns-in-None
returns-in-None c = λ es r.
    let p = c.in-BeginUpdate.process in
    let k = c.in-BeginUpdate.entry.component in
    rw c.in-BeginUpdate.is (ap (is_written_by_other p) (sym c.in-None.is ∙ c.writer.ensures) ∙ r.recalls.writer refl k p)
