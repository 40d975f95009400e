use Rattle.std.proofs.Common.{◌∷◌, ◌++◌, List, ℕ, subst, ◌∙◌}
use Rattle.csv.specs.Writing.{default_writer, row_text}
use Rattle.snap_csv.specs.Writing.{Holds}
use Rattle.snap_csv.proofs.WriteFacts.{four_items}
use Rattle.snap_csv.proofs.writing.write_stamped.Goals as goal

pub returns-clause-line : goal.returns-clause-line
returns-clause-line c = λ text h.
    let stamp = c.as_bytes-stamp.ensures.value ∙ c.format.ensures.text in
    let four = four_items c.in_ok-fields.fields c.args.event.now _ _ _ _ _ _ _ _ c.in_ok-fields.ensures
    c.as_slice.ensures.value c.as_slice-2.ensures.value c.as_slice-3.ensures.value c.as_slice-4.ensures.value in
    subst (λ (fs : List (List ℕ)). Holds c.write_record.new.writer (text ++ row_text default_writer fs)) (λ i. stamp i ∷ four i) (c.in_ok-write_record.ensures text h)
