use Rattle.std.proofs.Common.{sym}
use Rattle.snap_csv.proofs.WriteFacts.{four_items}
use Rattle.snap_csv.proofs.writing.write_event.Goals as goal

pub returns : goal.returns
returns c = λ text h.
    rw (sym (four_items c.in_ok-fields.fields c.args.event.now _ _ _ _ _ _ _ _ c.in_ok-fields.ensures
    c.as_slice.ensures.value c.as_slice-2.ensures.value c.as_slice-3.ensures.value c.as_slice-4.ensures.value))
    (c.in_ok-write_record.ensures text h)
