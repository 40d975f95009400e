use Rattle.std.proofs.lemmas.Result.{err_from_is_err_and}
use Rattle.snap_format.proofs.RepeatFacts.{all_taken, apart_if_rising, fault_stops, places_rise, repeat_somewhere, repeat_stops}
use Rattle.snap_format.proofs.StampFacts.{in_order}
use Rattle.snap_format.proofs.by_stamps.in_stamp_order.Goals as goal

pub repeated_place-requires : goal.repeated_place-requires
repeated_place-requires c = repeat_somewhere c.sort_by_stamp.new.stamped.items c.are_rising.result c.sort_by_stamp.ensures.rising (rw c.deref.ensures.value at c.are_rising.ensures) c.if-not-are_rising.true

pub returns-then-not-are_rising : goal.returns-then-not-are_rising
returns-then-not-are_rising c = λ limit rows reads.
    repeat_stops limit rows c.args.stamped.items c.in_ok-repeated_place.field-0 reads.0 (c.in_ok-repeated_place.ensures c.args.stamped.items c.sort_by_stamp.ensures.same (places_rise limit rows c.args.stamped.items reads.0))

pub returns-in_err-read : goal.returns-in_err-read
returns-in_err-read c = λ limit rows reads.
    let p = err_from_is_err_and c.from_residual-in_err-read.result c.from_residual-in_err-read.ensures.1 in
    let apart = apart_if_rising c.args.stamped.items c.sort_by_stamp.new.stamped.items c.are_rising.result c.sort_by_stamp.ensures.same (rw c.deref.ensures.value at c.are_rising.ensures) c.if-not-are_rising.false in
    rw (p.1, p.2) (fault_stops limit rows c.args.stamped.items c.in_err-read.field-0.0 (rw c.in_err-read.was at reads) apart.1)

pub returns : goal.returns
returns c = λ limit rows reads.
    let apart = apart_if_rising c.args.stamped.items c.sort_by_stamp.new.stamped.items c.are_rising.result c.sort_by_stamp.ensures.same (rw c.deref.ensures.value at c.are_rising.ensures) c.if-not-are_rising.false in
    let all = all_taken limit rows c.args.stamped.items (rw c.in_ok-read.was at reads) apart.1 in
    record { shapes = all.0; order = in_order rows c.args.stamped.items c.sort_by_stamp.new.stamped.items all.1 c.sort_by_stamp.ensures.same apart.0 }
