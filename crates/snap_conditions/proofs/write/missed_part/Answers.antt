use Rattle.std.proofs.Common.{◌≡◌, suc, ◌+◌, ◌<◌, Some, length, get_or, sym, ap, ◌∙◌, arith}
use Rattle.snap_core.specs.Calls.{calls_of, shown_number}
use Rattle.snap_conditions.specs.declared.fault.WriteFault.{WriteFault}
use Rattle.snap_conditions.specs.inside.Places.{end_of}
use Rattle.snap_theory.specs.Updates.{update_of}
use Rattle.snap_views.specs.Seen.{view_in}
use Rattle.snap_theory.proofs.Entries.{nothing}
use Rattle.std.specs.Prelude.{nat_lt, not}
use Rattle.std.specs.List.{position_or_len}
use Rattle.std.proofs.lemmas.List.Sums.{prefix_len-le-length}
use Rattle.snap_conditions.proofs.Missed.{are_tested, missed_none, missed_some, some_counted, reported_at}
use Rattle.snap_views.proofs.Sizes.{rising_few}
use Rattle.snap_conditions.proofs.Surrounded.{number_fits}
use Rattle.snap_conditions.proofs.write.missed_part.Goals as goal

pub returns-then-first-begins : goal.returns-then-first-begins
returns-then-first-begins g c =
    let es = c.args.index.now in
    let calls = calls_of es in
    let r = view_in calls c.args.place in
    let ended : end_of (update_of calls c.args.missed.component (suc (shown_number r c.args.missed.component))) ≡ Some c.args.missed.ended = ap (λ n. end_of (update_of calls c.args.missed.component (suc n))) (sym c.requires.number) ∙ c.requires.ended in
    let tested = are_tested es c.requires.kept r c.args.missed.component c.args.missed.ended c.args.view.now.entries.now c.args.begins.now c.requires.view.entries c.requires.view.shape ended c.requires.size c.requires.begins in
    c.none.ensures ∙ sym (missed_none calls r c.args.missed.component c.args.missed.ended c.args.begins.now tested (omega (arith, c.first_behind-first.ensures, c.if-first-begins.true)))

pub offset_bounds-view-first : goal.offset_bounds-view-first
offset_bounds-view-first g c =
    let few = rising_few _ c.requires.view.shape.rising (λ j d l. (c.requires.view.shape.fit j d l).0) in
    record { fits = omega (arith, c.requires.size, ap length c.requires.view.entries, few, c.first_behind-first.ensures, prefix_len-le-length (λ b. not (nat_lt c.args.missed.ended b)) c.args.begins.now) }

pub bounds-view-first : goal.bounds-view-first
bounds-view-first g c = omega (arith, c.requires.size, c.first_behind-first.ensures, prefix_len-le-length (λ b. not (nat_lt c.args.missed.ended b)) c.args.begins.now, c.if-first-begins.false)

pub overflow_add-fault : goal.overflow_add-fault
overflow_add-fault g c = record { fits = omega (arith, number_fits c.args.index.now c.requires.kept c.args.missed.component (suc c.args.missed.number) c.args.missed.ended c.requires.ended) }

pub of-requires : goal.of-requires
of-requires g c =
    let within : position_or_len (λ b. nat_lt c.args.missed.ended b) c.args.begins.now < length c.args.begins.now = omega (arith, c.first_behind-first.ensures, prefix_len-le-length (λ b. not (nat_lt c.args.missed.ended b)) c.args.begins.now, c.if-first-begins.false) in
    omega (arith, c.requires.count, some_counted (λ b. nat_lt c.args.missed.ended b) c.args.begins.now within)

pub returns : goal.returns
returns g c =
    let es = c.args.index.now in
    let calls = calls_of es in
    let r = view_in calls c.args.place in
    let ended : end_of (update_of calls c.args.missed.component (suc (shown_number r c.args.missed.component))) ≡ Some c.args.missed.ended = ap (λ n. end_of (update_of calls c.args.missed.component (suc n))) (sym c.requires.number) ∙ c.requires.ended in
    let tested = are_tested es c.requires.kept r c.args.missed.component c.args.missed.ended c.args.view.now.entries.now c.args.begins.now c.requires.view.entries c.requires.view.shape ended c.requires.size c.requires.begins in
    let within : c.first_behind-first.result < length c.args.begins.now = omega (arith, c.first_behind-first.ensures, prefix_len-le-length (λ b. not (nat_lt c.args.missed.ended b)) c.args.begins.now, c.if-first-begins.false) in
    let d = get_or c.args.view.now.entries.now c.first_behind-first.result nothing in
    let fault : WriteFault = record { view = c.args.view.now.call_number; missed_component = c.args.missed.component; missed_number = c.args.missed.number + 1; shown_component = d.component; shown_number = d.number } in
    let told = reported_at r c.args.view.now.call_number c.args.missed.component (c.args.missed.number + 1) c.first_behind-first.result d c.requires.view.shape (omega (arith, within, c.requires.size, ap length c.requires.view.entries))
    (ap (λ z. get_or z c.first_behind-first.result nothing) c.requires.view.entries) c.requires.view.number (omega (arith, c.requires.number)) in
    c.of.ensures
    ∙ missed_some calls r c.args.missed.component c.args.missed.ended c.first_behind-first.result c.args.count c.args.begins.now fault tested c.first_behind-first.ensures within c.requires.count told
