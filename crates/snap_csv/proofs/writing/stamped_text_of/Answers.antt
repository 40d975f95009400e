use Rattle.std.proofs.Common.{◌≡◌, ◌<◌, ◌≤◌, List, ℕ, length, take, zip, arith, subst, sym, ap, ◌∙◌}
use Rattle.std.proofs.lemmas.List.{take_all}
use Rattle.std.proofs.lemmas.Slice.Zip.{length-zip}
use Rattle.snap_format.specs.Layout.{stamped_lines, stamped_text}
use Rattle.snap_csv.specs.Writing.{Holds}
use Rattle.snap_csv.proofs.WriteFacts.{stamped_next}
use Rattle.snap_csv.proofs.writing.stamped_text_of.Goals as goal

pub loop-i-preserved : goal.loop-i-preserved
loop-i-preserved g c =
    let events = c.events-events.result.now in
    let i = c.loop-i.i in
    let lt : i < length events = omega arith in
    let size : length c.args.at.now ≡ length events = c.requires ∙ ap length (sym c.events-events.ensures.events) in
    let la : i < length c.args.at.now = omega arith in
    let fits = (rw (sym c.events-events.ensures.events) at c.events-events.ensures.history).fit i c.index-events-i.result lt in
    subst (λ (t : List ℕ). Holds c.write_stamped.new.writer t)
    (stamped_next c.args.at.now events i 0 c.index-events-i.result la lt c.write_stamped.ensures.small fits)
    (rw c.index-events-i.is at (c.in_ok-write_stamped.ensures.line (stamped_lines (take i (zip c.args.at.now events))) c.loop-i.invariant))

pub returns : goal.returns
returns g c =
    let events = c.events-events.result.now in
    let size : length c.args.at.now ≡ length events = c.requires ∙ ap length (sym c.events-events.ensures.events) in
    let all : length (zip c.args.at.now events) ≤ c.loop-i.i = omega (arith, length-zip c.args.at.now events) in
    c.in_ok-text.ensures _ c.loop-i.invariant
    ∙ ap stamped_lines (take_all c.loop-i.i (zip c.args.at.now events) all) ∙ ap (stamped_text c.args.at.now) c.events-events.ensures.events
