use Rattle.std.proofs.Common.{◌≡◌, ◌++◌, ◌∷◌, [], refl, rules, sym, ap, ◌∙◌, Some, List}
use Rattle.std.proofs.lemmas.List.{nil_from_length}
use Rattle.snap_core.specs.declared.entry.Entry.{Entry}
use Rattle.snap_text.specs.Fields.{entries_at}
use Rattle.snap_text.proofs.GroupFacts.{rest_read}
use Rattle.snap_text.proofs.KnownFacts.{front_read, none_spelled}
use Rattle.snap_text.proofs.PartFacts.{some_text}
use Rattle.snap_text.proofs.ViewFacts.{last_read, no_entry_left, one_read}
use Rattle.snap_text.proofs.entries.entries_of.Goals as goal

pub returns-then-is_empty : goal.returns-then-is_empty
unfolding entries_at
returns-then-is_empty c = rw (sym c.if-is_empty.ensures, c.new-entries.ensures.items) refl

pub returns-in-Some : goal.returns-in-Some
returns-in-Some c =
    let items : c.extend_from_slice.new.self.items ≡ c.loop-front.entries.items ++ c.in-Some.front.now = search rules in
    ap (λ (t : List Entry). Some t) items ∙ rest_read c.loop-front.entries.items c.in-Some.front.now c.loop-front.left.now c.args.text.now c.loop-front.invariant.read c.in-Some.ensures
    ∙ sym (some_text c.args.text.now (sym c.if-is_empty.ensures))

pub returns-in_default-entry_first : goal.returns-in_default-entry_first
returns-in_default-entry_first c =
    let read = front_read c.loop-front.entries.items c.add_front.new.entries.items c.in_ok-start.start.now c.loop-front.left.now c.args.text.now c.in_ok-start.ensures.added c.loop-front.invariant.read in
    sym (some_text c.args.text.now (sym c.if-is_empty.ensures) ∙ no_entry_left c.add_front.new.entries.items c.in_ok-start.start.now c.args.text.now read c.in_default-entry_first.ensures)

pub returns-in_default-split_first : goal.returns-in_default-split_first
returns-in_default-split_first c =
    let read = front_read c.loop-front.entries.items c.add_front.new.entries.items c.in_ok-start.start.now c.loop-front.left.now c.args.text.now c.in_ok-start.ensures.added c.loop-front.invariant.read in
    let rest : c.in-Some-entry_first.behind.now ≡ [] = nil_from_length c.in-Some-entry_first.behind.now c.in_default-split_first.ensures.cases in
    let items : c.push.new.self.items ≡ c.add_front.new.entries.items ++ c.in-Some-entry_first.entry ∷ [] = search rules in
    ap (λ (t : List Entry). Some t) items
    ∙ last_read c.add_front.new.entries.items c.in_ok-start.start.now c.args.text.now c.in-Some-entry_first.entry read (rw rest at c.in-Some-entry_first.ensures)
    ∙ sym (some_text c.args.text.now (sym c.if-is_empty.ensures))

pub loop-front-preserved-then-looks-ge-LOOK : goal.loop-front-preserved-then-looks-ge-LOOK
loop-front-preserved-then-looks-ge-LOOK c =
    let read = front_read c.loop-front.entries.items c.add_front.new.entries.items c.in_ok-start.start.now c.loop-front.left.now c.args.text.now c.in_ok-start.ensures.added c.loop-front.invariant.read in
    let items : c.push.new.self.items ≡ c.add_front.new.entries.items ++ c.in-Some-entry_first.entry ∷ [] = search rules in
    let next = one_read c.add_front.new.entries.items c.in_ok-start.start.now c.args.text.now c.in-Some-entry_first.entry c.in-Some-split_first.field-0-0.now c.in-Some-split_first.next.now
    read (rw c.in-Some-split_first.ensures.cases.0 at c.in-Some-entry_first.ensures) in
    record { read = rw items next; known = c.behind_first.ensures }

pub loop-front-preserved : goal.loop-front-preserved
loop-front-preserved c =
    let read = front_read c.loop-front.entries.items c.add_front.new.entries.items c.in_ok-start.start.now c.loop-front.left.now c.args.text.now c.in_ok-start.ensures.added c.loop-front.invariant.read in
    let items : c.push.new.self.items ≡ c.add_front.new.entries.items ++ c.in-Some-entry_first.entry ∷ [] = search rules in
    let next = one_read c.add_front.new.entries.items c.in_ok-start.start.now c.args.text.now c.in-Some-entry_first.entry c.in-Some-split_first.field-0-0.now c.in-Some-split_first.next.now
    read (rw c.in-Some-split_first.ensures.cases.0 at c.in-Some-entry_first.ensures) in
    record { read = rw items next; known = none_spelled }
