use Rattle.std.proofs.Common.{◌≡◌, ◌++◌, ◌∷◌, [], None, rules, ℕ, cond, arith, length-append}
use Rattle.std.specs.Prelude.{◌==◌}
use Rattle.snap_core.specs.Events.{process_of}
use Rattle.snap_core.specs.Refusals.{refusal_of}
use Rattle.snap_core.specs.inside.Tables.{begun_by, call_in, IsRecalled, writer_after, writer_in}
use Rattle.snap_core.proofs.Picks.{accepted_none}
use Rattle.snap_core.proofs.Tabled.{recalled_push}
use Rattle.snap_core.proofs.history.History.push.Goals as goal

pub invariant_of-self-2 : goal.invariant_of-self-2
invariant_of-self-2 g c =
    let old = c.self.inside.events.items in
    let e = c.args.event in
    let limit = c.self.inside.limit in
    let free : refusal_of limit old e ≡ None = search rules in
    let items : c.push.new.self.items ≡ old ++ e ∷ [] = search rules in
    let calls : (p : ℕ) → call_in c.note.new.self p ≡ cond (process_of e == p) (begun_by e) (call_in c.make_room.new.self p) = search rules in
    let writers : (k : ℕ) → writer_in c.note.new.self k ≡ writer_after (process_of e) (call_in c.make_room.new.self (process_of e)) (begun_by e) k (writer_in c.make_room.new.self k) = search rules in
    let grown : IsRecalled limit.writers c.note.new.self (old ++ e ∷ []) =
    recalled_push limit c.self.inside.tables c.make_room.new.self c.note.new.self old e c.self.invariant.0 free c.fits.ensures c.make_room.ensures.calls c.make_room.ensures.writers calls writers
    in
    let room = (accepted_none limit old e free).1 in
    rw items (grown, let l = length-append old (e ∷ []) in omega (arith, l, room), c.self.invariant.2)

pub returns-in-Err-clause-ok : goal.returns-in-Err-clause-ok
returns-in-Err-clause-ok g c = search rules

pub returns-in-Some-clause-kept : goal.returns-in-Some-clause-kept
returns-in-Some-clause-kept g c = search rules

pub returns-in-Some-clause-back : goal.returns-in-Some-clause-back
returns-in-Some-clause-back g c = search rules
