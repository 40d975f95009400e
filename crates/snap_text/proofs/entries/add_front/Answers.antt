use Rattle.std.proofs.Common.{◌<◌, inr, rules, arith, sym, ◌≡◌, ◌++◌, ◌+◌, get_or, ◌∙◌}
use Rattle.std.proofs.lemmas.List.{get_or-take, length-take, take_rest}
use Rattle.snap_text.proofs.KnownFacts.{front_added}
use Rattle.snap_text.proofs.entries.add_front.Goals as goal

pub returns-in_ok-extend_from_slice-in-Some-clause-added : goal.returns-in_ok-extend_from_slice-in-Some-clause-added
returns-in_ok-extend_from_slice-in-Some-clause-added c =
    let left = c.args.left.now in
    let at = c.in-Some.at in
    let within : at < c.args.same = omega (arith, c.in-Some.ensures.0, length-take c.args.same left) in
    let space : get_or left at 0 ≡ 32 = sym (get_or-take c.args.same left at 0 within) ∙ c.in-Some.ensures.1 in
    let items : c.extend_from_slice.new.self.items ≡ c.args.entries.now.items ++ c.cut_at.result.0.now = search rules in
    let then = front_added c.cut_at.result.0.now left c.args.old.now c.args.same at c.cut_at.ensures.front c.cut_at.ensures.some c.requires.same (omega arith) (omega arith) within space in
    inr (c.cut_at.result.0.now, items, rw (take_rest left (at + 1)) then)
