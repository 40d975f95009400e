use Rattle.std.proofs.Common.{rules, ◌≡◌, ◌++◌, ◌∷◌, [], arith, length, ap, length-append}
use Rattle.snap_plain.specs.Lines.{BeginsLines}
use Rattle.snap_plain.proofs.AheadFacts.{lines_as, no_lines, one_line_more}
use Rattle.snap_plain.proofs.ahead.read_lines.Goals as goal

pub each-init : goal.each-init
each-init c = no_lines c.args.text.now c.args.events.now.items c.requires

pub returns-then-left-stop-clause-lines : goal.returns-then-left-stop-clause-lines
returns-then-left-stop-clause-lines c = lines_as c.each.events.items c.behind_newlines-left.result.now c.each.left.now c.args.text.now c.each.invariant c.behind_newlines-left.ensures.same c.behind_newlines-left.ensures.rest

pub returns-in_default-clause-lines : goal.returns-in_default-clause-lines
returns-in_default-clause-lines c = lines_as c.each.events.items c.behind_newlines-left.result.now c.each.left.now c.args.text.now c.each.invariant c.behind_newlines-left.ensures.same c.behind_newlines-left.ensures.rest

pub returns-in_default-first-clause-lines : goal.returns-in_default-first-clause-lines
returns-in_default-first-clause-lines c = lines_as c.each.events.items c.behind_newlines-left.result.now c.each.left.now c.args.text.now c.each.invariant c.behind_newlines-left.ensures.same c.behind_newlines-left.ensures.rest

pub returns-then-is_err-clause-lines : goal.returns-then-is_err-clause-lines
returns-then-is_err-clause-lines c =
    let same : c.push.new.self.items ≡ c.each.events.items = search rules in
    rw same (lines_as c.each.events.items c.behind_newlines-left.result.now c.each.left.now c.args.text.now c.each.invariant c.behind_newlines-left.ensures.same c.behind_newlines-left.ensures.rest)

pub each-preserved : goal.each-preserved
each-preserved c =
    let left = c.behind_newlines-left.result.now in
    let text = c.args.text.now in
    let events = c.each.events.items in
    let lines : BeginsLines events left text = lines_as events left c.each.left.now text c.each.invariant c.behind_newlines-left.ensures.same c.behind_newlines-left.ensures.rest in
    let pushed : c.push.new.self.items ≡ events ++ c.in-Some.event ∷ [] = search rules in
    rw pushed (one_line_more events c.in-Some.event c.in-Some.rest.now left text lines (rw c.in-Some.is at c.in-Ok.ensures.some))
