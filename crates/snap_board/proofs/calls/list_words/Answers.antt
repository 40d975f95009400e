use Rattle.std.proofs.Common.{◌≡◌, ◌+◌, ◌<◌, [], ◌∷◌, ◌++◌, length, take, get_or, vec_capacity, sym, ap, ◌∙◌, arith}
use Rattle.std.proofs.lemmas.List.{take_more, length-map, length-take-le, take_all}
use Rattle.snap_core.specs.Entries.{view_refusal}
use Rattle.snap_board.specs.Desks.{listed}
use Rattle.snap_account.specs.Seats.{pairs}
use Rattle.snap_account.specs.Plays.{entry_of}
use Rattle.snap_board.proofs.Listing.{listed_view, listed_short, list_more, list_same}
use Rattle.snap_account.proofs.Reading.{pairs-push}
use Rattle.snap_board.proofs.calls.list_words.Goals as goal
use Rattle.snap_board.proofs.calls.list_words.Goals.{then-number-gt0, else-number-gt0}

pub push_reserved-requires : goal.push_reserved-requires
push_reserved-requires c =
    let i = c.each.invariant in let ws = c.args.words.now.items in let xs = pairs (take c.each.k ws) in
    let l = ap length i.list in let s = listed_short 0 xs in let m = length-map (take c.each.k ws) entry_of in let t = length-take-le c.each.k ws (omega (arith, c.each-test.true, c.len-k-end.ensures)) in
    omega (arith, c.each-test.true, i.room, c.len-k-end.ensures)

pub each-preserved : goal.each-preserved
each-preserved c =
    let i = c.each.invariant in let ws = c.args.words.now.items in let k = c.each.k in
    let lt : k < length ws = omega (arith, c.each-test.true, c.len-k-end.ensures) in
    let w = c.index-word.result.now in
    let same : w ≡ get_or ws k w = c.index-word.ensures in
    let xs = pairs (take k ws) in
    let count : length xs ≡ k = length-map (take k ws) entry_of ∙ length-take-le k ws (omega arith) in
    let next : xs ++ entry_of w ∷ [] ≡ pairs (take (k + 1) ws) = sym (pairs-push (take k ws) w) ∙ ap pairs (ap (λ z. take k ws ++ z ∷ []) same ∙ sym (take_more ws k w lt)) in
    record {
      list = elim c.if-number-gt0.branch [
        | then-number-gt0 v ↦ ap (λ (z : _). z.items) v.entries-is ∙ v.push_reserved.ensures.items ∙ list_more c.each.entries.items xs k (entry_of w) i.list count (omega (arith, v.if-number-gt0.true)) ∙ ap (listed 0) next
        | else-number-gt0 v ↦ ap (λ (z : _). z.items) v.entries-is ∙ list_same c.each.entries.items xs k (entry_of w) i.list (omega (arith, v.if-number-gt0.false)) ∙ ap (listed 0) next
      ];
      room = elim c.if-number-gt0.branch [
        | then-number-gt0 v ↦ omega (arith, i.room, ap (λ (z : _). vec_capacity z) v.entries-is, v.push_reserved.ensures.capacity)
        | else-number-gt0 v ↦ omega (arith, i.room, ap (λ (z : _). vec_capacity z) v.entries-is)
      ];
    }

pub returns-clause-listed : goal.returns-clause-listed
returns-clause-listed c =
    let i = c.each.invariant in let ws = c.args.words.now.items in
    i.list ∙ ap (λ l. listed 0 (pairs l)) (take_all c.each.k ws (omega (arith, c.each-test.false, c.len-k-end.ensures)))

pub returns-clause-view : goal.returns-clause-view
returns-clause-view c = let i = c.each.invariant in ap view_refusal i.list ∙ listed_view 0 (pairs (take c.each.k c.args.words.now.items))
