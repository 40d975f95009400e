use Rattle.std.proofs.Common.{rules, ◌≡◌, ◌∙◌, [], get_or, length, sym}
use Rattle.snap_grid.specs.inside.Together.{IsPartner}
use Rattle.snap_grid.proofs.Rising.{any_added, any_pushed, rows_pushed, rows_set}
use Rattle.snap_grid.proofs.together.add.Goals as goal

pub returns-in_ok-push-in-None : goal.returns-in_ok-push-in-None
returns-in_ok-push-in-None c =
    let columns = c.args.columns.now.items in
    let column = c.args.column in
    rw (c.in_ok-push-in-None.ensures.items) (record {
      rows = λ n h new. rows_pushed n columns column h new;
      same = λ a b. any_pushed columns column a b;
    })

pub returns-in_ok-columns-in-Some : goal.returns-in_ok-columns-in-Some
returns-in_ok-columns-in-Some c =
    let columns = c.args.columns.now.items in
    let column = c.args.column in
    let found : IsPartner column columns c.in-Some.field-0 = search rules in
    let sums : c.in_ok-columns-in-Some.field-0 ≡ c.in-Some.field-0.sums.items = search rules in
    let place = c.in-Some.field-0.place in
    rw (sums) (record {
      rows = λ n h new. rows_set n columns place c.in-Some.field-0.sums.items found.within h (found.sums.count ∙ new);
      same = λ a b. any_added columns column c.in-Some.field-0.sums.items place found.within found.rise found.sums a b;
    })
