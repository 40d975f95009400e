use Rattle.std.proofs.Common.{◌≡◌, ◌++◌, ◌∷◌, [], Vec, Global, set, get_or, sym, ap, ◌∙◌}
use Rattle.snap_index.specs.Rows.{rows}
use Rattle.snap_index.specs.inside.Tables.{padded}
use Rattle.snap_index.proofs.Padding.{row_read, row_set}
use Rattle.snap_index.proofs.table.UpdateTable.put.Goals as goal

pub returns : goal.returns
returns g c =
    let table = c.make_room.new.table.items in
    let k = c.args.k in
    let room = c.in_ok-make_room.ensures.room in
    let same : padded (rows table) ≡ c.args.self.now = c.in_ok-make_room.ensures.same ∙ c.self.view_is in
    let row : c.index_mut.result.now.items ≡ get_or c.args.self.now k [] =
    ap (λ (v : Vec _ Global). v.items) c.index_mut.ensures.value ∙ sym (row_read table k c.index_mut.result.now room) ∙ ap (λ z. get_or z k []) same in
    row_set table k c.push.new.self room
    ∙ ap (λ z. set z k c.push.new.self.items) same
    ∙ ap (set c.args.self.now k) (c.in_ok-push.ensures.items ∙ ap (λ z. z ++ c.args.update ∷ []) row)
