use Rattle.std.proofs.Common.{ℕ, ◌≤◌, ◌≡◌, ◌<◌, sym, ap, ◌∙◌, List, length, get_or, [], arith}
use Rattle.snap_index.specs.Rows.{rows}
use Rattle.snap_index.specs.inside.Tables.{padded}
use Rattle.snap_index.proofs.Padding.{padded_row, row_empty}
use Rattle.snap_index.proofs.table.UpdateTable.limit.Goals as goal

more : {A : Type 0} (table shown : List (List A)) → padded table ≡ shown → (k : ℕ) → get_or (padded table) k [] ≡ get_or table k [] → 0 < length (get_or table k []) → 0 < length (get_or shown k [])
more table shown same k row some = omega (arith, some, ap length (sym row ∙ ap (λ z. get_or z k []) same))

pub returns : goal.returns
returns g c =
    let table = c.deref.result.now in
    let same : padded (rows table) ≡ c.args.self.now = ap (λ t. padded (rows t)) c.deref.ensures.value ∙ c.self.view_is in
    let none = λ (k : ℕ) (behind : c.filled.result ≤ k) (within : k < 256). ap (λ z. get_or z k []) (sym same) ∙ row_empty table k (c.filled.ensures.none k behind) within in
    record {
      few = omega (arith, c.filled.ensures.within, c.self.invariant, ap length c.deref.ensures.value);
      none = none;
      last = λ k is. more (rows table) c.args.self.now same k (padded_row table k (omega (arith, is, c.filled.ensures.within))) (c.filled.ensures.last k is);
    }
