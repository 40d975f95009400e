-- Rows of a table, each in a vector of its own.
use Rattle.std.specs.Prelude.{List, map}
use Rattle.std.specs.declared.alloc.Global.{Global}
use Rattle.std.specs.declared.vec.Vec.{Vec}

-- what each row has
abbrev pub rows : {T : Type 0} → List (Vec T Global) → List (List T)
rows table = map (λ row. row.items) table
