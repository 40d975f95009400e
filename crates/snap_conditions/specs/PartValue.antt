-- What contracts see of a part: the number of faults of a kind, and the first of them.
use Rattle.std.specs.Prelude.{ℕ, Option}

pub record PartValue (F : Type 0) : Type 0 where
  pub count : ℕ
  pub first : Option F
