-- Orders that are given by the numbers of their calls.
use Rattle.std.specs.Prelude.{ℕ, List, map, ◌≡◌, get_or}
use Rattle.snap_core.specs.Calls.{Call, nobody}
use Rattle.snap_core.specs.Orders.{IsLegalOrder}

-- these are the numbers of the calls of a legal order
abbrev pub IsLegalList : List Call → List ℕ → Type 0
IsLegalList calls numbers = (order : List Call) × (map (λ c. c.number) order ≡ numbers) × IsLegalOrder calls order

-- the calls of these numbers
unfoldable pub picked : List Call → List ℕ → List Call
picked calls numbers = map (λ n. get_or calls n nobody) numbers
