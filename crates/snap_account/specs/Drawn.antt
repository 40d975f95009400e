-- The ticks that the desks drew: each is a begin, a middle tick or an end of one call.
use Rattle.std.specs.Prelude.{ℕ, List, [], ◌∷◌, ◌++◌}
use Rattle.snap_account.specs.declared.account.Account.{Account}
use Rattle.snap_account.specs.declared.account.Answered.{Answered}
use Rattle.snap_account.specs.declared.account.Doing.{Doing}
use Rattle.snap_account.specs.declared.account.Doing.TheVariants.{Idle, Begun, Written, Viewing, Scanning}

-- the ticks of a call: its begin, its middle ticks and its end
abbrev pub drawn_by : Answered → List ℕ
drawn_by r = r.begun ∷ r.middles ++ r.ended ∷ []

abbrev pub drawn_in : List Answered → List ℕ
drawn_in [] = []
drawn_in (r ∷ rs) = drawn_by r ++ drawn_in rs

-- the ticks of an open call
abbrev pub drawn_open : Doing → List ℕ
drawn_open Idle = []
drawn_open (Begun b) = b ∷ []
drawn_open (Written b n v) = b ∷ []
drawn_open (Viewing b xs) = b ∷ []
drawn_open (Scanning s) = s.begun ∷ s.middles

-- the ticks of an account, call by call
abbrev pub drawn : Account → List ℕ
drawn a = drawn_in a.calls ++ drawn_open a.doing
