-- The calls of a list of events, and which of them precedes which.
use Rattle.std.specs.Prelude.{ℕ, suc, Bool, false, ◌&&◌, filter, List, [], ◌∷◌, ◌==◌, nat_lt, Option, Some, None, is_some, if◌then◌else◌, get_or}
use Rattle.snap_core.specs.declared.entry.Entry.{Entry}
use Rattle.snap_core.specs.Entries.{entry_of, number_in}
use Rattle.snap_core.specs.Events.{Event, BeginUpdate, BeginView, EndUpdate, EndView, process_of}

-- an update with what it writes, a view with what it answered, if it did
pub data Operation : Type 0 where
  Updates : (entry : Entry) → Operation
  Views : (answer : Option (List Entry)) → Operation

-- a call: its number in the order of begins, and the places of its begin and its end
pub record Call : Type 0 where
  pub number : ℕ
  pub process : ℕ
  pub operation : Operation
  pub begun : ℕ
  pub ended : Option ℕ

-- the place of the next event of process p, in a list whose first event is at `place`
abbrev pub next_place : ℕ → ℕ → List Event → Option ℕ
next_place p place [] = None
next_place p place (e ∷ es) = if process_of e == p then Some place else next_place p (suc place) es

abbrev pub answer_at : Event → Option (List Entry)
answer_at (EndView p entries) = Some entries
answer_at _ = None

-- the answer of the next event of process p, if that ends a view
abbrev pub next_answer : ℕ → List Event → Option (List Entry)
next_answer p [] = None
next_answer p (e ∷ es) = if process_of e == p then answer_at e else next_answer p es

-- the calls begun in a list whose first event is at `place`, numbered from `number` on
abbrev pub calls_from : ℕ → ℕ → List Event → List Call
calls_from number place [] = []
calls_from number place (BeginUpdate p e ∷ es) =
    record { number = number; process = p; operation = Updates e; begun = place; ended = next_place p (suc place) es }
    ∷ calls_from (suc number) (suc place) es
calls_from number place (BeginView p ∷ es) =
    record { number = number; process = p; operation = Views (next_answer p es); begun = place; ended = next_place p (suc place) es }
    ∷ calls_from (suc number) (suc place) es
calls_from number place (EndUpdate p ∷ es) = calls_from number (suc place) es
calls_from number place (EndView p shown ∷ es) = calls_from number (suc place) es

unfoldable pub calls_of : List Event → List Call
calls_of es = calls_from 0 0 es

abbrev pub is_before : Option ℕ → ℕ → Bool
is_before None place = false
is_before (Some end) place = nat_lt end place

-- a ended before b began
unfoldable pub precedes : Call → Call → Bool
precedes a b = is_before a.ended b.begun

abbrev pub is_answer : Operation → Bool
is_answer (Updates e) = false
is_answer (Views answer) = is_some answer

-- a completed view
unfoldable pub is_view : Call → Bool
is_view c = is_answer c.operation

abbrev pub entries_of : Operation → List Entry
entries_of (Updates e) = []
entries_of (Views (Some es)) = es
entries_of (Views None) = []

-- the entry that a view shows of component k
unfoldable pub shown : Call → ℕ → Option Entry
shown r k = entry_of k (entries_of r.operation)

-- r(k): the number that a view shows of component k, 0 if it shows none
unfoldable pub shown_number : Call → ℕ → ℕ
shown_number r k = number_in (shown r k)

abbrev pub writes_number : Operation → ℕ → ℕ → Bool
writes_number (Updates e) k n = (e.component == k) && (e.number == n)
writes_number (Views answer) k n = false

-- c is update n of component k
unfoldable pub is_update_numbered : ℕ → ℕ → Call → Bool
is_update_numbered k n c = writes_number c.operation k n

-- the completed views, by call number
unfoldable pub views_of : List Call → List Call
views_of calls = filter is_view calls

-- what `call_numbered` gives if no call has the number
abbrev pub nobody : Call
nobody = record { number = 0; process = 0; operation = Views None; begun = 0; ended = None }

abbrev pub call_numbered : List Call → ℕ → Call
call_numbered calls n = get_or calls n nobody
