-- The table of the calls that a witness keeps.
use Rattle.snap_theory.specs.Versions.{IsAtomicBy}
use Rattle.snap_core.specs.declared.writers.Writers.{Writers}
use Rattle.std.specs.Prelude.{◌≡◌, ◌⊎◌, ◌++◌, ℕ, List, [], Option, Some, None, codes, decimal, length}
use Rattle.std.specs.List.{flat_map, range_with_len, zip}
use Rattle.snap_core.specs.declared.event.Event.{Event}
use Rattle.snap_core.specs.Calls.{Call, calls_of}
use Rattle.snap_theory.specs.FaultWitnesses.{Fault, fault_calls, fault_updates}
use Rattle.snap_theory.specs.First.{first_fault}
use Rattle.snap_theory.specs.Kept.{is_place_of}
use Rattle.snap_theory.specs.Witness.{numbers_of}
use Rattle.snap_report.specs.Lines.{call_word}
use Rattle.snap_witness.specs.Keeping.{as_kept, calls_kept}
use Rattle.snap_explain.specs.Calls.{record_word}
use Rattle.snap_check.specs.declared.status.Status.{Status}
use Rattle.snap_runs.specs.Shrinking.{IsCutTo}

-- the record of the end of a call, if it has one
abbrev pub end_word : List ℕ → Option ℕ → List ℕ
end_word records None = []
end_word records (Some ended) = record_word records ended

-- the number of a call, its process, and the records of its begin and its end
unfoldable pub columns : List ℕ → Call → List ℕ
columns records c =
    call_word c.number ++ codes "," ++ decimal c.process ++ codes "," ++ record_word records c.begun ++ codes "," ++ end_word records c.ended

-- the columns of a call, and those of the call that it is made from, each by the records of its own text
unfoldable pub map_line : List ℕ → List ℕ → Call × Call → List ℕ
map_line mine theirs pair = columns mine pair.0 ++ codes "," ++ columns theirs pair.1 ++ codes "\n"

-- a line for each call, in the order of the calls
abbrev pub map_text : List ℕ → List ℕ → List Call → List Call → List ℕ
map_text mine theirs calls sources =
    codes "call,process,begin,end,of call,of process,of begin,of end\n" ++ flat_map (map_line mine theirs) (zip calls sources)

-- the calls of a witness are what is left of the calls of the first fault, one for one
pub record AreOfFault (events left : List Event) (sources : List Call) : Type 0 where
  pub fault : Fault
  pub first : first_fault (calls_of events) ≡ Some fault
  pub kept : sources ≡ calls_kept events fault
  pub same : calls_of left ≡ as_kept (is_place_of (fault_calls events fault)) (numbers_of (fault_updates fault)) 0 sources

-- the calls of an atomic history are made from themselves
pub record AreThemselves (writers : Writers) (events left : List Event) (sources : List Call) : Type 0 where
  pub atomic : IsAtomicBy writers (calls_of events)
  pub whole : left ≡ events
  pub all : sources ≡ calls_of events

abbrev pub AreSources : Writers → List Event → List Event → List Call → Type 0
AreSources writers events left sources = AreThemselves writers events left sources ⊎ AreOfFault events left sources

-- the status of a history, and the table of the calls of what it is cut to. The records of the history are given, and those of what it
-- is cut to follow its header
pub record MapsHistory (writers : Writers) (events : List Event) (records : List ℕ) (status : Status) (out : List ℕ) : Type 0 where
  pub left : List Event
  pub sources : List Call
  pub cut : IsCutTo writers events status left
  pub are : AreSources writers events left sources
  pub writes : out ≡ map_text (range_with_len 2 (length left)) records (calls_of left) sources
