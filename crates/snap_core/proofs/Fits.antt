-- What the types of the fields keep of components.
use Rattle.std.proofs.Common.{List}
use Rattle.std.specs.List.{All}
use Rattle.snap_core.specs.declared.entry.Entry.{Entry}
use Rattle.snap_core.specs.Entries.{HasByteComponent, EntryFits}
use Rattle.snap_core.specs.Events.{Event, BeginUpdate, BeginView, EndUpdate, EndView, IsByteEvent, EventFits, HasByteComponents}

bytes_of_entries : (es : List Entry) → All EntryFits es → All HasByteComponent es
bytes_of_entries es h = λ k d l. (h k d l).0

byte_of_event : (e : Event) → EventFits e → IsByteEvent e
byte_of_event (BeginUpdate p e) h = h.1.0
byte_of_event (BeginView p) h = tt
byte_of_event (EndUpdate p) h = tt
byte_of_event (EndView p es) h = bytes_of_entries es h.1.fit

pub bytes_of_events : (es : List Event) → All EventFits es → HasByteComponents es
bytes_of_events es h = λ k d l. byte_of_event _ (h k d l)
