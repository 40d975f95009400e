-- What a view shows.
use Rattle.std.specs.Prelude.{List}
use Rattle.std.specs.Arc.{arc_value}
use Rattle.snap_core.specs.declared.entry.Entry.{Entry}
use Rattle.snap_core.specs.declared.view.Shown.{Shown}
use Rattle.snap_core.specs.declared.view.Shown.TheVariants as shown

abbrev pub shown_in : Shown → List Entry
shown_in (shown.Own es) = es.items
shown_in (shown.Shared es) = (arc_value es).items
