-- What contracts see of an open file.
use Rattle.std.specs.Prelude.{List}
use Rattle.disk_file.specs.Events.{Event}
use Rattle.disk_file.specs.declared.noted.Noted.{Noted}

-- what happened to it, the last event first
abbrev pub events_of : Noted → List Event
events_of file = file.history.events
