-- What contracts see of a file on the disk.
use Rattle.std.specs.Prelude.{List, ℕ, Bool}
use Rattle.disk_file.specs.Events.{Event}
use Rattle.disk_file.specs.Noted.{events_of}
use Rattle.disk_file.specs.Standing.{MayLeave, standing}
use Rattle.disk_file.specs.declared.disk.DiskFile.{DiskFile}

-- what happened to it, the last event first
abbrev pub history : DiskFile → List Event
history file = events_of file.noted

-- its ghost members as a device
abbrev pub contents : DiskFile → List ℕ
contents file = (standing (history file)).contents

abbrev pub may_leave : DiskFile → List ℕ → Type 0
may_leave file = MayLeave (history file)

abbrev pub has_failed : DiskFile → Bool
has_failed file = (standing (history file)).has_failed
