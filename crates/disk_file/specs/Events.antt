-- What happened to a file: the calls of the system on it, each with its answer.
use Rattle.std.specs.Prelude.{ℕ, ◌<◌, ◌≤◌, List, length, Option, Some, None, ⊤}
use Rattle.disk_file.specs.declared.history.Call.{Call}
use Rattle.disk_file.specs.declared.history.Call.TheVariants as call
use Rattle.disk_file.specs.declared.history.Note.{Note}
use Rattle.disk_file.specs.declared.history.Note.TheVariants as note

pub data Event : Type 0 where
  -- the file was made, and had no bytes
  Made : Event
  -- the file was there
  Found : Event
  -- the name of the file was put on the disk
  FolderSynced : Event
  -- its bytes and its length were put on the disk
  Synced : Event
  -- it was read from its start to its end, and these are its bytes
  Read : List ℕ → Event
  -- these bytes were to be written at this offset, and so many of them were taken
  Wrote : ℕ → List ℕ → ℕ → Event
  -- it was cut to this length
  Cut : ℕ → Event
  -- a write, a cut, or another call that failed or was refused
  FailedWrite : ℕ → List ℕ → Event
  FailedCut : ℕ → Event
  Failed : Event

-- what happened by a call that the system answered: with a count, or with None if it failed
abbrev pub outcome : Call → Option ℕ → Event
outcome (call.SyncFolder folder) (Some n) = FolderSynced
outcome call.Sync (Some n) = Synced
outcome (call.Write at bytes) (Some n) = Wrote at bytes.now n
outcome (call.Cut len) (Some n) = Cut len
outcome (call.SyncFolder folder) None = Failed
outcome call.Sync None = Failed
outcome (call.Write at bytes) None = FailedWrite at bytes.now
outcome (call.Cut len) None = FailedCut len

abbrev pub event_of : Note → Event
event_of note.Made = Made
event_of note.Found = Found
event_of (note.Read bytes) = Read bytes.now
event_of note.Refused = Failed
event_of (note.Answered call taken) = outcome call taken

-- A write takes a byte at least, and at most those that it was given.
abbrev pub IsAnswer : Call → ℕ → Type 0
IsAnswer (call.SyncFolder folder) n = ⊤
IsAnswer call.Sync n = ⊤
IsAnswer (call.Write at bytes) n = (0 < n) × (n ≤ length bytes.now)
IsAnswer (call.Cut len) n = ⊤
