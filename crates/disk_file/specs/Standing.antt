-- What the events of a file say of it: what a read returns, and what a crash may leave.
use Rattle.std.specs.Prelude.{◌≡◌, ◌⊎◌, ⊤, ℕ, ◌+◌, ◌≤◌, List, [], ◌∷◌, length, take, drop}
use Rattle.std.specs.Prelude.{Bool, true, false, not, ◌&&◌, IsTrue}
use Rattle.take_journal.specs.Device.{IsTornCut, overwritten}
use Rattle.disk_file.specs.Events.{Event, Made, Found, FolderSynced, Synced, Read, Wrote, Cut}
use Rattle.disk_file.specs.Events.{FailedWrite, FailedCut, Failed}

pub record FileStanding : Type 0 where
  -- what a read of the whole file returns
  pub contents : List ℕ
  -- its name is on the disk, since its folder was synced after it was opened
  pub is_named : Bool
  -- its bytes were synced after that, and none was written since
  pub is_synced : Bool
  -- the bytes that were read were synced before that, so they are those on the disk; or it was made, and has none
  pub is_known : Bool
  -- a call has failed
  pub has_failed : Bool

-- it was changed to this
abbrev pub changed : List ℕ → FileStanding → FileStanding
changed contents s = record s { contents = contents; is_synced = false }

-- a call on it failed
abbrev pub failed : FileStanding → FileStanding
failed s = record s { is_synced = false; has_failed = true }

-- it was made just now, and is known, or was found
abbrev pub opened : Bool → FileStanding
opened is_known = record {
  contents = [];
  is_named = false;
  is_synced = false;
  is_known = is_known;
  has_failed = false;
}

-- what an event makes of it
abbrev pub after : Event → FileStanding → FileStanding
after Made s = opened true
after Found s = opened false
after FolderSynced s = record s { is_named = true }
after Synced s = record s { is_synced = s.is_named }
after (Read bytes) s = record s { contents = bytes; is_known = s.is_synced }
after (Wrote at bytes n) s = changed (overwritten at (take n bytes) s.contents) s
after (Cut len) s = changed (take len s.contents) s
after (FailedWrite at bytes) s = failed s
after (FailedCut len) s = failed s
after Failed s = failed s

-- after these events, of which the last one comes first
abbrev pub standing : List Event → FileStanding
standing [] = opened false
standing (e ∷ es) = after e (standing es)

-- After a write of n bytes at `at`, finished or not: any bytes in that range, and elsewhere the same as before.
pub record IsTorn (at n : ℕ) (old new : List ℕ) : Type 0 where
  pub ahead : take at new ≡ take at old
  pub behind : drop (at + n) new ≡ drop (at + n) old
  pub no_shorter : length old ≤ length new

-- A sync settles what a crash leaves if the disk has the file's name, its bytes are known and no call has failed.
abbrev pub is_settling : FileStanding → Bool
is_settling s = s.is_named && (s.is_known && not s.has_failed)

-- What a crash may leave after an event, of what it might leave before.
abbrev pub Leaves : Event → FileStanding → (List ℕ → Type 0) → List ℕ → Type 0
Leaves Made s before file = file ≡ []
Leaves Found s before file = ⊤
Leaves FolderSynced s before file = before file
Leaves Synced s before file = before file × (IsTrue (is_settling s) → file ≡ s.contents)
Leaves (Read bytes) s before file = before file × (IsTrue s.is_synced → file ≡ bytes)
Leaves (Wrote at bytes n) s before file = (old : List ℕ) × before old × IsTorn at (length bytes) old file
Leaves (Cut len) s before file = (old : List ℕ) × before old × IsTornCut len old file
Leaves (FailedWrite at bytes) s before file = (old : List ℕ) × before old × IsTorn at (length bytes) old file
Leaves (FailedCut len) s before file = (old : List ℕ) × before old × IsTornCut len old file
Leaves Failed s before file = before file

-- What a crash may leave after these events. Nothing is known of a file to which nothing has happened yet.
abbrev pub MayLeave : List Event → List ℕ → Type 0
MayLeave [] file = ⊤
MayLeave (e ∷ es) file = Leaves e (standing es) (MayLeave es) file

-- What a crash may have left when there were so many events or more.
abbrev pub LeftSince : List Event → ℕ → List ℕ → Type 0
LeftSince [] moment file = ⊤
LeftSince (e ∷ es) moment file = MayLeave (e ∷ es) file ⊎ ((moment ≤ length es) × LeftSince es moment file)
