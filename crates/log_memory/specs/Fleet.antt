-- What a fleet keeps of a master and its memory, in bytes, and what each answer to an op says of it.
use Rattle.std.specs.Prelude.{◌≡◌, ◌⊎◌, ℕ, ◌<◌, ◌≤◌, List, [], length, true, false, Some, slice_get}
use Rattle.std.specs.List.Sorted.{IsStrictlySortedBy}
use Rattle.std.specs.Ordering.{nat_cmp}
use Rattle.entry.specs.declared.entry.Object.{Object}
use Rattle.entry.specs.declared.entry.Entry.{Entry}
use Rattle.entry.specs.Bag.{IsAmong}
use Rattle.entry.specs.declared.key.Key.{Key}
use Rattle.entry.specs.Meaning.{IsOfKey, among}
use Rattle.entry.specs.Text.{data_in}
use Rattle.replica.specs.declared.op.TakeFault.TheVariants as take_fault
use Rattle.replica.specs.Acks.{acked, Grows, WasAcked, HasPut}
use Rattle.replica.specs.Picture.{Replica, Shown, FleetState, shown_of}
use Rattle.versioned_map.specs.declared.command.Record.{Record}
use Rattle.log_bytes.specs.log_laws.Heads.{Start, LogUnit}
use Rattle.log_bytes.specs.log_laws.Memory.{Place}
use Rattle.log_bytes.specs.log_laws.Data.{Head, front, front_entries, bare, Calm, Repairs, FailConfig, Mode, FailData}
use Rattle.log_bytes.specs.log_laws.Data.{HasTaken}
use Rattle.log_bytes.specs.log_laws.Data.{IsHome, homes}
use Rattle.log_bytes.specs.log_laws.Data.{is_failing, durable_of}
use Rattle.log_bytes.specs.log_laws.Durable.{TakenHead, heads_of, AreTaken, IsDurable}
use Rattle.log_bytes.specs.log_laws.Log.{IsOther}
use Rattle.log_bytes.specs.log_laws.Runs.{IsOn, IsThere}
use Rattle.log_bytes.specs.log_laws.Shown.{Shown as ModelShown, Op}
use Rattle.log_bytes.specs.log_laws.Steps.{fresh, restored, MayBegin, applied, MayApply, adopted, rolling, next_start}
use Rattle.log_bytes.specs.log_laws.Steps.{MayTurn, ended, EndsRoll, failing, MayFail, mended}
use Rattle.log_bytes.specs.Choice.{IsOpenedHead, IsNewestOpenedOrNone, newest_opened}
use Rattle.log_bytes.specs.Held.{HoldsUnit}
use Rattle.log_bytes.specs.Ops.{IsOnFleet, TakesOp, RefusesOp}
use Rattle.log_bytes.specs.Runs.{read_fleet}
use Rattle.log_bytes.specs.Segments.{HeadsAreSegments}
use Rattle.log_bytes.specs.Sound.{IsSoundInBytes}
use Rattle.log_bytes.specs.Spelled.{IsSpelled}
use Rattle.log_bytes.specs.Text.{IsWholeText}
use Rattle.log_memory.specs.Acked.{bytes_up_to, AreAcked}
use Rattle.log_memory.specs.Covered.{IsCovered}
use Rattle.log_memory.specs.Intact.{IsIntact, Knows}
use Rattle.log_memory.specs.Loading.{with_object, object_loaded, MayLoad, IsLoadingOp, IsLoading}
use Rattle.log_memory.specs.Memory.{FailMemory}
use Rattle.log_memory.specs.Ops.{IsHeadOp, RepairsImage, IsOp}
use Rattle.log_memory.specs.Past.{past_ids}
use Rattle.log_memory.specs.Same.{IsSameMemory}
use Rattle.log_memory.specs.Steps.{first_memory, recorded, IsNamed, compacted, MayCompact, ids_taken, pass_begun}
use Rattle.log_memory.specs.Steps.{MayBeginClean, copy_done, MayCopy, rolled, stopped, MayCommit, finished}

-- what the fleet holds of the master, as the model reads it
abbrev pub read_of : FailData → FleetState → ModelShown
read_of d f = read_fleet d.config.master f

-- what the fleet shows of the master
abbrev pub shown_for : FailData → FleetState → Shown
shown_for d f = shown_of f d.config.master

-- ---- a master

-- The fleet keeps all of a master: it spells an intact log of whole segments, and what the master counts was answered
-- Ok.
pub record KeepsAll (d : FailData) (m : FailMemory) (f : FleetState) : Type 0 where
  pub spelled : IsSpelled d.config.master (shown_for d f) (read_of d f)
  pub heads : HeadsAreSegments d.config.master d
  pub intact : IsIntact d m (read_of d f)
  pub acked : AreAcked d.config.master d f.acks intact.past

-- The fleet holds all of a master: it keeps all, and the master knows what the backups that haven't failed hold.
pub record HoldsAll (d : FailData) (m : FailMemory) (f : FleetState) : Type 0 where
  pub keeps : KeepsAll d m f
  pub knows : Knows d m (read_of d f)

-- ---- durable

-- The replica is an image of the head that a failover sealed, so a backup had failed. The replica is closed. It has no
-- other entries than the head, and all objects and tombstones of the head's image in memory.
pub record IsSealedImage (d : FailData) (m : FailMemory) (h : Head) (r : Replica) : Type 0 where
  pub failed : d.failed ≡ [] → ⊥
  pub shut : r.is_open ≡ false
  pub within : (e : Entry) → among (data_in r.bytes) e → among (front_entries h (length h.units)) e
  pub whole : (k : Key) (e : Entry) → IsOfKey k e → IsAmong e (m.images h.start.id) → IsAmong e (data_in r.bytes)

-- The backup holds the head's whole text, or an image of the head that a failover sealed.
pub record HoldsPast (d : FailData) (m : FailMemory) (f : FleetState) (b : ℕ) (h : Head) : Type 0 where
  pub r : Replica
  pub held : f.picture b d.config.master h.start.id ≡ Some r
  pub text : (r.bytes ≡ bytes_up_to d.config.master h (length h.units)) ⊎ IsSealedImage d m h r

-- The master's durable count is the greatest number of first records that are durable: as many backups as a segment
-- has replicas took each of their units whole, in takes that answered Ok. While a failover is open, the count stays
-- what it was, and all records that it counts are durable.
pub record CountsDurable (d : FailData) (m : FailMemory) (f : FleetState) : Type 0 where
  -- the heads before the one in force
  pub past : List TakenHead
  pub rising : IsStrictlySortedBy nat_cmp (past_ids past)
  pub older : (h : TakenHead) → IsAmong h past → h.head.start.id < d.head.start.id
  pub counted : is_failing d.mode ≡ false → IsDurable d past (durable_of d)
  pub taken : AreTaken d past (durable_of d)
  -- a backup that is counted for a head took, with Ok, just the head's bytes up to the units that are counted for it
  pub acked : (h : TakenHead) (b : ℕ) → IsAmong h (heads_of past d) → IsAmong b h.took
      → WasAcked f.acks b d.config.master h.head.start.id (bytes_up_to d.config.master h.head (h.counts b))
  -- a backup that is counted for any segment answered Ok to an Open or a Seal of it
  pub put : (s b : ℕ) → HasTaken d s b → HasPut f.acks b d.config.master s
  -- each backup that took the head's Open holds each durable unit of it
  pub units : (place b : ℕ) (u : LogUnit) → slice_get d.head.units place ≡ Some u → u.number < durable_of d
      → HasTaken d d.head.start.id b → HoldsUnit (shown_for d f) d.config.master b d.head.start.id u
  -- each home of an earlier head holds it, as long as a digest lists the segment
  pub heads : (h : TakenHead) (b : ℕ) → IsAmong h past → IsOther d h.head.start.id → IsHome d h.head.start.id b
      → HoldsPast d m f b h.head

-- ---- laws of what is kept

-- The picture is sound, and `newest_opened` gives the newest opened head that may be used, or none if there is none.
abbrev pub KeptIsSound : Type 0
KeptIsSound = (d : FailData) (m : FailMemory) (f : FleetState) → KeepsAll d m f
    → IsSoundInBytes d.config.master d (shown_for d f)
    × IsNewestOpenedOrNone (IsOpenedHead d d.config.master (shown_for d f)) (f.least d.config.master) (newest_opened d)

abbrev pub KeptIsCovered : Type 0
KeptIsCovered = (d : FailData) (m : FailMemory) (f : FleetState) → KeepsAll d m f → IsCovered d m (read_of d f)

abbrev pub KeptIsDurable : Type 0
KeptIsDurable = (d : FailData) (m : FailMemory) (f : FleetState) → KeepsAll d m f
    → length (homes d d.head.start.id) ≤ d.config.replicas → CountsDurable d m f

-- Nothing here depends on replicas, acks and least heads of other masters.
abbrev pub OthersLeaveAll : Type 0
OthersLeaveAll = (d : FailData) (m : FailMemory) (f g : FleetState)
    → ((b s : ℕ) → g.picture b d.config.master s ≡ f.picture b d.config.master s)
    → g.least d.config.master ≡ f.least d.config.master → Grows f.acks g.acks
    → ((b s : ℕ) → acked g.acks b d.config.master s ≡ acked f.acks b d.config.master s)
    → (KeepsAll d m f → KeepsAll d m g) × (HoldsAll d m f → HoldsAll d m g)

-- ---- laws of ops

-- If the op is answered Ok, the fleet holds all of the new master and memory.
abbrev pub OkHoldsAll : Type 0
OkHoldsAll = (d e : FailData) (m n : FailMemory) (f g : FleetState) (o : Op) → HoldsAll d m f → IsOp d m o e n
    → IsThere d.config o → TakesOp d.config.master f o g → HoldsAll e n g

-- If the op ends in a fault, the fleet keeps all of the old master and memory, so the master may halt.
abbrev pub FaultKeepsAll : Type 0
FaultKeepsAll = (d e : FailData) (m n : FailMemory) (f g : FleetState) (o : Op) → HoldsAll d m f → IsOp d m o e n
    → IsThere d.config o → RefusesOp d.config.master f o take_fault.Fault g → KeepsAll d m g

-- If the op ends in a fault that may open a failover, the fleet holds all of the master that has opened it.
abbrev pub FaultFailsOver : Type 0
FaultFailsOver = (d e : FailData) (m n : FailMemory) (f g : FleetState) (o : Op) (b : ℕ) → HoldsAll d m f
    → IsOp d m o e n → IsThere d.config o → IsOn b o → MayFail d
    → RefusesOp d.config.master f o take_fault.Fault g → HoldsAll (failing d b) (stopped m) g

-- The fleet never answers Wrong to the op.
abbrev pub OpIsNeverWrong : Type 0
OpIsNeverWrong = (d e : FailData) (m n : FailMemory) (f g : FleetState) (o : Op) → HoldsAll d m f → IsOp d m o e n
    → IsOnFleet f o → RefusesOp d.config.master f o take_fault.Wrong g → ⊥

-- ---- laws of steps that take no op

abbrev pub FreshHoldsAll : Type 0
FreshHoldsAll = (c : FailConfig) (f : FleetState) → MayBegin c (read_fleet c.master f)
    → HeadsAreSegments c.master (fresh c) → HoldsAll (fresh c) (first_memory c 1) f

-- A premise is that the head is a whole segment with the unit appended.
abbrev pub ApplyHoldsAll : Type 0
ApplyHoldsAll = (d : FailData) (m : FailMemory) (f : FleetState) (segment : ℕ) (r : Record) → HoldsAll d m f
    → MayApply d segment r → IsNamed m segment r
    → IsWholeText d.config.master d.head.start.id
    (front (applied d segment r).head (length (applied d segment r).head.units))
    → HoldsAll (applied d segment r) (recorded d m segment r) f

abbrev pub CompactHoldsAll : Type 0
CompactHoldsAll = (d : FailData) (m : FailMemory) (f : FleetState) (s : ℕ) → HoldsAll d m f → MayCompact d m s
    → HoldsAll d (compacted d m s) f

abbrev pub BeginHoldsAll : Type 0
BeginHoldsAll = (d : FailData) (m : FailMemory) (f : FleetState) (victims : List ℕ) (count : ℕ) → HoldsAll d m f
    → MayBeginClean d m victims → HoldsAll (ids_taken count d) (pass_begun d m victims count) f

abbrev pub CopyHoldsAll : Type 0
CopyHoldsAll = (d : FailData) (m : FailMemory) (f : FleetState) (first : Place) (rest : List Place) (s : ℕ) (e : Entry)
    → HoldsAll d m f → MayCopy d m first rest s e → HoldsAll d (copy_done d m first rest s e) f

-- A premise is that the opening of the new head is a whole segment.
abbrev pub RollHoldsAll : Type 0
RollHoldsAll = (d : FailData) (m : FailMemory) (f : FleetState) (mode : Mode) → HoldsAll d m f → MayTurn d mode
    → IsWholeText d.config.master (next_start d).id (bare (next_start d))
    → HoldsAll (rolling d (next_start d) mode) (rolled d m (next_start d) false) f

abbrev pub CommitHoldsAll : Type 0
CommitHoldsAll = (d : FailData) (m : FailMemory) (f : FleetState) (n : Start) (mode : Mode) → HoldsAll d m f
    → MayCommit d m n mode → IsWholeText d.config.master n.id (bare n)
    → HoldsAll (rolling d n mode) (rolled d m n true) f

abbrev pub EndHoldsAll : Type 0
EndHoldsAll = (d : FailData) (m : FailMemory) (f : FleetState) (n : Start) (mode : Mode) → HoldsAll d m f
    → EndsRoll d n mode → m.commits ≡ false → HoldsAll (ended d n mode) m f

abbrev pub FinishHoldsAll : Type 0
FinishHoldsAll = (d : FailData) (m : FailMemory) (f : FleetState) (n : Start) (mode : Mode) → HoldsAll d m f
    → EndsRoll d n mode → m.commits ≡ true → HoldsAll (ended d n mode) (finished d m) f

-- The fleet holds all once a failover has ended.
abbrev pub MendHoldsAll : Type 0
MendHoldsAll = (d : FailData) (m : FailMemory) (f : FleetState) → HoldsAll d m f → d.mode ≡ Repairs
    → HoldsAll (mended d) m f

abbrev pub SameHoldsAll : Type 0
SameHoldsAll = (d : FailData) (m n : FailMemory) (f : FleetState) → IsSameMemory d m n
    → (HoldsAll d m f → HoldsAll d n f) × (KeepsAll d m f → KeepsAll d n f)

-- ---- a master that is loading

-- The fleet holds all of a loading master: it spells a log of whole segments, which represents what was loaded, and
-- the master knows what is held.
pub record HoldsLoading (d : FailData) (m : FailMemory) (f : FleetState) : Type 0 where
  pub spelled : IsSpelled d.config.master (shown_for d f) (read_of d f)
  pub heads : HeadsAreSegments d.config.master d
  pub loading : IsLoading d m (read_of d f)
  pub acked : AreAcked d.config.master d f.acks []
  pub knows : Knows d m (read_of d f)

abbrev pub RestoredHoldsLoading : Type 0
RestoredHoldsLoading = (c : FailConfig) (safe : ℕ) (f : FleetState) → MayBegin c (read_fleet c.master f)
    → HeadsAreSegments c.master (restored c safe) → HoldsLoading (restored c safe) (first_memory c safe) f

abbrev pub LoadHoldsLoading : Type 0
LoadHoldsLoading = (d : FailData) (m : FailMemory) (f : FleetState) (o : Object) → HoldsLoading d m f → MayLoad d o
    → IsWholeText d.config.master d.head.start.id
    (front (with_object d o).head (length (with_object d o).head.units))
    → HoldsLoading (with_object d o) (object_loaded d m o) f

abbrev pub OkHoldsLoading : Type 0
OkHoldsLoading = (d e : FailData) (m : FailMemory) (f g : FleetState) (o : Op) → HoldsLoading d m f → IsHeadOp d o e
    → IsThere d.config o → TakesOp d.config.master f o g → HoldsLoading e m g

abbrev pub LoadingIsNeverWrong : Type 0
LoadingIsNeverWrong = (d e : FailData) (m : FailMemory) (f g : FleetState) (o : Op) → HoldsLoading d m f
    → IsHeadOp d o e → IsOnFleet f o → RefusesOp d.config.master f o take_fault.Wrong g → ⊥

-- The fleet holds all of a loading master once an op of a failover seals a lost replica anew and is answered Ok.
abbrev pub RepairHoldsLoading : Type 0
RepairHoldsLoading = (d e : FailData) (m : FailMemory) (f g : FleetState) (o : Op) → HoldsLoading d m f
    → RepairsImage d m o e → IsThere d.config o → TakesOp d.config.master f o g → HoldsLoading e m g

abbrev pub RepairIsNeverWrong : Type 0
RepairIsNeverWrong = (d e : FailData) (m : FailMemory) (f g : FleetState) (o : Op) → HoldsLoading d m f
    → RepairsImage d m o e → IsOnFleet f o → RefusesOp d.config.master f o take_fault.Wrong g → ⊥

-- If an op ends in a fault, the fleet holds all of the loading master that has opened a failover.
abbrev pub FaultFailsLoading : Type 0
FaultFailsLoading = (d e : FailData) (m : FailMemory) (f g : FleetState) (o : Op) (b : ℕ) → HoldsLoading d m f
    → IsLoadingOp d m o e → IsThere d.config o → IsOn b o → MayFail d
    → RefusesOp d.config.master f o take_fault.Fault g → HoldsLoading (failing d b) (stopped m) g

abbrev pub MendHoldsLoading : Type 0
MendHoldsLoading = (d : FailData) (m : FailMemory) (f : FleetState) → HoldsLoading d m f → d.mode ≡ Repairs
    → HoldsLoading (mended d) m f

abbrev pub RollHoldsLoading : Type 0
RollHoldsLoading = (d : FailData) (m : FailMemory) (f : FleetState) (mode : Mode) → HoldsLoading d m f
    → MayTurn d mode → IsWholeText d.config.master (next_start d).id (bare (next_start d))
    → HoldsLoading (rolling d (next_start d) mode) (rolled d m (next_start d) false) f

abbrev pub EndHoldsLoading : Type 0
EndHoldsLoading = (d : FailData) (m : FailMemory) (f : FleetState) (n : Start) (mode : Mode) → HoldsLoading d m f
    → EndsRoll d n mode → HoldsLoading (ended d n mode) m f

abbrev pub SameHoldsLoading : Type 0
SameHoldsLoading = (d : FailData) (m n : FailMemory) (f : FleetState) → IsSameMemory d m n → HoldsLoading d m f
    → HoldsLoading d n f

-- Once all that was loaded is on the backups, the fleet holds all of the master whose history begins.
abbrev pub FinishedHoldsAll : Type 0
FinishedHoldsAll = (d : FailData) (m : FailMemory) (f : FleetState) → HoldsLoading d m f → d.mode ≡ Calm
    → ((b : ℕ) → HasTaken d d.head.start.id b → d.counts b ≡ length d.head.units)
    → HoldsAll (adopted d d.opening) m f
