-- Where a master's replicas lie, which log its data are, and what its images and its index have.
use Rattle.std.specs.Prelude.{◌≡◌, ℕ, zero, suc, ◌+◌, ◌-◌, ◌*◌, ◌%◌, List, [], ◌∷◌, ◌++◌, length, take, Bool, Option}
use Rattle.std.specs.Prelude.{Some, None, map, nat_le, not, ◌==◌, slice_get, unwrap_or, if◌then◌else◌}
use Rattle.std.specs.Option.{option_map, option_map_or}
use Rattle.cleaner.specs.Passes.{images_in, rest_of, ids_in}
use Rattle.entry.specs.declared.key.Key.{Key}
use Rattle.entry.specs.declared.entry.Entry.{Entry}
use Rattle.entry.specs.Meaning.{Versioned, object_at, contents_of}
use Rattle.entry.specs.Text.{text_of, entries_in}
use Rattle.segment.specs.Bytes.{standing_at}
use Rattle.versioned_map.specs.declared.command.Command.{Command}
use Rattle.versioned_map.specs.Command.{command_key}
use Rattle.versioned_map.specs.Versioned.{State}
use Rattle.log_head.specs.log_laws.Heads.{records_before}
use Rattle.log_memory.specs.log_laws.Memory.{Place as EntryPlace}
use Rattle.log_head.specs.log_laws.Heads.{Start}
use Rattle.log_head.specs.log_laws.Ids.{without}
use Rattle.log_memory.specs.log_laws.Data.{Head as FailHead, FailConfig, Mode, Calm, Rolls, Mends, Opens, Closes}
use Rattle.log_memory.specs.log_laws.Data.{Repairs}
use Rattle.log_memory.specs.log_laws.Data.{FailData, state_of}
use Rattle.log_memory.specs.log_laws.Steps.{no_head}
use Rattle.log_memory.specs.Memory.{Spot, FailMemory}
use Rattle.log_head.specs.declared.head.Roll.{Roll}
use Rattle.log_head.specs.Head.{HeadValue, everywhere}
use Rattle.log_head.specs.Log.{head_of, start_of}
use Rattle.master_state.specs.Budget.{victims_of, survivors_of, is_committing, most_segments}
use Rattle.master_state.specs.declared.config.Config.{Config}
use Rattle.master_state.specs.declared.failover.Failover.{Failover}
use Rattle.master_state.specs.declared.failover.Part.{Part}
use Rattle.master_state.specs.declared.failover.Part.TheVariants as part
use Rattle.master_state.specs.declared.waiting.Waiting.{Waiting}
use Rattle.places.specs.declared.place.Place.{Place}
use Rattle.places.specs.Map.{found}
use Rattle.master_state.specs.Data.{MasterData}
use Rattle.master_state.specs.Ledger.{took_in, counts_in, shut_in}
use Rattle.master_state.specs.Images.{image_among, images_among}
use Rattle.cleaner.specs.compactor.Places.{keys_in}

-- ---- placement

-- the backup at this place of a segment's order: the order is a circle of all backups, and the segment's id says where
-- it begins
abbrev pub backup_at : Config → ℕ → ℕ → ℕ
backup_at c segment place = (segment * c.step + place) % c.backups

-- the backups at so many places of a segment's order, from this place on
abbrev pub backups_from : Config → ℕ → ℕ → ℕ → List ℕ
backups_from c segment place zero = []
backups_from c segment place (suc n) = backup_at c segment place ∷ backups_from c segment (suc place) n

-- the backups that haven't failed, in the order of the segment
abbrev pub working : Config → List ℕ → ℕ → List ℕ
working c failed segment = without failed (backups_from c segment 0 c.backups)

-- the home of replica j of a segment: the backup at place j among those that haven't failed
abbrev pub home : Config → List ℕ → ℕ → ℕ → ℕ
home c failed segment j = unwrap_or (slice_get (working c failed segment) j) 0

-- the homes of the first so many replicas of a segment, the last one first
abbrev pub placed : Config → List ℕ → ℕ → ℕ → List ℕ
placed c failed s zero = []
placed c failed s (suc j) = home c failed s j ∷ placed c failed s j

-- which of the first so many replicas of a segment is on this backup, if any is
abbrev pub place_in : Config → List ℕ → ℕ → ℕ → ℕ → Option ℕ
place_in c failed s zero b = None
place_in c failed s (suc j) b = if home c failed s j == b then Some j else place_in c failed s j b

-- ---- the log

abbrev pub fail_config : Config → FailConfig
fail_config c = record {
  master = c.master;
  backups = c.backups;
  replicas = c.replicas;
  most = most_segments c;
  tablets = c.tablets;
  format = c.format;
}

-- the map and the safe version that the history begins with: a new master has no keys, and a loaded master has the
-- objects that were loaded
abbrev pub opening_of : MasterData → State
opening_of d = record { contents = contents_of d.origin.objects; safe = d.origin.safe }

-- all replicas of the head are open
abbrev pub is_opened : HeadValue → Bool
is_opened h = nat_le h.replicas (length h.taken)

-- the master is headless: none of its heads was opened on all its homes yet
abbrev pub is_headless : MasterData → Bool
is_headless d = option_map_or (λ (f : Failover). f.is_first) d.failover (not (is_opened d.head))

-- the head in force; if the master is headless, a head with the number 0, which stands for no head
abbrev pub in_force : MasterData → FailHead
in_force d =
    if is_headless d then record { start = no_head d.config.format; loaded = []; units = [] }
    else record {
      start = (head_of d.head).start;
      loaded = (head_of d.head).loaded;
      units = (head_of d.head).units;
    }

-- how far a roll is, while no failover is open; the opening of the first head counts as a roll
abbrev pub calm_mode : HeadValue → Mode
calm_mode h =
    if is_opened h then option_map_or (λ (r : Roll). Rolls (start_of r)) h.roll Calm else Rolls (head_of h).start

-- the new head of a failover: the head that its roll opens, or the master's head if there was no head before
abbrev pub new_start : HeadValue → Failover → Start
new_start h f =
    if f.is_first then (head_of h).start else option_map_or start_of h.roll (head_of h).start

-- which part of a failover is under way
abbrev pub failing_mode : HeadValue → Failover → Mode
failing_mode h f = by_part f.part where
  by_part : Part → Mode
  by_part part.Mends = Mends
  by_part part.Opens = Opens (new_start h f)
  by_part part.Closes = Closes (new_start h f)
  by_part part.Repairs = Repairs

abbrev pub mode_of : MasterData → Mode
mode_of d = option_map_or (failing_mode d.head) d.failover (calm_mode d.head)

-- the log as the model has it
abbrev pub log_of : MasterData → FailData
log_of d = record {
  config = fail_config d.config;
  opening = opening_of d;
  history = d.history;
  head = in_force d;
  counts = counts_in d.ledger;
  shut = shut_in d.ledger;
  mode = mode_of d;
  abandoned = d.abandoned;
  took = took_in d.ledger;
  failed = d.failed;
  frozen = option_map_or (λ (f : Failover). f.frozen) d.failover 0;
  next = d.next;
}

-- the versioned map's state after the history
abbrev pub state_now : MasterData → State
state_now d = state_of (log_of d)

-- The durable count: how many of the first records have no unit that some replica of the head lacks. While a failover
-- is open, the count stays as it was when the failover began.
abbrev pub durable_now : MasterData → ℕ
durable_now d =
    option_map_or (λ (f : Failover). f.frozen) d.failover
    (records_before (head_of d.head).units (length d.history) (everywhere d.head))

-- the version and the value that the command's key has now, if any
abbrev pub held_now : MasterData → Command → Option Versioned
held_now d command = (state_now d).contents (command_key command)

-- ---- images

-- the entries of a segment's image; None if there is no image
abbrev pub image_of : MasterData → ℕ → Option (List Entry)
image_of d segment = image_among d.head d.closed segment

abbrev pub images_of : MasterData → ℕ → List Entry
images_of d segment = images_among d.head d.closed segment

-- ---- the index

-- where the index finds a key: the first of its places at which an object of the key stands
abbrev pub find : MasterData → Key → Option Place
find d k = found (keys_in (images_of d)) k d.index

-- If the key has an object, a place was found, and the object's text stands there. If the key has none, no place was
-- found.
abbrev pub Finds : (ℕ → List Entry) → Key → Option Place → Option Versioned → Type 0
Finds images k None None = Unit {0}
Finds images k None (Some x) = ⊥
Finds images k (Some p) None = ⊥
Finds images k (Some p) (Some x) = standing_at p.at (text_of (images p.segment)) ≡ Some (object_at k x)

-- The index finds each object that the versioned map has, and no other.
abbrev pub IsIndexed : MasterData → Type 0
IsIndexed d = (k : Key) → Finds (images_of d) k (find d k) ((state_now d).contents k)

-- ---- the log set

-- the ids of the log set: the closed segments with the survivors of the open pass, the head, and the head that a roll
-- is opening
abbrev pub log_set_ids : MasterData → List ℕ
log_set_ids d = ids_in d.closed d.head.id (option_map (λ (r : Roll). r.id) d.head.roll)

-- ---- memory

-- how many entries of an image come before an offset
abbrev pub position_of : List Entry → ℕ → ℕ
position_of image at = length (entries_in (take at (text_of image)))

-- the same place as the models of memory have it, with a number of entries in place of an offset
abbrev pub entry_place : MasterData → Place → EntryPlace
entry_place d p = record { segment = p.segment; position = position_of (images_of d p.segment) p.at }

-- the places of the entries that the open pass has yet to treat
abbrev pub rest_now : MasterData → List Place
rest_now d = option_map_or (rest_of (images_in d.closed)) d.pass []

-- so many replicas of a segment, from replica j on, each with its backup
abbrev pub spots_from : Config → List ℕ → ℕ → ℕ → ℕ → List Spot
spots_from c failed s j zero = []
spots_from c failed s j (suc n) =
    record { segment = s; backup = home c failed s j } ∷ spots_from c failed s (suc j) n

-- the replicas of these waiting segments that weren't freed yet
abbrev pub spots_in : Config → List ℕ → List Waiting → List Spot
spots_in c failed [] = []
spots_in c failed (w ∷ ws) = spots_from c failed w.segment w.freed (w.replicas - w.freed) ++ spots_in c failed ws

-- the master's memory as the models of compaction and cleaning have it
abbrev pub memory_of : MasterData → FailMemory
memory_of d = record {
  images = images_of d;
  index = λ k. option_map (entry_place d) (find d k);
  pass = record { victims = victims_of d.pass; survivors = survivors_of d.pass };
  rest = map (entry_place d) (rest_now d);
  commits = is_committing d;
  waiting = spots_in d.config d.failed d.waiting;
}
