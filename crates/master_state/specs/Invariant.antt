-- What holds of every master's core.
use Rattle.std.specs.Prelude.{◌≡◌, ℕ, ◌^◌, ◌+◌, ◌<◌, ◌≤◌, ◌==◌, List, [], ◌∷◌, length, map, true, false, Some, None}
use Rattle.std.specs.Prelude.{IfSome, IsSome}
use Rattle.std.specs.Prelude.{if◌then◌else◌}
use Rattle.log_memory.specs.log_laws.Intact.{BeginAsSurvivor}
use Rattle.cleaner.specs.declared.pass.Pass.{Pass as OpenPass}
use Rattle.cleaner.specs.declared.survivors.Survivors.{Survivors}
use Rattle.cleaner.specs.KeptLengths.{HasRoomsIn}
use Rattle.cleaner.specs.Passes.{images_in, survivor_ids, rest_of, is_at_end, is_ready as is_ready_pass, IsPass}
use Rattle.cleaner.specs.Seals.{first_lacking}
use Rattle.entry.specs.declared.entry.Tombstone.{Tombstone}
use Rattle.entry.specs.declared.entry.Entry.{Entry}
use Rattle.entry.specs.declared.entry.Entry.TheVariants as entry
use Rattle.entry.specs.Bag.{IsAmong}
use Rattle.log_head.specs.log_laws.Ids.{has, all_inserted, without}
use Rattle.entry.specs.declared.key.Key.{Key}
use Rattle.std.specs.List.{AllByRecursion}
use Rattle.entry.specs.Text.{text_of, IsSegment}
use Rattle.master_state.specs.Kept.{AreFewKept}
use Rattle.places.specs.declared.place.Place.{Place}
use Rattle.places.specs.Map.{AreKept}
use Rattle.images.specs.Image.{Image}
use Rattle.images.specs.Sorted.{replicas_of}
use Rattle.images.specs.Images.{ImagesValue}
use Rattle.versioned_map.specs.History.{IsLegal}
use Rattle.log_head.specs.Head.{HeadValue, IsHeadValue, digest_of}
use Rattle.log_head.specs.declared.head.Roll.{Roll}
use Rattle.log_head.specs.Log.{head_of, start_of, IsImageOf, IsNewImage}
use Rattle.log_head.specs.log_laws.Heads.{ids_of}
use Rattle.log_head.specs.log_laws.Rising.{AreBelow}
use Rattle.master_state.specs.declared.config.Config.{Config}
use Rattle.master_state.specs.declared.failover.Failover.{Failover}
use Rattle.master_state.specs.declared.failover.Part.TheVariants as part
use Rattle.master_state.specs.declared.waiting.Waiting.{Waiting}
use Rattle.master_state.specs.Budget.{whole_seglets, used_seglets, free_seglets, newest_digest, most_segments}
use Rattle.master_state.specs.Budget.{victims_of, survivors_of, is_committing}
use Rattle.master_state.specs.Config.{config_fault}
use Rattle.master_state.specs.Data.{MasterData}
use Rattle.cleaner.specs.compactor.Places.{keys_in}
use Rattle.master_state.specs.Index.{LiesFound}
use Rattle.tally.specs.Rows.{AreRight}
use Rattle.tally.specs.declared.tallies.Tally.{Tally}
use Rattle.master_state.specs.Log.{opening_of, is_opened, is_headless, state_now, images_of, find, log_set_ids}

-- The index leads from each key to the object that the versioned map has of it, and from no other key to an object. The
-- safe version is that of the versioned map.
pub record IsIndex (d : MasterData) : Type 0 where
  pub kept : AreKept (keys_in (images_of d)) d.index
  pub lies : (k : Key) → LiesFound (images_of d) k (find d k) ((state_now d).contents k)
  pub safe : d.safe ≡ (state_now d).safe

-- the ids of the log, the head in force included, without the victims and with the survivors
abbrev pub listed_with : MasterData → List ℕ → List ℕ → List ℕ
listed_with d victims survivors = all_inserted survivors (without victims (ids_of (head_of d.head).start))

-- the ids that the digest of a roll lists beside its own head: those of the whole log, or for a commit those of the log
-- with the survivors in place of the victims
abbrev pub listed_now : MasterData → List ℕ
listed_now d =
    if is_committing d then listed_with d (victims_of d.pass) (survivors_of d.pass) else ids_of (head_of d.head).start

-- What holds of a roll that is under way: the head that it opens lists the log, and has a greater id than the head in
-- force.
pub record IsRollOf (d : MasterData) (r : Roll) : Type 0 where
  pub image : IsNewImage d.config.master r
  pub lists : (start_of r).others ≡ listed_now d
  pub within : length (text_of r.image) ≤ d.config.segment
  pub newer : d.head.id < r.id
  pub used : r.id < d.next

-- What holds of a master's head before any head is in force: it has no objects or tombstones, and lists no other
-- segment.
pub record IsFirst (h : HeadValue) : Type 0 where
  pub others : (head_of h).start.others ≡ []
  pub loaded : (head_of h).loaded ≡ []
  pub units : h.units ≡ []

-- the images are counted by the segment, the seglet and the budget of the configuration
pub record AreImagesOf (c : Config) (v : ImagesValue) : Type 0 where
  pub segment : v.segment ≡ c.segment
  pub seglet : v.seglet ≡ c.seglet
  pub seglets : v.seglets ≡ c.seglets

-- ---- an open pass

-- no id is in the list twice
abbrev pub AreApart : List ℕ → Type 0
AreApart [] = Unit {0}
AreApart (s ∷ ids) = (has ids s ≡ false) × AreApart ids

-- The victims of a pass are 1 to 32 closed segments of the digest in force, each once.
pub record AreVictims (d : MasterData) (victims : List ℕ) : Type 0 where
  pub some : 0 < length victims
  pub few : length victims ≤ 32
  pub apart : AreApart victims
  pub older : AllByRecursion (λ (s : ℕ). has (head_of d.head).start.others s ≡ true) victims

-- What holds of a survivor of an open pass: the digest in force doesn't list it, and no roll is opening it. It begins
-- with its header, and isn't longer than a segment.
pub record IsSurvivor (d : MasterData) (s : ℕ) : Type 0 where
  pub outside : has (ids_of (head_of d.head).start) s ≡ false
  pub not_new : IfSome d.head.roll (λ r. (r.id == s) ≡ false)
  pub used : s < d.next
  pub begins : BeginAsSurvivor d.config.master s (images_in d.closed s)
  pub within : length (text_of (images_in d.closed s)) ≤ d.config.segment

-- A pass has one to four survivors.
pub record AreSurvivors (d : MasterData) (survivors : Survivors) : Type 0 where
  pub some : 0 < survivors.count
  pub few : survivors.count ≤ 4
  pub each : (s : ℕ) → IsAmong s (survivor_ids survivors) → IsSurvivor d s

-- What has to stay free until the commit of a pass begins: a whole segment of memory, and places in the digest for the
-- survivors and the next head, in place of the victims.
pub record IsSpare (d : MasterData) (victims survivors : ℕ) : Type 0 where
  pub free : whole_seglets d.config ≤ free_seglets d
  pub listed : length (newest_digest d.head) + survivors + 1 ≤ most_segments d.config + victims

pub record IsOpenPass (d : MasterData) (p : OpenPass) : Type 0 where
  pub pass : IsPass d.index.seed d.closed p
  pub victims : AreVictims d p.victims
  pub survivors : AreSurvivors d p.survivors
  -- the survivors have room for all entries that are still to be copied
  pub rooms : HasRoomsIn d.config.segment (log_set_ids d) p d.closed d.index
  pub sealed : (s : ℕ) → IsAmong s (survivor_ids p.survivors) → replicas_of d.closed s ≤ d.config.replicas
  -- an object that the index finds in a victim is still to be copied
  pub live : (k : Key) (q : Place) → find d k ≡ Some q → IsAmong q.segment p.victims
      → IsAmong q (rest_of (images_in d.closed) p)
  -- no survivor is sealed before all entries are copied
  pub unsealed : is_at_end p ≡ false → (s : ℕ) → IsAmong s (survivor_ids p.survivors) → replicas_of d.closed s ≡ 0
  -- if no backup has failed, what the commit needs is free until it begins; a failover may use it
  pub spare : d.failed ≡ [] → p.is_committing ≡ false → IsSpare d (length p.victims) p.survivors.count
  -- if the pass is committing, a roll is under way and the pass is ready
  pub commits : p.is_committing ≡ true → IsSome d.head.roll
      × (is_ready_pass d.config.replicas d.closed p ≡ true)

-- ---- backups that failed

-- The backups that failed are backups of the configuration, each listed once. At least as many backups are left as a
-- segment has replicas.
pub record AreFailed (d : MasterData) : Type 0 where
  pub few : length d.failed + d.config.replicas ≤ d.config.backups
  pub there : AllByRecursion (λ (b : ℕ). b < d.config.backups) d.failed
  pub apart : AreApart d.failed
  -- backups are counted as failed under format 2 only: under format 1 a failure halts the master
  pub two : (d.failed ≡ [] → ⊥) → d.config.format ≡ 2

-- each closed segment of the digest in force has all its replicas
abbrev pub AreWhole : MasterData → Type 0
AreWhole d = first_lacking d.config.replicas d.closed (head_of d.head).start.others ≡ None

-- What holds of an open failover. In the part Mends no roll is under way. In the parts Opens and Closes a roll is under
-- way; but if no head was in force before, Opens has no roll, and Closes doesn't come. In the part Repairs the new head
-- is in force without units, and some closed segment lacks a replica.
pub record IsFailover (d : MasterData) (f : Failover) : Type 0 where
  pub some : d.failed ≡ [] → ⊥
  pub closed : f.closed < d.config.replicas
  pub mends : f.part ≡ part.Mends → (d.head.roll ≡ None) × (f.closed ≤ length d.head.taken) × (is_committing d ≡ false)
  pub opens : f.part ≡ part.Opens → f.is_first ≡ false → IsSome d.head.roll × (f.abandoned ≡ None)
  pub first : f.is_first ≡ true → (d.head.roll ≡ None) × (f.abandoned ≡ None)
  pub closes : f.part ≡ part.Closes → (f.is_first ≡ false) × (f.abandoned ≡ None)
      × IfSome d.head.roll (λ (r : Roll). r.opened ≡ d.config.replicas) × IsSome d.head.roll
  pub repairs : f.part ≡ part.Repairs → (f.is_first ≡ false) × (f.abandoned ≡ None) × (d.head.roll ≡ None)
      × (is_opened d.head ≡ true) × (d.head.units ≡ []) × ((head_of d.head).loaded ≡ []) × (AreWhole d → ⊥)
      × (d.abandoned ≡ [])

-- each tombstone in the images names a segment with an id below this
abbrev pub NameBelow : (ℕ → List Entry) → ℕ → Type 0
NameBelow images unused = (s : ℕ) (t : Tombstone) → IsAmong (entry.Tombstone t) (images s) → t.segment < unused

pub record IsCore (d : MasterData) : Type 0 where
  pub config : config_fault d.config ≡ None
  pub replicas : d.head.replicas ≡ d.config.replicas
  pub history : AreFewKept (length d.history) d.forgotten d.config.history
  pub head : IsHeadValue d.head
  pub image : IsImageOf d.config.master d.head (head_of d.head)
  pub within : length (text_of d.head.image) ≤ d.config.segment
  -- the closed segments are the others of the head's digest, with the survivors of the open pass at their places
  pub closed : map (λ (c : Image). c.id) d.closed ≡ all_inserted (survivors_of d.pass) (head_of d.head).start.others
  pub segments : AllByRecursion (λ (c : Image). IsSegment c.segment) d.closed
  pub below : AreBelow (head_of d.head).start
  pub real : 0 < d.head.id
  pub used : d.head.id < d.next
  -- as long as no head is in force, the head is a first one
  pub first : is_headless d ≡ true → IsFirst d.head
  pub next : d.next ≤ 2 ^ 62 + 1
  pub roll : IfSome d.head.roll (IsRollOf d)
  pub pass : IfSome d.pass (IsOpenPass d)
  pub named : NameBelow (images_of d) d.next
  -- no segment has more replicas than it should
  pub replicas_few : AllByRecursion (λ (c : Image). c.replicas ≤ d.config.replicas) d.closed
  pub waiting : AllByRecursion (λ (w : Waiting). (w.freed < w.replicas) × (w.replicas ≤ d.config.replicas)) d.waiting
  -- the digest in force and the newest digest have no more ids than a digest may list
  pub digest : length (digest_of d.head.image) ≤ most_segments d.config
  pub listed : length (newest_digest d.head) ≤ most_segments d.config
  pub failed : AreFailed d
  pub whole : d.failover ≡ None → AreWhole d
  pub failover : IfSome d.failover (IsFailover d)
  pub abandoned : d.failover ≡ None → d.abandoned ≡ []
  -- no more seglets are counted than the configuration has
  pub budget : used_seglets d ≤ d.config.seglets
  pub legal : IsLegal (opening_of d) d.history
  pub index : IsIndex d

-- what is counted of segments is right
abbrev pub AreTallied : MasterData → List Tally → Type 0
AreTallied d rows = AreRight (log_set_ids d) d.index (images_of d) rows
