-- What the backups hold of a master's log, and which states it represents, also while a failover is open.
use Rattle.std.specs.Prelude.{◌≡◌, ℕ, ◌<◌, ◌≤◌, ◌⊎◌, List, [], ◌∷◌, ◌++◌, ◌==◌, length, map, true, false, Option, Some}
use Rattle.std.specs.Prelude.{None, IsSome, if◌then◌else◌}
use Rattle.entry.specs.declared.key.Key.{Key}
use Rattle.entry.specs.declared.entry.Entry.{Entry}
use Rattle.entry.specs.Bag.{IsAmong}
use Rattle.entry.specs.Meaning.{IsOfKey, among}
use Rattle.entry.specs.Tablet.{have_key}
use Rattle.versioned_map.specs.Represents.{Represents}
use Rattle.versioned_map.specs.Versioned.{State}
use Rattle.log_laws.specs.Heads.{Start, LogUnit}
use Rattle.log_laws.specs.Ids.{has}
use Rattle.log_laws.specs.Rising.{AreBelow, Rise}
use Rattle.log_laws.specs.Text.{Text, Replica, length_of}
use Rattle.log_laws.specs.Shown.{Shown}
use Rattle.log_laws.specs.Data.{front, front_entries, bare, bare_replica, FailConfig, Closes, Repairs, FailData}
use Rattle.log_laws.specs.Data.{HasTaken, IsHome, new_of, failover_head_of, is_failing, is_settled, IsNew}
use Rattle.log_laws.specs.Data.{state_after, state_of, before, taken_records}

-- ---- texts

-- What a whole replica of each segment may have: the segment's text as it was replicated, or one of the images that
-- failovers sealed. Compaction may have made such an image shorter than the text.
pub record Texts : Type 0 where
  pub text : ℕ → Text
  pub images : ℕ → List (List Entry)

-- the entries are those of the segment's text, or of one of its sealed images
abbrev pub IsVariant : Texts → ℕ → List Entry → Type 0
IsVariant texts s es = (es ≡ (texts.text s).entries) ⊎ IsAmong es (texts.images s)

-- the entries are those of one variant of each of these segments, in order
abbrev pub IsBase : Texts → List ℕ → List Entry → Type 0
IsBase texts [] base = base ≡ []
IsBase texts (s ∷ ids) base = (es : List Entry) × (rest : List Entry) × IsVariant texts s es × IsBase texts ids rest
    × (base ≡ es ++ rest)

-- every key of the entries lies in the master's tablets
abbrev pub AreOfTablets : FailConfig → List Entry → Type 0
AreOfTablets c es = (e : Entry) (k : Key) → among es e → IsOfKey k e → have_key c.tablets k ≡ true

-- ---- heads

-- the lengths in bytes of these segments' texts
abbrev pub text_lens : Texts → List ℕ → List ℕ
text_lens texts ids = map (λ (s : ℕ). length_of (texts.text s)) ids

-- the lengths that a digest lists: under format 2 those of its segments' texts, under format 1 none
abbrev pub lens_in : ℕ → Texts → List ℕ → Option (List ℕ)
lens_in format texts ids = if format == 2 then Some (text_lens texts ids) else None

-- the digest of a head lists the lengths of its other segments' texts, if the log has format 2
abbrev pub AreLens : FailConfig → Texts → Start → Type 0
AreLens c texts n = n.lens ≡ lens_in c.format texts n.others

-- The digest of a head whose id is used. Its other ids are below the head's own, and under format 2 it lists the
-- lengths of their texts.
pub record IsStart (c : FailConfig) (unused : ℕ) (texts : Texts) (n : Start) : Type 0 where
  pub below : AreBelow n
  pub lens : AreLens c texts n
  pub next : n.id < unused

-- What is true of the texts of a log, above all of those of its heads.
pub record IsLogged (d : FailData) (texts : Texts) : Type 0 where
  -- the text of the head in force has all units, no unit is empty, and no image of the head was sealed
  pub head : IsStart d.config d.next texts d.head.start
  pub text : texts.text d.head.start.id ≡ front d.head (length d.head.units)
  pub counted : (b : ℕ) → d.counts b ≤ length d.head.units
  pub some : (u : LogUnit) → IsAmong u d.head.units → u.entries ≡ [] → ⊥
  pub one : texts.images d.head.start.id ≡ []
  -- a new head has an id above that of the head in force, its text is its opening, and no image of it was sealed
  pub new : (n : Start) → IsNew d n → IsStart d.config d.next texts n
  pub newer : (n : Start) → IsNew d n → d.head.start.id < n.id
  pub new_text : (n : Start) → IsNew d n → texts.text n.id ≡ bare n
  pub new_one : (n : Start) → IsNew d n → texts.images n.id ≡ []
  -- all keys lie in the master's tablets
  pub keys : (s : ℕ) (es : List Entry) → IsVariant texts s es → AreOfTablets d.config es
  -- an image has no entry that the text lacks
  pub images : (s : ℕ) (es : List Entry) (e : Entry) → IsAmong es (texts.images s) → among es e
      → among (texts.text s).entries e
  -- a failover's new head has an id above those of the abandoned heads, which are forgotten once it is in force
  pub above : (n m : Start) → failover_head_of d.mode ≡ Some n → IsAmong m d.abandoned → m.id < n.id
  pub settled : is_settled d.mode ≡ true → d.abandoned ≡ []
  -- while a failover seals lost replicas anew, the head in force has no units yet
  pub repairs : d.mode ≡ Repairs → (d.head.loaded ≡ []) × (d.head.units ≡ [])
  -- only a log of format 2 has failovers
  pub two : is_failing d.mode ≡ true → d.config.format ≡ 2

-- ---- replicas

-- A whole replica has the segment's text, or it is closed and has one of the segment's sealed images.
abbrev pub IsCopy : Texts → ℕ → Replica → Type 0
IsCopy texts s r = IsVariant texts s r.text.entries × ((r.is_open ≡ false) ⊎ (r.text ≡ texts.text s))

-- A stale replica is open and has only a beginning of the segment's text. A digest that lists the length of the text
-- lets no recovery use it. Format 1 has no stale replicas.
pub record IsCut (c : FailConfig) (texts : Texts) (s : ℕ) (r : Replica) : Type 0 where
  pub two : c.format ≡ 2
  pub is_open : r.is_open ≡ true
  pub shorter : length_of r.text < length_of (texts.text s)
  pub rest : List Entry
  pub begins : (texts.text s).entries ≡ r.text.entries ++ rest

-- some new head was opened on as many backups as a segment has replicas
pub record NewIsOpened (d : FailData) : Type 0 where
  pub n : Start
  pub is_new : IsNew d n
  pub opened : d.config.replicas ≤ length (d.took n.id)

-- A replica of the head in force has the first `k` units. It has at least the units that its backup took, as far as
-- the master knows, or it is a replacement that a failover opened whole. It is closed only if it has all units and a
-- new head was opened on all its backups.
pub record IsHeadReplica (d : FailData) (b : ℕ) (r : Replica) : Type 0 where
  pub k : ℕ
  pub within : k ≤ length d.head.units
  pub text : r.text ≡ front d.head k
  pub reach : (HasTaken d d.head.start.id b × (d.counts b ≤ k))
      ⊎ ((k ≡ length d.head.units) × (is_failing d.mode ≡ true))
  pub shut : r.is_open ≡ false → (k ≡ length d.head.units) × NewIsOpened d

-- A replica of another segment is whole or stale. If it bears a digest, it is of an older head. It is then closed, or
-- the registry's least head is above that head.
pub record IsOlder (d : FailData) (texts : Texts) (least s : ℕ) (r : Replica) : Type 0 where
  pub next : s < d.next
  pub opening : r.text.opening ≡ (texts.text s).opening
  pub whole : IsCopy texts s r ⊎ IsCut d.config texts s r
  pub bears : IsSome (texts.text s).opening → (s < d.head.start.id) × ((r.is_open ≡ false) ⊎ (s < least))

-- Each replica of the master is of the head in force, of a new head and has the opening alone, or of another segment.
abbrev pub IsReplica : FailData → Texts → ℕ → ℕ → ℕ → Replica → Type 0
IsReplica d texts least b s r =
    ((s ≡ d.head.start.id) × IsHeadReplica d b r)
    ⊎ (((n : Start) × IsNew d n × (s ≡ n.id) × (r ≡ bare_replica n))
    ⊎ IsOlder d texts least s r)

-- the digest in force or that of a new head lists the segment, and the segment isn't the head in force
abbrev pub IsOther : FailData → ℕ → Type 0
IsOther d s = IsAmong s d.head.start.others
    ⊎ ((n : Start) × IsNew d n × IsAmong s n.others × (s ≡ d.head.start.id → ⊥))

-- the backup holds a whole replica of the segment
abbrev pub HoldsCopy : Texts → Shown → ℕ → ℕ → Type 0
HoldsCopy texts p b s = (r : Replica) × (p.holds b s ≡ Some r) × IsCopy texts s r

-- The registry's least head is at most the head in force, or at most a failover's new head that was opened on all its
-- backups.
abbrev pub IsLeast : FailData → ℕ → Type 0
IsLeast d least = (least ≤ d.head.start.id)
    ⊎ ((n : Start) × (failover_head_of d.mode ≡ Some n) × (least ≤ n.id) × (d.config.replicas ≤ length (d.took n.id)))

-- What the backups and the registry have agrees with the log that the master keeps.
pub record IsMirrored (d : FailData) (texts : Texts) (p : Shown) : Type 0 where
  pub bounded : (b s : ℕ) (r : Replica) → p.holds b s ≡ Some r → b < d.config.backups
  pub each : (b s : ℕ) (r : Replica) → p.holds b s ≡ Some r → IsReplica d texts p.least b s r
  -- a backup that took the Open of the head or of a new head holds it; if there is a head, as many backups took its
  -- Open as a segment has replicas
  pub head : (b : ℕ) → HasTaken d d.head.start.id b → IsSome (p.holds b d.head.start.id)
  pub opened : (d.head.start.id ≡ 0) ⊎ (d.config.replicas ≤ length (d.took d.head.start.id))
  pub new : (n : Start) (b : ℕ) → IsNew d n → HasTaken d n.id b → p.holds b n.id ≡ Some (bare_replica n)
  -- each home of another segment of a digest holds it whole
  pub others : (s b : ℕ) → IsOther d s → IsHome d s b → HoldsCopy texts p b s
  -- once some backup holds a new head, each home of the head in force has all its units
  pub whole : (n : Start) (b c : ℕ) → IsNew d n → IsSome (p.holds b n.id) → IsHome d d.head.start.id c
      → d.counts c ≡ length d.head.units
  -- the registry is raised to a failover's new head before the old one is closed
  pub least : IsLeast d p.least
  pub raised : (n : Start) → d.mode ≡ Closes n → n.id ≤ p.least
  -- a backup on which the master closed the head holds it closed
  pub shut : (b : ℕ) (r : Replica) → has d.shut b ≡ true → p.holds b d.head.start.id ≡ Some r → r.is_open ≡ false
  -- if a head was opened after the last failure, none of its backups has failed
  pub homes : is_settled d.mode ≡ true → (b : ℕ) → HasTaken d d.head.start.id b → has d.failed b ≡ false
  pub new_homes : (n : Start) (b : ℕ) → new_of d.mode ≡ Some n → HasTaken d n.id b → has d.failed b ≡ false

-- ---- what the log represents

-- the base of a head represents this state, whichever variant is taken of each other segment of its digest
abbrev pub BasesStand : Texts → Start → State → Type 0
BasesStand texts n st = (base : List Entry) → IsBase texts n.others base → Represents n.safe base st

-- The texts represent the history, whichever variant is taken of each other segment. For each `k`, the base with the
-- head's first `k` units represents the state after all records that come before the record of the next unit. The base
-- of each new head represents the present state.
pub record IsStanding (d : FailData) (texts : Texts) : Type 0 where
  pub numbers : Rise 0 d.head.units (length d.history)
  pub fronts : (k : ℕ) (base : List Entry) → k ≤ length d.head.units → IsBase texts d.head.start.others base
      → Represents d.head.start.safe (base ++ front_entries d.head k) (state_after d (before d k))
  pub new : (n : Start) → IsNew d n → BasesStand texts n (state_of d)
  -- every backup of the head took the units of all records that were durable as the failover began
  pub frozen : is_failing d.mode ≡ true → d.frozen ≤ taken_records d

-- ---- what holds of every master and the backups

-- The backups hold the log's texts. This says nothing of a history, so it is true of a loading master too.
pub record IsLogHeld (d : FailData) (texts : Texts) (p : Shown) : Type 0 where
  pub some : 0 < d.config.replicas
  pub logged : IsLogged d texts
  pub mirrored : IsMirrored d texts p

-- The log is kept: the backups hold its texts, and these represent the history.
pub record IsKept (d : FailData) (p : Shown) : Type 0 where
  pub texts : Texts
  pub held : IsLogHeld d texts p
  pub standing : IsStanding d texts
