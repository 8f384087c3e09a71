-- How a master changes when a command is applied, a roll or a failover goes on, or a backup fails, and which ops it
-- asks for.
use Rattle.std.specs.Prelude.{◌≡◌, ℕ, suc, ◌<◌, ◌≤◌, ◌⊎◌, ◌==◌, List, [], ◌∷◌, ◌++◌, length, true, false, Some, None}
use Rattle.std.specs.Prelude.{if◌then◌else◌}
use Rattle.entry.specs.declared.entry.Entry.{Entry}
use Rattle.entry.specs.Bag.{IsAmong}
use Rattle.entry.specs.Meaning.{among}
use Rattle.entry.specs.Tablet.{have_key}
use Rattle.versioned_map.specs.declared.command.Record.{Record}
use Rattle.versioned_map.specs.Command.{command_key}
use Rattle.versioned_map.specs.Represents.{Represents, unit_of}
use Rattle.versioned_map.specs.Versioned.{State}
use Rattle.log_laws.specs.Heads.{Start, entries_of, ids_of, digest_for, len_next, lens_next}
use Rattle.log_laws.specs.Ids.{has}
use Rattle.log_laws.specs.Rising.{AreBelow}
use Rattle.log_laws.specs.HeadSteps.{no_lens, with_unit, units_between}
use Rattle.log_laws.specs.Text.{Text, Replica, length_of}
use Rattle.log_laws.specs.Shown.{Shown, Open, Extend, Close, Seal, Free, Op, On, Raise}
use Rattle.log_laws.specs.Data.{front, front_entries, bare, FailConfig, Mode, Calm, Rolls, Mends, Opens, Closes}
use Rattle.log_laws.specs.Data.{Repairs, FailData, HasTaken, IsHome, homes, new_of, is_failing, IsNew, state_of}
use Rattle.log_laws.specs.Data.{durable_of}
use Rattle.log_laws.specs.Log.{Texts, AreOfTablets, AreLens, IsBase, HoldsCopy, IsOther, IsLogHeld}

-- ---- words

-- the texts with one of them changed
abbrev pub with_text : Texts → ℕ → Text → Texts
with_text texts id t = record texts { text = λ s. if s == id then t else texts.text s }

-- the texts with one more image of a segment
abbrev pub with_image : Texts → ℕ → List Entry → Texts
with_image texts id es =
    record texts { images = λ s. if s == id then es ∷ texts.images s else texts.images s }

-- the texts with this text of a segment, and with no images of the segment
abbrev pub with_new : Texts → ℕ → Text → Texts
with_new texts id t = record {
  text = λ s. if s == id then t else texts.text s;
  images = λ s. if s == id then [] else texts.images s;
}

-- who took which segment, once this backup too took the Open or Seal of segment `id`
abbrev pub with_taken : (ℕ → List ℕ) → ℕ → ℕ → ℕ → List ℕ
with_taken took id b s = if s == id then b ∷ took s else took s

abbrev pub with_count : (ℕ → ℕ) → ℕ → ℕ → ℕ → ℕ
with_count counts b n c = if c == b then n else counts c

-- ---- a new master

-- the start of a master that has no head yet, in this format: id 0 means no head
abbrev pub no_head : ℕ → Start
no_head format = record { id = 0; others = []; lens = no_lens format; safe = 1 }

-- the first head of a master in this format, which records this safe version
abbrev pub restored_start : ℕ → ℕ → Start
restored_start format safe = record { id = 1; others = []; lens = no_lens format; safe = safe }

-- A master without a history, whose first head is being opened. What the master loads before its history begins has
-- versions below `safe`.
abbrev pub restored : FailConfig → ℕ → FailData
restored c safe = record {
  config = c;
  opening = record { contents = λ k. None; safe = safe };
  history = [];
  head = record { start = no_head c.format; loaded = []; units = [] };
  counts = λ b. 0;
  shut = [];
  mode = Rolls (restored_start c.format safe);
  abandoned = [];
  took = λ s. [];
  failed = [];
  frozen = 0;
  next = 2;
}

-- a master that loads nothing
abbrev pub fresh : FailConfig → FailData
fresh c = restored c 1

-- A new master may begin: the backups hold nothing of it, and the registry has no least head for it.
pub record MayBegin (c : FailConfig) (p : Shown) : Type 0 where
  pub some : 0 < c.replicas
  pub nothing : (b s : ℕ) → p.holds b s ≡ None
  pub least : p.least ≡ 0

-- ---- a command

-- the unit that the record appends; the object of its key, if any, lies in this segment
abbrev pub unit_now : FailData → ℕ → Record → List Entry
unit_now d segment r = unit_of (state_of d) segment r.command

-- the master with this history, and with the unit at the head's end if there is one
abbrev pub with_appended : FailData → List Record → List Entry → FailData
with_appended d history unit = record d {
  history = history;
  head = record d.head { units = with_unit d.head.units (length d.history) unit };
}

-- the master once the record is applied, and its unit appended
abbrev pub applied : FailData → ℕ → Record → FailData
applied d segment r = with_appended d (d.history ++ r ∷ []) (unit_now d segment r)

-- The unit may be appended: its keys lie in the master's tablets. The unit is empty if a roll is under way or a
-- failover is open.
pub record MayAppend (d : FailData) (unit : List Entry) : Type 0 where
  pub keys : AreOfTablets d.config unit
  pub calm : (unit ≡ []) ⊎ (d.mode ≡ Calm)

-- The record may be applied: its key lies in the master's tablets. The command appends nothing if a roll is under way
-- or a failover is open.
pub record MayApply (d : FailData) (segment : ℕ) (r : Record) : Type 0 where
  pub key : have_key d.config.tablets (command_key r.command) ≡ true
  pub calm : (unit_now d segment r ≡ []) ⊎ (d.mode ≡ Calm)

-- the texts once the unit is at the end of the head's text
abbrev pub texts_appended : FailData → Texts → List Entry → Texts
texts_appended d texts unit =
    let units = with_unit d.head.units (length d.history) unit in
    with_text texts d.head.start.id (front (record d.head { units = units }) (length units))

-- ---- adoption

-- All that was loaded is on the backups, and represents this state.
pub record IsLoaded (d : FailData) (p : Shown) (st : State) : Type 0 where
  pub texts : Texts
  pub held : IsLogHeld d texts p
  pub calm : d.mode ≡ Calm
  pub some : 0 < d.head.start.id
  pub whole : (b : ℕ) → HasTaken d d.head.start.id b → d.counts b ≡ length d.head.units
  pub stands : (base : List Entry) → IsBase texts d.head.start.others base
      → Represents d.head.start.safe (base ++ front_entries d.head (length d.head.units)) st

-- the master once its history begins with this state: what the head has so far counts as loaded
abbrev pub adopted : FailData → State → FailData
adopted d st = record d {
  opening = st;
  history = [];
  head = record { start = d.head.start; loaded = front_entries d.head (length d.head.units); units = [] };
  counts = λ b. 0;
}

-- ---- a roll begins

-- the master once a roll, or a failover, has begun to open this head
abbrev pub rolling : FailData → Start → Mode → FailData
rolling d n mode = record d { mode = mode; next = suc d.next; took = λ s. if s == n.id then [] else d.took s }

-- the texts once the new head's text is its opening
abbrev pub texts_rolling : Texts → Start → Texts
texts_rolling texts n = with_new texts n.id (bare n)

-- A roll to this head may begin, whichever segments its digest leaves out or takes in. The homes of each segment that
-- the digest lists, the old head apart, hold the segment whole. The lengths of the digest are those of the segments'
-- texts.
pub record IsRoll (d : FailData) (texts : Texts) (p : Shown) (n : Start) (mode : Mode) : Type 0 where
  pub may : ((d.mode ≡ Calm) × (mode ≡ Rolls n)) ⊎ ((d.mode ≡ Mends) × (mode ≡ Opens n))
  pub next : n.id ≡ d.next
  pub below : AreBelow n
  pub lens : AreLens d.config texts n
  pub held : (s b : ℕ) → IsAmong s n.others → (s ≡ d.head.start.id → ⊥) → IsHome d s b → HoldsCopy texts p b s

-- the ids that the next digest lists: those in force, the old head among them; none, if there was no head
abbrev pub ids_now : Start → List ℕ
ids_now start = if start.id == 0 then [] else ids_of start

-- the length that the next digest lists for a segment of the digest in force
abbrev pub len_now : FailData → ℕ → ℕ
len_now d s =
    len_next (digest_for d.head.start) d.head.start.id (length_of (front d.head (length d.head.units))) s

-- the next head of an ordinary roll
abbrev pub next_start : FailData → Start
next_start d = record {
  id = d.next;
  others = ids_now d.head.start;
  lens = lens_next (digest_for d.head.start) (len_now d) (ids_now d.head.start);
  safe = (state_of d).safe;
}

-- An ordinary roll may begin, or a failover that commits no pass may begin to open its new head. There is an old head,
-- or nothing was appended yet.
pub record MayTurn (d : FailData) (mode : Mode) : Type 0 where
  pub may : ((d.mode ≡ Calm) × (mode ≡ Rolls (next_start d))) ⊎ ((d.mode ≡ Mends) × (mode ≡ Opens (next_start d)))
  pub some : d.head.start.id ≡ 0 → (d.head.start.others ≡ []) × (front_entries d.head (length d.head.units) ≡ [])

-- ---- an id is taken without a roll

-- the master once a segment that is no head has the next id
abbrev pub id_taken : FailData → FailData
id_taken d = record d { next = suc d.next; took = λ s. if s == d.next then [] else d.took s }

-- the text of a survivor
abbrev pub survivor_text : List Entry → Text
survivor_text entries = record { opening = None; entries = entries }

-- the text of a survivor to which nothing was copied
abbrev pub empty_survivor : Text
empty_survivor = survivor_text []

-- the texts once the segment with the next id has that text
abbrev pub texts_taken : FailData → Texts → Texts
texts_taken d texts = with_new texts d.next empty_survivor

-- ---- a roll ends

-- the master once the new head is in force
abbrev pub ended : FailData → Start → Mode → FailData
ended d n mode = record d {
  head = record { start = n; loaded = []; units = [] };
  counts = λ b. 0;
  shut = [];
  mode = mode;
  abandoned = [];
}

-- A roll may end: the new head was opened on all its backups, and the old head is closed on its homes. In a failover
-- the registry was raised too.
pub record EndsRoll (d : FailData) (n : Start) (mode : Mode) : Type 0 where
  pub may : ((d.mode ≡ Rolls n) × (mode ≡ Calm)) ⊎ ((d.mode ≡ Closes n) × (mode ≡ Repairs))
  pub opened : d.config.replicas ≤ length (d.took n.id)
  pub shut : (b : ℕ) → IsHome d d.head.start.id b → has d.shut b ≡ true

-- ---- a backup fails

-- the new head of the roll under way, as a list; empty if no roll is under way or a failover is open
abbrev pub new_heads : Mode → List Start
new_heads Calm = []
new_heads (Rolls n) = n ∷ []
new_heads Mends = []
new_heads (Opens n) = []
new_heads (Closes n) = []
new_heads Repairs = []

-- A backup's failure opens a failover: the format is 2, and no failover is open yet.
pub record MayFail (d : FailData) : Type 0 where
  pub two : d.config.format ≡ 2
  pub works : is_failing d.mode ≡ false

-- the master once this backup has failed, and a failover is open
abbrev pub failing : FailData → ℕ → FailData
failing d b = record d {
  failed = b ∷ d.failed;
  mode = Mends;
  abandoned = new_heads d.mode;
  frozen = durable_of d;
}

-- each other segment that the head lists has as many homes as a segment has replicas, so no replica of it is lost
abbrev pub NoneIsLost : FailData → Type 0
NoneIsLost d = (s : ℕ) → IsAmong s d.head.start.others → d.config.replicas ≤ length (homes d s)

-- the master once the failover has ended
abbrev pub mended : FailData → FailData
mended d = record d { mode = Calm; frozen = 0 }

-- The master knows what the backups that haven't failed hold: they hold no segment that they didn't take. Backups that
-- failed hold nothing of heads that were opened later.
pub record IsKnown (d : FailData) (p : Shown) : Type 0 where
  pub absent : (b s : ℕ) → has d.failed b ≡ false → has (d.took s) b ≡ false → p.holds b s ≡ None
  pub new : (b : ℕ) (n : Start) → has d.failed b ≡ true → new_of d.mode ≡ Some n → p.holds b n.id ≡ None
  pub head : (b : ℕ) → has d.failed b ≡ true → d.mode ≡ Repairs → p.holds b d.head.start.id ≡ None
  -- each home of the head holds just the units that it took, and holds the head open unless the master closed it
  pub exact : (b : ℕ) (r : Replica) → IsHome d d.head.start.id b → p.holds b d.head.start.id ≡ Some r
      → (r.text ≡ front d.head (d.counts b)) × (has d.shut b ≡ false → r.is_open ≡ true)

-- ---- ops

-- A home of the head takes the next units that it lacks, one or more.
pub record Extends (d : FailData) (o : Op) (e : FailData) : Type 0 where
  pub b : ℕ
  pub to : ℕ
  pub home : IsHome d d.head.start.id b
  pub unshut : has d.shut b ≡ false
  pub lags : d.counts b < to
  pub within : to ≤ length d.head.units
  pub op : o ≡ On b d.head.start.id
      (Extend (length_of (front d.head (d.counts b))) (entries_of (units_between d.head.units (d.counts b) to)))
  pub gives : e ≡ record d { counts = with_count d.counts b to }

-- The new head of a roll or of a failover is opened on a backup that hasn't failed; the head in force is whole on its
-- homes.
pub record OpensNew (d : FailData) (o : Op) (e : FailData) : Type 0 where
  pub b : ℕ
  pub n : Start
  pub mode : (d.mode ≡ Rolls n) ⊎ (d.mode ≡ Opens n)
  pub works : has d.failed b ≡ false
  pub apart : has (d.took n.id) b ≡ false
  pub few : length (d.took n.id) < d.config.replicas
  pub whole : (c : ℕ) → IsHome d d.head.start.id c → d.counts c ≡ length d.head.units
  -- each lost replica of the head in force was replaced
  pub enough : (d.head.start.id ≡ 0) ⊎ (d.config.replicas ≤ length (homes d d.head.start.id))
  pub op : o ≡ On b n.id (Open (bare n))
  pub gives : e ≡ record d { took = with_taken d.took n.id b }

-- The head in force is opened whole on a backup that hasn't failed and didn't take it before. This replica replaces a
-- lost one.
pub record Replaces (d : FailData) (o : Op) (e : FailData) : Type 0 where
  pub b : ℕ
  pub mode : d.mode ≡ Mends
  pub works : has d.failed b ≡ false
  pub apart : has (d.took d.head.start.id) b ≡ false
  pub unshut : has d.shut b ≡ false
  pub few : length (homes d d.head.start.id) < d.config.replicas
  pub op : o ≡ On b d.head.start.id (Open (front d.head (length d.head.units)))
  pub gives : e ≡ record d {
    took = with_taken d.took d.head.start.id b;
    counts = with_count d.counts b (length d.head.units);
  }

-- The registry is raised to a failover's new head, once the new head is open on all its backups.
pub record Raises (d : FailData) (o : Op) (e : FailData) : Type 0 where
  pub n : Start
  pub mode : d.mode ≡ Opens n
  pub opened : d.config.replicas ≤ length (d.took n.id)
  pub op : o ≡ Raise n.id
  pub gives : e ≡ record d { mode = Closes n }

-- The old head is closed on one of its homes, once the new one is open on all its backups.
pub record ClosesOld (d : FailData) (o : Op) (e : FailData) : Type 0 where
  pub b : ℕ
  pub n : Start
  pub mode : (d.mode ≡ Rolls n) ⊎ (d.mode ≡ Closes n)
  pub opened : d.config.replicas ≤ length (d.took n.id)
  pub home : IsHome d d.head.start.id b
  pub unshut : has d.shut b ≡ false
  pub op : o ≡ On b d.head.start.id Close
  pub gives : e ≡ record d { shut = b ∷ d.shut }

-- A lost replica of another segment is sealed anew on a backup that hasn't failed. It gets an image of the segment,
-- which has no entry that the text lacks.
pub record Reseals (d : FailData) (texts : Texts) (o : Op) (e : FailData) : Type 0 where
  pub b : ℕ
  pub s : ℕ
  pub image : List Entry
  pub mode : d.mode ≡ Repairs
  pub listed : IsAmong s d.head.start.others
  pub works : has d.failed b ≡ false
  pub apart : has (d.took s) b ≡ false
  pub few : length (homes d s) < d.config.replicas
  pub within : (e : Entry) → among image e → among (texts.text s).entries e
  pub op : o ≡ On b s (Seal (record (texts.text s) { entries = image }))
  pub gives : e ≡ record d { took = with_taken d.took s b }

-- the texts once the sealed image is one of the segment's images
abbrev pub texts_resealed : {d e : FailData} {o : Op} (texts : Texts) → Reseals d texts o e → Texts
texts_resealed texts is = with_image texts is.s is.image

-- A replica of another segment is lost, and this backup may take one in its place.
pub record MayRepair (d : FailData) (s b : ℕ) : Type 0 where
  pub mode : d.mode ≡ Repairs
  pub listed : IsAmong s d.head.start.others
  pub works : has d.failed b ≡ false
  pub apart : has (d.took s) b ≡ false
  pub few : length (homes d s) < d.config.replicas

-- No digest names the segment, and it is no head.
pub record IsFree (d : FailData) (s : ℕ) : Type 0 where
  pub head : s ≡ d.head.start.id → ⊥
  pub new : (n : Start) → IsNew d n → s ≡ n.id → ⊥
  pub others : IsOther d s → ⊥

-- A survivor is sealed on a backup that hasn't failed. Each replica that other backups hold of it has the same text.
pub record Seals (d : FailData) (texts : Texts) (p : Shown) (o : Op) (e : FailData) : Type 0 where
  pub b : ℕ
  pub s : ℕ
  pub entries : List Entry
  pub calm : is_failing d.mode ≡ false
  pub free : IsFree d s
  pub next : s < d.next
  pub works : has d.failed b ≡ false
  pub apart : has (d.took s) b ≡ false
  pub keys : AreOfTablets d.config entries
  pub bare : (texts.text s).opening ≡ None
  pub one : (c : ℕ) (r : Replica) → p.holds c s ≡ Some r → r.text.entries ≡ entries
  pub shut : (c : ℕ) (r : Replica) → p.holds c s ≡ Some r → r.is_open ≡ false
  pub op : o ≡ On b s (Seal (survivor_text entries))
  pub gives : e ≡ record d { took = with_taken d.took s b }

-- the texts once the survivor's text is what is sealed
abbrev pub texts_sealed : {d e : FailData} {p : Shown} {o : Op} (texts : Texts) → Seals d texts p o e → Texts
texts_sealed texts is = with_new texts is.s (survivor_text is.entries)

-- A replica of a segment that no digest names is freed.
pub record Frees (d : FailData) (o : Op) (e : FailData) : Type 0 where
  pub b : ℕ
  pub s : ℕ
  pub calm : is_failing d.mode ≡ false
  pub free : IsFree d s
  pub op : o ≡ On b s Free
  pub gives : e ≡ d
