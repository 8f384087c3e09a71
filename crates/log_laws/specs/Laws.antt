-- What stays true through every event.
use Rattle.std.specs.Prelude.{◌≡◌, ℕ, ◌<◌, List, Some, IsSome, slice_get}
use Rattle.entry.specs.declared.entry.Entry.{Entry}
use Rattle.entry.specs.Meaning.{among}
use Rattle.versioned_map.specs.declared.command.Record.{Record}
use Rattle.versioned_map.specs.Versioned.{State}
use Rattle.log_laws.specs.Heads.{Start, LogUnit}
use Rattle.log_laws.specs.Shown.{Shown, Op, taken}
use Rattle.log_laws.specs.Text.{Replica}
use Rattle.log_laws.specs.Data.{front, FailConfig, Mode, Repairs, FailData, HasTaken, IsHome, state_of}
use Rattle.log_laws.specs.Data.{durable_of}
use Rattle.log_laws.specs.Log.{Texts, HoldsCopy, IsOther, BasesStand, IsLogHeld, IsStanding, IsKept}
use Rattle.log_laws.specs.Sound.{IsSound}
use Rattle.log_laws.specs.Steps.{fresh, MayBegin, with_appended, MayAppend, texts_appended}
use Rattle.log_laws.specs.Steps.{unit_now, applied, MayApply, IsLoaded, adopted, rolling, texts_rolling, IsRoll}
use Rattle.log_laws.specs.Steps.{next_start, MayTurn, id_taken, texts_taken, ended, EndsRoll, failing, MayFail}
use Rattle.log_laws.specs.Steps.{mended, IsKnown, Extends, OpensNew, Replaces, Raises, ClosesOld, Reseals}
use Rattle.log_laws.specs.Steps.{texts_resealed, Seals, texts_sealed, Frees}

-- ---- what is kept

-- What the backups show of a kept log is sound, at every point of a roll and of a failover.
abbrev pub KeptIsSound : Type 0
KeptIsSound = (d : FailData) (p : Shown) → IsKept d p → IsSound d p

-- Each entry of a replica is in its segment's text, while the master is loading too.
abbrev pub ReplicasAreTexts : Type 0
ReplicasAreTexts = (d : FailData) (texts : Texts) (p : Shown) (b s : ℕ) (r : Replica) (e : Entry)
    → IsLogHeld d texts p → p.holds b s ≡ Some r → among r.text.entries e → among (texts.text s).entries e

-- Each home of a segment of the log, the head in force apart, holds the segment whole.
abbrev pub HomesHoldCopies : Type 0
HomesHoldCopies = (d : FailData) (texts : Texts) (p : Shown) (s b : ℕ) → IsLogHeld d texts p → IsOther d s
    → IsHome d s b → HoldsCopy texts p b s

-- Each backup that took the head's Open holds each durable unit of it.
abbrev pub KeptIsReplicated : Type 0
KeptIsReplicated = (d : FailData) (p : Shown) (place b : ℕ) (u : LogUnit) → IsKept d p
    → slice_get d.head.units place ≡ Some u → u.number < durable_of d → HasTaken d d.head.start.id b
    → (r : Replica) × (p.holds b d.head.start.id ≡ Some r)
    × ((e : Entry) → among u.entries e → among r.text.entries e)

-- ---- a new master

-- The log of a new master that loads nothing is kept, and the master knows what is held.
abbrev pub FreshIsKept : Type 0
FreshIsKept = (c : FailConfig) (p : Shown) → MayBegin c p → IsKept (fresh c) p × IsKnown (fresh c) p

-- ---- ops

-- The backups hold the texts once an op is taken, whether or not the master learns it. The master is `e` after a take
-- that answered Ok, and is still `d` after a take that ended in a fault.
abbrev pub BothHeld : FailData → FailData → Texts → Shown → Type 0
BothHeld d e texts q = IsLogHeld d texts q × IsLogHeld e texts q

abbrev pub ExtendsHeld : Type 0
ExtendsHeld = (d e : FailData) (texts : Texts) (p q : Shown) (o : Op) → IsLogHeld d texts p → Extends d o e
    → taken p o ≡ Some q → BothHeld d e texts q

abbrev pub ExtendsStanding : Type 0
ExtendsStanding = (d e : FailData) (texts : Texts) (p q : Shown) (o : Op) → IsLogHeld d texts p → IsStanding d texts
    → Extends d o e → taken p o ≡ Some q → IsStanding e texts

-- An Extend hands over whole units of the log: its replica ends with the units that its backup took, and then with
-- these.
abbrev pub ExtendHandsOver : Type 0
ExtendHandsOver = (d e : FailData) (texts : Texts) (p q : Shown) (o : Op) → IsLogHeld d texts p → (is : Extends d o e)
    → taken p o ≡ Some q → (r s : Replica) → p.holds is.b d.head.start.id ≡ Some r
    → q.holds is.b d.head.start.id ≡ Some s
    → (r.text ≡ front d.head (d.counts is.b)) × (s.text ≡ front d.head is.to)

-- An op that puts a replica has to name a backup of the configuration, here and below.
abbrev pub ReplacesHeld : Type 0
ReplacesHeld = (d e : FailData) (texts : Texts) (p q : Shown) (o : Op) → IsLogHeld d texts p → (is : Replaces d o e)
    → is.b < d.config.backups → taken p o ≡ Some q → BothHeld d e texts q

abbrev pub ReplacesStanding : Type 0
ReplacesStanding = (d e : FailData) (texts : Texts) (p q : Shown) (o : Op) → IsLogHeld d texts p → IsStanding d texts
    → (is : Replaces d o e) → is.b < d.config.backups → taken p o ≡ Some q → IsStanding e texts

abbrev pub ClosesHeld : Type 0
ClosesHeld = (d e : FailData) (texts : Texts) (p q : Shown) (o : Op) → IsLogHeld d texts p → ClosesOld d o e
    → taken p o ≡ Some q → BothHeld d e texts q

abbrev pub ClosesStanding : Type 0
ClosesStanding = (d e : FailData) (texts : Texts) (p q : Shown) (o : Op) → IsLogHeld d texts p → IsStanding d texts
    → ClosesOld d o e → taken p o ≡ Some q → IsStanding e texts

abbrev pub OpensHeld : Type 0
OpensHeld = (d e : FailData) (texts : Texts) (p q : Shown) (o : Op) → IsLogHeld d texts p → (is : OpensNew d o e)
    → is.b < d.config.backups → taken p o ≡ Some q → BothHeld d e texts q

abbrev pub OpensStanding : Type 0
OpensStanding = (d e : FailData) (texts : Texts) (p q : Shown) (o : Op) → IsLogHeld d texts p → IsStanding d texts
    → (is : OpensNew d o e) → is.b < d.config.backups → taken p o ≡ Some q → IsStanding e texts

abbrev pub RaisesHeld : Type 0
RaisesHeld = (d e : FailData) (texts : Texts) (p q : Shown) (o : Op) → IsLogHeld d texts p → Raises d o e
    → taken p o ≡ Some q → BothHeld d e texts q

abbrev pub RaisesStanding : Type 0
RaisesStanding = (d e : FailData) (texts : Texts) (p q : Shown) (o : Op) → IsLogHeld d texts p → IsStanding d texts
    → Raises d o e → taken p o ≡ Some q → IsStanding e texts

abbrev pub ResealsHeld : Type 0
ResealsHeld = (d e : FailData) (texts : Texts) (p q : Shown) (o : Op) → IsLogHeld d texts p
    → (is : Reseals d texts o e) → is.b < d.config.backups → taken p o ≡ Some q
    → BothHeld d e (texts_resealed texts is) q

-- The texts represent the history once a replica is sealed anew, if the base of the head in force represents the
-- present state whichever variants are taken, the new image among them.
abbrev pub ResealsStanding : Type 0
ResealsStanding = (d e : FailData) (texts : Texts) (p q : Shown) (o : Op) → IsLogHeld d texts p → IsStanding d texts
    → (is : Reseals d texts o e) → BasesStand (texts_resealed texts is) d.head.start (state_of d)
    → is.b < d.config.backups → taken p o ≡ Some q
    → IsStanding d (texts_resealed texts is) × IsStanding e (texts_resealed texts is)

-- ---- rolls

-- The backups hold the log's texts once a roll, or a failover, has begun to open a new head.
abbrev pub RollingIsHeld : Type 0
RollingIsHeld = (d : FailData) (texts : Texts) (p : Shown) (n : Start) (mode : Mode) → IsLogHeld d texts p
    → IsRoll d texts p n mode → IsLogHeld (rolling d n mode) (texts_rolling texts n) p

-- The texts represent the history once a new head is being opened, if its base represents the present state whichever
-- variants are taken.
abbrev pub RollingIsStanding : Type 0
RollingIsStanding = (d : FailData) (texts : Texts) (p : Shown) (n : Start) (mode : Mode) → IsLogHeld d texts p
    → IsStanding d texts → IsRoll d texts p n mode → BasesStand texts n (state_of d)
    → IsStanding (rolling d n mode) (texts_rolling texts n)

-- The backups hold the log's texts once a new head is in force, at the end of a roll or in a failover.
abbrev pub EndingIsHeld : Type 0
EndingIsHeld = (d : FailData) (texts : Texts) (p : Shown) (n : Start) (mode : Mode) → IsLogHeld d texts p
    → IsKnown d p → EndsRoll d n mode → IsLogHeld (ended d n mode) texts p

abbrev pub EndingIsStanding : Type 0
EndingIsStanding = (d : FailData) (texts : Texts) (p : Shown) (n : Start) (mode : Mode) → IsLogHeld d texts p
    → IsStanding d texts → IsKnown d p → EndsRoll d n mode → IsStanding (ended d n mode) texts

-- An ordinary roll, whose digest lists the digest in force with the old head, may begin while nothing is under way,
-- and in a failover.
abbrev pub OrdinaryIsRoll : Type 0
OrdinaryIsRoll = (d : FailData) (texts : Texts) (p : Shown) (mode : Mode) → IsLogHeld d texts p → MayTurn d mode
    → IsRoll d texts p (next_start d) mode

-- The base of an ordinary roll's new head represents the present state.
abbrev pub OrdinaryStands : Type 0
OrdinaryStands = (d : FailData) (p : Shown) (mode : Mode) (kept : IsKept d p) → MayTurn d mode
    → BasesStand kept.texts (next_start d) (state_of d)

-- ---- failovers

-- The backups hold the log's texts once one of them has failed and a failover is open.
abbrev pub FailingIsHeld : Type 0
FailingIsHeld = (d : FailData) (texts : Texts) (p : Shown) (b : ℕ) → IsLogHeld d texts p → MayFail d
    → IsLogHeld (failing d b) texts p

abbrev pub FailingIsStanding : Type 0
FailingIsStanding = (d : FailData) (texts : Texts) (p : Shown) (b : ℕ) → IsLogHeld d texts p → IsStanding d texts
    → MayFail d → IsStanding (failing d b) texts

-- The backups hold the log's texts once a failover has ended.
abbrev pub MendedIsHeld : Type 0
MendedIsHeld = (d : FailData) (texts : Texts) (p : Shown) → IsLogHeld d texts p → IsKnown d p → d.mode ≡ Repairs
    → IsLogHeld (mended d) texts p

abbrev pub MendedIsStanding : Type 0
MendedIsStanding = (d : FailData) (texts : Texts) (p : Shown) → IsLogHeld d texts p → IsStanding d texts
    → IsKnown d p → d.mode ≡ Repairs → IsStanding (mended d) texts

-- ---- commands

-- The backups hold the log's texts once a unit is appended to the head, before it is pushed, and while the master is
-- loading too.
abbrev pub AppendedIsHeld : Type 0
AppendedIsHeld = (d : FailData) (texts : Texts) (p : Shown) (history : List Record) (unit : List Entry)
    → IsLogHeld d texts p → MayAppend d unit
    → IsLogHeld (with_appended d history unit) (texts_appended d texts unit) p

-- The backups hold the same texts whatever state the history begins with.
abbrev pub OpeningIsApart : Type 0
OpeningIsApart = (d : FailData) (texts : Texts) (p : Shown) (st : State) → IsLogHeld d texts p → IsKnown d p
    → IsLogHeld (record d { opening = st }) texts p × IsKnown (record d { opening = st }) p

-- The texts represent the history with one more record once the record's unit is appended to the head.
abbrev pub AppliedIsStanding : Type 0
AppliedIsStanding = (d : FailData) (texts : Texts) (p : Shown) (segment : ℕ) (r : Record) → IsLogHeld d texts p
    → IsStanding d texts → MayApply d segment r
    → IsStanding (applied d segment r) (texts_appended d texts (unit_now d segment r))

-- ---- segments that no digest names

-- The backups hold the log's texts once a segment that is no head has taken an id.
abbrev pub IdTakenIsHeld : Type 0
IdTakenIsHeld = (d : FailData) (texts : Texts) (p : Shown) → IsLogHeld d texts p
    → IsLogHeld (id_taken d) (texts_taken d texts) p

abbrev pub IdTakenIsStanding : Type 0
IdTakenIsStanding = (d : FailData) (texts : Texts) (p : Shown) → IsLogHeld d texts p → IsStanding d texts
    → IsStanding (id_taken d) (texts_taken d texts)

abbrev pub SealsHeld : Type 0
SealsHeld = (d e : FailData) (texts : Texts) (p q : Shown) (o : Op) → IsLogHeld d texts p
    → (is : Seals d texts p o e) → is.b < d.config.backups → taken p o ≡ Some q
    → BothHeld d e (texts_sealed texts is) q

abbrev pub SealsStanding : Type 0
SealsStanding = (d e : FailData) (texts : Texts) (p q : Shown) (o : Op) → IsLogHeld d texts p → IsStanding d texts
    → (is : Seals d texts p o e) → is.b < d.config.backups → taken p o ≡ Some q
    → IsStanding d (texts_sealed texts is) × IsStanding e (texts_sealed texts is)

abbrev pub FreesHeld : Type 0
FreesHeld = (d e : FailData) (texts : Texts) (p q : Shown) (o : Op) → IsLogHeld d texts p → Frees d o e
    → taken p o ≡ Some q → IsLogHeld d texts q

-- ---- what the master knows

-- The op fits what is held, and the master `e` knows what is held once the op is taken.
abbrev pub Fits : FailData → Shown → Op → Type 0
Fits e p o = (q : Shown) × (taken p o ≡ Some q) × IsKnown e q

abbrev pub ExtendsFits : Type 0
ExtendsFits = (d e : FailData) (texts : Texts) (p : Shown) (o : Op) → IsLogHeld d texts p → IsKnown d p
    → Extends d o e → Fits e p o

abbrev pub OpensFits : Type 0
OpensFits = (d e : FailData) (texts : Texts) (p : Shown) (o : Op) → IsLogHeld d texts p → IsKnown d p
    → OpensNew d o e → Fits e p o

abbrev pub ReplacesFits : Type 0
ReplacesFits = (d e : FailData) (p : Shown) (o : Op) → IsKnown d p → Replaces d o e → Fits e p o

abbrev pub RaisesFits : Type 0
RaisesFits = (d e : FailData) (p : Shown) (o : Op) → IsKnown d p → Raises d o e → Fits e p o

abbrev pub ClosesFits : Type 0
ClosesFits = (d e : FailData) (texts : Texts) (p : Shown) (o : Op) → IsLogHeld d texts p → IsKnown d p
    → ClosesOld d o e → Fits e p o

abbrev pub ResealsFits : Type 0
ResealsFits = (d e : FailData) (texts : Texts) (p : Shown) (o : Op) → IsLogHeld d texts p → IsKnown d p
    → Reseals d texts o e → Fits e p o

abbrev pub SealsFits : Type 0
SealsFits = (d e : FailData) (texts : Texts) (p : Shown) (o : Op) → IsKnown d p → Seals d texts p o e → Fits e p o

abbrev pub FreesFits : Type 0
FreesFits = (d e : FailData) (p : Shown) (o : Op) → IsKnown d p → (is : Frees d o e) → IsSome (p.holds is.b is.s)
    → Fits e p o

-- The master knows what the other backups hold once one backup has failed, whatever that one did with its last op.
abbrev pub FailingKnown : Type 0
FailingKnown = (d : FailData) (p q : Shown) (b : ℕ) → IsKnown d p
    → ((c s : ℕ) → (c ≡ b → ⊥) → q.holds c s ≡ p.holds c s) → IsKnown (failing d b) q

-- A master that knows what is held also knows it after commands, rolls, the end of a failover, an id that is taken,
-- and adoption.
abbrev pub AppendedKnown : Type 0
AppendedKnown = (d : FailData) (texts : Texts) (p : Shown) (history : List Record) (unit : List Entry)
    → IsLogHeld d texts p → IsKnown d p → IsKnown (with_appended d history unit) p

abbrev pub RollingKnown : Type 0
RollingKnown = (d : FailData) (texts : Texts) (p : Shown) (n : Start) (mode : Mode) → IsLogHeld d texts p
    → IsKnown d p → IsRoll d texts p n mode → IsKnown (rolling d n mode) p

abbrev pub EndingKnown : Type 0
EndingKnown = (d : FailData) (texts : Texts) (p : Shown) (n : Start) (mode : Mode) → IsLogHeld d texts p
    → IsKnown d p → EndsRoll d n mode → IsKnown (ended d n mode) p

abbrev pub MendedKnown : Type 0
MendedKnown = (d : FailData) (p : Shown) → IsKnown d p → IsKnown (mended d) p

abbrev pub IdTakenKnown : Type 0
IdTakenKnown = (d : FailData) (texts : Texts) (p : Shown) → IsLogHeld d texts p → IsKnown d p
    → IsKnown (id_taken d) p

abbrev pub AdoptedKnown : Type 0
AdoptedKnown = (d : FailData) (p : Shown) (st : State) → IsLoaded d p st → IsKnown d p → IsKnown (adopted d st) p
