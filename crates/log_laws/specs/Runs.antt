-- Lists of events of a log whose backups may fail.
use Rattle.std.specs.Prelude.{◌≡◌, ℕ, ◌<◌, ◌≤◌, ◌⊎◌, List, length, Bool, true, false, Some}
use Rattle.versioned_map.specs.declared.command.Record.{Record}
use Rattle.log_laws.specs.Heads.{Start}
use Rattle.log_laws.specs.Shown.{Shown, Op, On, Raise, taken}
use Rattle.log_laws.specs.Data.{Mode, Repairs, FailConfig, FailData, new_of, is_failing, state_of, durable_of}
use Rattle.log_laws.specs.Log.{Texts, BasesStand, IsKept}
use Rattle.log_laws.specs.Steps.{applied, MayApply, rolling, IsRoll, id_taken, ended, EndsRoll}
use Rattle.log_laws.specs.Steps.{failing, MayFail, texts_resealed, mended, NoneIsLost, Extends, OpensNew, Replaces}
use Rattle.log_laws.specs.Steps.{Raises, ClosesOld, Reseals, Seals, Frees}

-- ---- ops

-- The op seals a lost replica anew. The base of the head in force then represents the present state, whichever
-- variants are taken, the new image among them.
abbrev pub IsRepair : FailData → Texts → Op → FailData → Type 0
IsRepair d texts o e =
    (is : Reseals d texts o e) × BasesStand (texts_resealed texts is) d.head.start (state_of d)

-- the master `d` may ask for the op next, and is `e` once the op is taken
abbrev pub IsNext : FailData → Texts → Shown → Op → FailData → Type 0
IsNext d texts p o e = Extends d o e ⊎ (OpensNew d o e ⊎ (Replaces d o e ⊎ (Raises d o e
    ⊎ (ClosesOld d o e ⊎ (IsRepair d texts o e ⊎ (Seals d texts p o e ⊎ Frees d o e))))))

-- The master `e` has the history and the heads of `d`. Only these may differ: the counts of units, the backups on
-- which the head is closed, who took which segment, and the mode.
pub record GoesOn (d e : FailData) : Type 0 where
  pub counts : ℕ → ℕ
  pub shut : List ℕ
  pub took : ℕ → List ℕ
  pub mode : Mode
  pub new : new_of mode ≡ new_of d.mode
  pub failing : is_failing mode ≡ is_failing d.mode
  pub gives : e ≡ record d { counts = counts; shut = shut; took = took; mode = mode }

-- the op names a backup of the configuration, or the registry
abbrev pub IsThere : FailConfig → Op → Type 0
IsThere c (On b s act) = b < c.backups
IsThere c (Raise id) = Unit {0}

-- the op is on this backup
abbrev pub IsOn : ℕ → Op → Type 0
IsOn b (On c s act) = c ≡ b
IsOn b (Raise id) = ⊥

-- ---- events

-- What a master knows, what its backups and the registry show, and whether the master has halted.
pub record World : Type 0 where
  pub knows : FailData
  pub shown : Shown
  pub halted : Bool

-- What may happen next to a master and its backups.
pub data Event : Type 0 where
  -- a record's command is applied; the object of its key, if any, lies in this segment
  Applies : ℕ → Record → Event
  -- a roll, or a failover, begins to open this head; the mode is the new one
  Turns : Start → Mode → Event
  -- a segment that is no head takes an id
  TakesId : Event
  -- a roll ends, or a failover has closed the old head: this head is in force now
  Ends : Start → Mode → Event
  -- a failover ends, since no replica is lost any more
  Mended : Event
  -- an op is taken
  Takes : Op → Event
  -- an op ends in a fault of this backup, and a failover begins
  Fails : Op → ℕ → Event
  -- an op ends in a fault, and the master halts
  Halts : Op → Event

-- the picture after a fault: as it was, or with the op taken
abbrev pub IsFaulted : Shown → Op → Shown → Type 0
IsFaulted p o q = (q ≡ p) ⊎ (taken p o ≡ Some q)

-- the log is kept, and the master `d` may ask for the op next; it is `e` once the op is taken
abbrev pub MayTake : FailData → Shown → Op → FailData → Type 0
MayTake d p o e = IsThere d.config o × (kept : IsKept d p) × IsNext d kept.texts p o e

-- what the event makes of a master and its backups
abbrev pub Becomes : Event → World → World → Type 0
Becomes (Applies segment r) w v = MayApply w.knows segment r
    × (v ≡ record w { knows = applied w.knows segment r })
Becomes (Turns n mode) w v = ((kept : IsKept w.knows w.shown) × IsRoll w.knows kept.texts w.shown n mode
    × BasesStand kept.texts n (state_of w.knows))
    × (v ≡ record w { knows = rolling w.knows n mode })
Becomes TakesId w v = (is_failing w.knows.mode ≡ false) × (v ≡ record w { knows = id_taken w.knows })
Becomes (Ends n mode) w v = EndsRoll w.knows n mode × (v ≡ record w { knows = ended w.knows n mode })
Becomes Mended w v = (w.knows.mode ≡ Repairs) × NoneIsLost w.knows × (v ≡ record w { knows = mended w.knows })
Becomes (Takes o) w v = MayTake w.knows w.shown o v.knows × (taken w.shown o ≡ Some v.shown) × (v.halted ≡ false)
Becomes (Fails o b) w v = (e : FailData) × MayTake w.knows w.shown o e × IsOn b o × IsFaulted w.shown o v.shown
    × MayFail w.knows × (v.knows ≡ failing w.knows b) × (v.halted ≡ false)
Becomes (Halts o) w v = (e : FailData) × MayTake w.knows w.shown o e × IsFaulted w.shown o v.shown
    × (v.knows ≡ w.knows) × (v.halted ≡ true)

-- ---- laws

-- An op leaves the history and the heads as they are.
abbrev pub NextGoesOn : Type 0
NextGoesOn = (d e : FailData) (texts : Texts) (p : Shown) (o : Op) → IsNext d texts p o e → GoesOn d e

-- No event lowers the durable count.
abbrev pub DurableStays : Type 0
DurableStays = (e : Event) (w v : World) → IsKept w.knows w.shown → Becomes e w v
    → durable_of w.knows ≤ durable_of v.knows

-- The durable count is at most the length of the history.
abbrev pub DurableIsWithin : Type 0
DurableIsWithin = (d : FailData) (p : Shown) → IsKept d p → durable_of d ≤ length d.history
