-- What a fleet keeps of a master's log, and what each answer to an op says of it.
use Rattle.std.specs.Prelude.{◌≡◌, ℕ, Some, IsSome}
use Rattle.replica.specs.declared.op.TakeFault.TheVariants as take_fault
use Rattle.replica.specs.Picture.{FleetState, shown_of}
use Rattle.log_laws.specs.Shown.{Shown as ModelShown, Open, Extend, Close, Seal, Free, Op, On, Raise, taken}
use Rattle.log_laws.specs.Data.{FailConfig, FailData}
use Rattle.log_laws.specs.Log.{Texts, IsLogHeld, IsKept}
use Rattle.log_laws.specs.Runs.{IsNext, IsThere, IsFaulted}
use Rattle.log_laws.specs.Steps.{fresh, MayBegin, IsKnown}
use Rattle.log_bytes.specs.Spelled.{IsSpelled}
use Rattle.log_bytes.specs.Ops.{IsOnFleet, TakesOp, RefusesOp}
use Rattle.log_bytes.specs.Segments.{HeadsAreSegments, SealsSegment, IsHeldOp}
use Rattle.log_bytes.specs.Runs.{read_fleet}
use Rattle.log_bytes.specs.Sound.{IsSoundInBytes}

-- The fleet keeps the log: it spells one that is kept, and the texts of the log's heads are segments.
pub record KeepsLog (master : ℕ) (d : FailData) (f : FleetState) : Type 0 where
  pub spelled : IsSpelled master (shown_of f master) (read_fleet master f)
  pub heads : HeadsAreSegments master d
  pub kept : IsKept d (read_fleet master f)

-- The fleet keeps the log, and the master knows what the backups that haven't failed hold.
pub record HoldsLog (master : ℕ) (d : FailData) (f : FleetState) : Type 0 where
  pub keeps : KeepsLog master d f
  pub known : IsKnown d (read_fleet master f)

-- The master `d` may ask for the op next, and what the op seals is a segment. The master is `e` once the op is taken.
pub record IsLogOp (master : ℕ) (d : FailData) (texts : Texts) (f : FleetState) (o : Op) (e : FailData) : Type 0 where
  pub there : IsThere d.config o
  pub next : IsNext d texts (read_fleet master f) o e
  pub seals : SealsSegment master o

-- the backup holds the replica that the op frees; true of an op that frees nothing
abbrev pub IsFreedThere : ModelShown → Op → Type 0
IsFreedThere p (On b s (Open text)) = Unit {0}
IsFreedThere p (On b s (Extend at more)) = Unit {0}
IsFreedThere p (On b s Close) = Unit {0}
IsFreedThere p (On b s (Seal text)) = Unit {0}
IsFreedThere p (On b s Free) = IsSome (p.holds b s)
IsFreedThere p (Raise id) = Unit {0}

-- ---- laws

-- The picture of a fleet that keeps a log is sound.
abbrev pub KeepingIsSound : Type 0
KeepingIsSound = (master : ℕ) (d : FailData) (f : FleetState) → KeepsLog master d f
    → IsSoundInBytes master d (shown_of f master)

-- A fleet that holds nothing of a new master holds its log.
abbrev pub NewHoldsLog : Type 0
NewHoldsLog = (master : ℕ) (c : FailConfig) (f : FleetState) → MayBegin c (read_fleet master f)
    → HeadsAreSegments master (fresh c) → HoldsLog master (fresh c) f

-- ---- laws, of a master that is still loading too

-- The master `d`, which may be loading, asks for the op, and is `e` once the op is taken. The fleet spells what the
-- model shows, this has the log's texts, and the texts of the heads and what the op seals are segments.
pub record IsAsked (master : ℕ) (d : FailData) (texts : Texts) (f : FleetState) (p : ModelShown) (o : Op)
    (e : FailData) : Type 0 where
  pub spelled : IsSpelled master (shown_of f master) p
  pub held : IsLogHeld d texts p
  pub heads : HeadsAreSegments master d
  pub op : IsHeldOp d texts p o e
  pub seals : SealsSegment master o

-- If the fleet answers Ok, the op fits in the model, and the fleet spells what the model shows once the op is taken.
abbrev pub OkIsSpelled : Type 0
OkIsSpelled = (master : ℕ) (d e : FailData) (texts : Texts) (f g : FleetState) (p : ModelShown) (o : Op)
    → IsAsked master d texts f p o e → TakesOp master f o g
    → (q : ModelShown) × (taken p o ≡ Some q) × IsSpelled master (shown_of g master) q × HeadsAreSegments master e

-- If the op ends in a fault, the fleet spells what the model shows once the op is taken, or what it showed before.
abbrev pub FaultIsEither : Type 0
FaultIsEither = (master : ℕ) (d e : FailData) (texts : Texts) (f g : FleetState) (p : ModelShown) (o : Op)
    → IsAsked master d texts f p o e → RefusesOp master f o take_fault.Fault g
    → (q : ModelShown) × IsFaulted p o q × IsSpelled master (shown_of g master) q

-- The fleet never answers Wrong to the op, if the master knows what is held, and if the replica that the op frees is
-- there.
abbrev pub HeldOpIsNeverWrong : Type 0
HeldOpIsNeverWrong = (master : ℕ) (d e : FailData) (texts : Texts) (f g : FleetState) (p : ModelShown) (o : Op)
    → IsAsked master d texts f p o e → IsKnown d p → IsOnFleet f o → IsFreedThere p o
    → RefusesOp master f o take_fault.Wrong g → ⊥
