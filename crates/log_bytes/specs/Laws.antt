-- What is true of a log in the model is true of the bytes that spell it.
use Rattle.std.specs.Prelude.{◌≡◌, ◌↔◌, ℕ, length, Bool, Option, Some}
use Rattle.replica.specs.declared.op.TakeFault.TheVariants as take_fault
use Rattle.entry.specs.Text.{Opening}
use Rattle.replica.specs.Choice.{Choice, IsShownChoice, IsUsableReplica, bag_of}
use Rattle.replica.specs.Picture.{Replica, Shown, FleetState, shown_of, survivors}
use Rattle.replica.specs.Survival.{BothSurvive}
use Rattle.log_laws.specs.ReplicaBytes.{IsTextOfSegment}
use Rattle.log_laws.specs.Text.{Text, length_of, IsUsable}
use Rattle.log_laws.specs.Shown.{Shown as ModelShown, Op, taken}
use Rattle.log_laws.specs.Shown.{survivors as model_survivors}
use Rattle.log_laws.specs.Choice.{Choice as ModelChoice, Holding as ModelHolding, IsChoice}
use Rattle.log_laws.specs.Choice.{BothSurvive as ModelBothSurvive, bag_of as model_bag}
use Rattle.log_laws.specs.Data.{FailData, IsHome}
use Rattle.log_laws.specs.Log.{Texts, IsLogHeld}
use Rattle.log_laws.specs.Runs.{IsFaulted}
use Rattle.log_laws.specs.Sound.{IsSound, IsOpenedHead as ModelOpenedHead}
use Rattle.log_bytes.specs.Text.{bytes_for}
use Rattle.log_bytes.specs.Spelled.{AreSegments, IsSpelled, read_shown}
use Rattle.log_bytes.specs.Ops.{IsOnFleet, TakesOp, RefusesOp}
use Rattle.log_bytes.specs.Choice.{holding_for, choice_for, IsOpenedHead, IsNewestOpenedOrNone, newest_opened}
use Rattle.log_bytes.specs.Sound.{IsSoundInBytes}

-- ---- texts

-- A text has as many bytes as the model counts, so an Extend goes on where the model says.
abbrev pub LengthIsSame : Type 0
LengthIsSame = (master segment : ℕ) (t : Text) → length (bytes_for master segment t) ≡ length_of t

-- Replicas whose bytes are segments' texts, with headers that name them, spell what is read of them.
abbrev pub TextsAreSpelled : Type 0
TextsAreSpelled = (master : ℕ) (shown : Shown)
    → ((b s : ℕ) (r : Replica) → shown.holds b master s ≡ Some r → IsTextOfSegment r.bytes master s)
    → IsSpelled master shown (read_shown master shown)

-- Replicas that spell what the model shows are segments' texts, and a reader gets what the model shows.
abbrev pub SpelledIsRead : Type 0
SpelledIsRead = (master : ℕ) (shown : Shown) (p : ModelShown) → IsSpelled master shown p
    → (read_shown master shown ≡ p)
    × ((b s : ℕ) (r : Replica) → shown.holds b master s ≡ Some r → IsTextOfSegment r.bytes master s)

-- ---- ops

-- No fleet answers Wrong to an op that fits in the model.
abbrev pub OpIsNeverWrong : Type 0
OpIsNeverWrong = (master : ℕ) (f g : FleetState) (p q : ModelShown) (o : Op) → IsSpelled master (shown_of f master) p
    → taken p o ≡ Some q → IsOnFleet f o → RefusesOp master f o take_fault.Wrong g → ⊥

-- An op that the fleet takes fits in the model, and the fleet then spells what the model shows.
abbrev pub TakenIsSpelled : Type 0
TakenIsSpelled = (master : ℕ) (f g : FleetState) (p : ModelShown) (o : Op) → IsSpelled master (shown_of f master) p
    → TakesOp master f o g
    → (q : ModelShown) × (taken p o ≡ Some q) × (AreSegments master q → IsSpelled master (shown_of g master) q)

-- After a fault the fleet spells what the model showed before the op, or what it shows once the op is taken.
abbrev pub FaultIsSpelled : Type 0
FaultIsSpelled = (master : ℕ) (f g : FleetState) (p : ModelShown) (o : Op) → IsSpelled master (shown_of f master) p
    → RefusesOp master f o take_fault.Fault g
    → (q : ModelShown) × IsFaulted p o q × (AreSegments master q → IsSpelled master (shown_of g master) q)

-- ---- choices

-- A recovery may use a replica of the model exactly if it may use the replica in bytes.
abbrev pub UsableIsSame : Type 0
UsableIsSame = (master : ℕ) (opening : Opening) (h : ModelHolding)
    → IsUsable opening.digest h.segment h.replica ↔ IsUsableReplica opening (holding_for master h)

-- Each choice of the newest log from any survivors spells a choice of the model, with the same bag.
abbrev pub ChoiceIsSpelled : Type 0
ChoiceIsSpelled = (master : ℕ) (shown : Shown) (p : ModelShown) (keep : ℕ → Bool) (c : Choice)
    → IsSpelled master shown p → IsShownChoice (survivors keep shown) master c
    → (m : ModelChoice) × IsChoice (model_survivors keep p) m × (c ≡ choice_for master m) × (bag_of c ≡ model_bag m)

-- Each choice of the model is spelled by a choice of the newest log in bytes.
abbrev pub SpelledIsChoice : Type 0
SpelledIsChoice = (master : ℕ) (shown : Shown) (p : ModelShown) (keep : ℕ → Bool) (m : ModelChoice)
    → IsSpelled master shown p → IsChoice (model_survivors keep p) m
    → IsShownChoice (survivors keep shown) master (choice_for master m)

-- ---- soundness

-- If head and segments both survive in bytes, they do so in the model.
abbrev pub SurvivesInModel : Type 0
SurvivesInModel = (master : ℕ) (d : FailData) (shown : Shown) (p : ModelShown) (keep : ℕ → Bool) (newest : Option ℕ)
    → IsSpelled master shown p → IsNewestOpenedOrNone (IsOpenedHead d master shown) shown.least newest
    → BothSurvive (IsHome d) newest shown master keep → ModelBothSurvive (IsHome d) (ModelOpenedHead d p) p keep

-- The head that `newest_opened` gives is the newest opened head that a recovery may use. If it gives none, there is no
-- such head.
abbrev pub NewestIsOpened : Type 0
NewestIsOpened = (master : ℕ) (d : FailData) (texts : Texts) (shown : Shown) (p : ModelShown)
    → IsSpelled master shown p → IsLogHeld d texts p
    → IsNewestOpenedOrNone (IsOpenedHead d master shown) shown.least (newest_opened d)

-- A picture that spells a sound picture of the model is sound.
abbrev pub SpelledIsSound : Type 0
SpelledIsSound = (master : ℕ) (d : FailData) (shown : Shown) (p : ModelShown) → IsSpelled master shown p → IsSound d p
    → IsSoundInBytes master d shown
