-- What a plan is, and why there may be none.
use Rattle.std.specs.Prelude.{◌≡◌, ℕ, ◌<◌, List, [], ◌∷◌, ◌++◌, map, Option, Some, None}
use Rattle.std.specs.List.{AllByRecursion}
use Rattle.entry.specs.Bag.{IsAmong}
use Rattle.entry.specs.Text.{Opening, entries_in, opening_in, listed_ids, listed_len}
use Rattle.replica.specs.declared.holding.Holding.{Holding}
use Rattle.replica.specs.Choice.{Choice, IsUsableHead, IsChoice}
use Rattle.recovery_plan.specs.declared.chosen.Plan.{Plan}
use Rattle.recovery_plan.specs.declared.fault.PlanFault.{PlanFault}
use Rattle.recovery_plan.specs.declared.fault.PlanFault.TheVariants.{NoHead, HeadClosed, Missing, BadReplica, NoMemory}
use Rattle.recovery_plan.specs.declared.fault.PlanFault.TheVariants.{HeadTooOld}
use Rattle.recovery_plan.specs.Good.{IsGood, AreGood, IsHeadOf, IsOpenHead, IsReplicaOf, IsNewest, IsNewestOf}
use Rattle.recovery_plan.specs.Preferred.{IsPreferred, IsBest}

-- ---- a plan

-- a choice of the master's newest log from these replicas; `least` is the least head that may be used
abbrev pub IsChoiceOf : List Holding → ℕ → ℕ → Choice → Type 0
IsChoiceOf hs least master c = IsChoice (λ (h : Holding). IsAmong h hs) least master c

-- The plan has the segments of a choice, in the digest's order, and no other. Each is read from its preferred replica.
pub record IsPlanOf (hs : List Holding) (least master : ℕ) (c : Choice) (p : Plan) : Type 0 where
  pub choice : IsChoiceOf hs least master c
  pub good : AreGood master hs
  pub head : IsPreferred (IsOpenHead master c.head.segment) hs c.head
  pub others : AllByRecursion (λ (h : Holding). IsPreferred (IsReplicaOf master c.opening h.segment) hs h) c.others
  pub segments : p.segments ≡ map (λ (h : Holding). entries_in h.bytes) (c.others ++ c.head ∷ [])
  pub safe : p.safe ≡ c.opening.safe

-- a plan of the inventory
abbrev pub IsPlan : List Holding → ℕ → ℕ → Plan → Type 0
IsPlan inventory least master plan = (c : Choice) × IsPlanOf inventory least master c plan

-- ---- a fault

-- the first bad replica of the master is of this segment, on this backup
pub record IsFirstBad (hs : List Holding) (master backup id : ℕ) : Type 0 where
  pub before : List Holding
  pub bad : Holding
  pub after : List Holding
  pub place : hs ≡ before ++ bad ∷ after
  pub of_master : bad.master ≡ master
  pub on_backup : bad.backup ≡ backup
  pub of_segment : bad.segment ≡ id
  pub is_bad : IsGood bad → ⊥
  pub good_before : AreGood master before

-- all replicas of the master are good, and none has a digest
pub record HasNoHead (hs : List Holding) (master : ℕ) : Type 0 where
  pub good : AreGood master hs
  pub no_head : (h : Holding) → IsAmong h hs → IsHeadOf master h → ⊥

-- all replicas of the master are good, and the newest head is older than the least that may be used
pub record IsTooOld (hs : List Holding) (least master id : ℕ) : Type 0 where
  pub good : AreGood master hs
  pub newest : IsNewest master hs id
  pub too_old : id < least

-- all replicas of the master are good, and the newest head may be used, but none of its replicas is open
pub record IsHeadClosed (hs : List Holding) (least master id : ℕ) : Type 0 where
  pub good : AreGood master hs
  pub newest : IsNewest master hs id
  pub usable : IsUsableHead least id
  pub closed : (h : Holding) → IsAmong h hs → IsOpenHead master id h → ⊥

-- all replicas of the master are good, and this one of the newest head is taken
pub record IsHeadTaken (hs : List Holding) (master : ℕ) (head : Holding) : Type 0 where
  pub good : AreGood master hs
  pub newest : IsNewest master hs head.segment
  pub preferred : IsPreferred (IsOpenHead master head.segment) hs head

-- an open replica of the newest head, which is the one with this id
abbrev pub IsOpenNewest : ℕ → Option ℕ → Holding → Type 0
IsOpenNewest master None h = ⊥
IsOpenNewest master (Some id) h = IsOpenHead master id h

-- the id of the newest head, and which of its open replicas is taken; None if there is no such head or replica
pub record AreNewest (master : ℕ) (hs : List Holding) (id : Option ℕ) (taken : Option Holding) : Type 0 where
  pub newest : IsNewestOf master hs id
  pub best : IsBest (IsOpenNewest master id) hs taken

-- why no replica of a head is taken
abbrev pub IsHeadFault : List Holding → ℕ → ℕ → PlanFault → Type 0
IsHeadFault hs least master (BadReplica backup id) = IsFirstBad hs master backup id
IsHeadFault hs least master NoHead = HasNoHead hs master
IsHeadFault hs least master (HeadTooOld id) = IsTooOld hs least master id
IsHeadFault hs least master (HeadClosed id) = IsHeadClosed hs least master id
IsHeadFault hs least master _ = ⊥

-- no replica may be used for this id of the digest
abbrev pub IsLost : List Holding → ℕ → Opening → ℕ → Type 0
IsLost hs master opening id = (h : Holding) → IsAmong h hs → IsReplicaOf master opening id h → ⊥

-- some replica may be used for this id of the digest
abbrev pub IsHere : List Holding → ℕ → Opening → ℕ → Type 0
IsHere hs master opening id = (h : Holding) × IsAmong h hs × IsReplicaOf master opening id h

-- the digest of the head that is taken lists this other segment, which is lost, and it lists no lower one that is lost
pub record IsMissing (hs : List Holding) (least master id : ℕ) : Type 0 where
  pub head : Holding
  pub taken : IsHeadTaken hs master head
  pub usable : IsUsableHead least head.segment
  pub opening : Opening
  pub opened : opening_in head.bytes ≡ Some opening
  pub listed : IsAmong id (listed_ids opening.digest)
  pub other : id ≡ head.segment → ⊥
  pub lost : IsLost hs master opening id
  pub lowest : (n : ℕ) → IsAmong n (listed_ids opening.digest) → n < id → IsHere hs master opening n

-- the head that is taken lists no other segment that is lost
pub record HasAllListed (hs : List Holding) (least master : ℕ) : Type 0 where
  pub head : Holding
  pub taken : IsHeadTaken hs master head
  pub usable : IsUsableHead least head.segment
  pub opening : Opening
  pub opened : opening_in head.bytes ≡ Some opening
  pub here : (n : ℕ) → IsAmong n (listed_ids opening.digest) → (n ≡ head.segment → ⊥) → IsHere hs master opening n

-- what is true of the replicas for each fault, in the order of the tests; NoMemory comes only if no test fails
abbrev pub IsPlanFault : List Holding → ℕ → ℕ → PlanFault → Type 0
IsPlanFault hs least master (BadReplica backup id) = IsFirstBad hs master backup id
IsPlanFault hs least master NoHead = HasNoHead hs master
IsPlanFault hs least master (HeadTooOld id) = IsTooOld hs least master id
IsPlanFault hs least master (HeadClosed id) = IsHeadClosed hs least master id
IsPlanFault hs least master (Missing id) = IsMissing hs least master id
IsPlanFault hs least master NoMemory = HasAllListed hs least master

-- a fault that may come once it is known which head is taken
abbrev pub IsLaterFault : List Holding → ℕ → ℕ → PlanFault → Type 0
IsLaterFault hs least master (Missing id) = IsMissing hs least master id
IsLaterFault hs least master NoMemory = HasAllListed hs least master
IsLaterFault hs least master _ = ⊥

-- a fault that may come before it is known, if memory ran out, whether a segment is lost
abbrev pub IsFoundFault : List Holding → ℕ → ℕ → PlanFault → Type 0
IsFoundFault hs least master (Missing id) = IsMissing hs least master id
IsFoundFault hs least master NoMemory = Unit {0}
IsFoundFault hs least master _ = ⊥

-- ---- what a fault means

-- the open replicas of the newest head have the same digest
abbrev pub AgreeOnDigest : List Holding → ℕ → Type 0
AgreeOnDigest hs master = (id : ℕ) (g h : Holding) (o q : Opening) → IsNewest master hs id
    → IsAmong g hs → IsAmong h hs → IsOpenHead master id g → IsOpenHead master id h
    → opening_in g.bytes ≡ Some o → opening_in h.bytes ≡ Some q → o.digest ≡ q.digest

-- The digest of the newest head that is left lists the segment, and no replica of it that is left may be used.
pub record IsLostSegment (hs : List Holding) (least master id : ℕ) : Type 0 where
  pub missing : IsMissing hs least master id
  -- no choice has a digest that lists it so: with the same length, or with none as that does
  pub unlisted : (c : Choice) → IsChoiceOf hs least master c → IsAmong id (listed_ids c.opening.digest)
      → listed_len id c.opening.digest ≡ listed_len id missing.opening.digest → ⊥
  -- and if the digests of the open heads agree there is no choice
  pub none : AgreeOnDigest hs master → (c : Choice) → IsChoiceOf hs least master c → ⊥

-- If the master's replicas are good, a loss is named only if there is no choice.
abbrev pub NamesLoss : List Holding → ℕ → ℕ → PlanFault → Type 0
NamesLoss hs least master NoHead = (c : Choice) → IsChoiceOf hs least master c → ⊥
NamesLoss hs least master (HeadTooOld id) = (c : Choice) → IsChoiceOf hs least master c → ⊥
NamesLoss hs least master (HeadClosed id) = (c : Choice) → IsChoiceOf hs least master c → ⊥
NamesLoss hs least master (Missing id) = IsLostSegment hs least master id
NamesLoss hs least master (BadReplica backup id) = Unit {0}
NamesLoss hs least master NoMemory = Unit {0}
