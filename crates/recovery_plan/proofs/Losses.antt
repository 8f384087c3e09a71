-- What the faults mean for choices.
use Rattle.std.proofs.Common.{◌≡◌, ℕ, ◌≤◌, inl, inr, List, [], ◌∷◌, map, refl, sym, ap, subst, ◌∙◌, arith, ⊎_elim}
use Rattle.std.specs.Prelude.{◌⊎◌, false, IsSome, Option, Result, Ok, Err, IfErr, IfSome, length}
use Rattle.std.specs.List.{AllByRecursion}
use Rattle.entry.specs.declared.digest.Digest.{Digest}
use Rattle.entry.specs.Bag.{IsAmong}
use Rattle.entry.specs.Text.{Opening, listed_ids, listed_len}
use Rattle.replica.specs.declared.holding.Holding.{Holding}
use Rattle.replica.specs.Choice.{Choice, IsUsableOf, IsUsableReplica}
use Rattle.recovery_plan.specs.declared.chosen.Plan.{Plan}
use Rattle.recovery_plan.specs.declared.fault.PlanFault.{PlanFault}
use Rattle.recovery_plan.specs.declared.fault.PlanFault.TheVariants.{NoHead, HeadClosed, Missing, BadReplica, NoMemory}
use Rattle.recovery_plan.specs.declared.fault.PlanFault.TheVariants.{HeadTooOld}
use Rattle.recovery_plan.specs.Good.{IsHeadOf, IsOpenHead, IsNewest}
use Rattle.recovery_plan.specs.Planned.{IsChoiceOf, IsMissing, IsLost}
use Rattle.recovery_plan.specs.Planned.{IsLaterFault, IsHeadFault, IsPlanFault, NamesLoss}
use Rattle.recovery_plan.proofs.Bests.{among-append}
use Rattle.recovery_plan.proofs.Plans.{preferred-among}

-- the head of a choice has a digest
chosen-head : (hs : List Holding) (least m : ℕ) (c : Choice) → IsChoiceOf hs least m c → IsHeadOf m c.head
chosen-head hs least m c choice = (choice.of_master, subst IsSome (sym choice.opening) refl)

-- it is the newest
chosen-newest : (hs : List Holding) (least m : ℕ) (c : Choice) (id : ℕ) → IsChoiceOf hs least m c → IsNewest m hs id
    → c.head.segment ≡ id
chosen-newest hs least m c id choice newest =
    let most : c.head.segment ≤ id = newest.greatest c.head choice.held (chosen-head hs least m c choice) in
    let is : newest.head.segment ≡ id = newest.segment in
    let usable : least ≤ c.head.segment = choice.usable in
    let also : least ≤ newest.head.segment = omega arith in
    let head = newest.is_head in
    let back : newest.head.segment ≤ c.head.segment =
    choice.newest newest.head newest.among (head.0, head.1, also) in
    omega arith

-- an open replica of it
chosen-open : (hs : List Holding) (least m : ℕ) (c : Choice) (id : ℕ) → IsChoiceOf hs least m c → IsNewest m hs id
    → IsOpenHead m id c.head
chosen-open hs least m c id choice newest =
    (chosen-head hs least m c choice, chosen-newest hs least m c id choice newest, choice.is_open)

-- a segment of which nothing is left isn't among the others
not-other : (hs others : List Holding) (m : ℕ) (o : Opening) (id : ℕ)
    → AllByRecursion (λ (h : Holding). IsAmong h hs × IsUsableOf m o h) others → IsLost hs m o id →
    IsAmong id (map (λ (h : Holding). h.segment) others) → ⊥
not-other hs [] m o id all lost among = among
not-other hs (h ∷ others) m o id all lost (inl e) = lost h all.0.0 (all.0.1, e)
not-other hs (h ∷ others) m o id all lost (inr among) = not-other hs others m o id all.1 lost among

-- no choice lists a lost segment, but that of its head
not-listed : (hs : List Holding) (least m id : ℕ) (c : Choice) → IsLost hs m c.opening id → IsChoiceOf hs least m c
    → (id ≡ c.head.segment → ⊥) → IsAmong id (listed_ids c.opening.digest) → ⊥
not-listed hs least m id c lost choice other among =
    ⊎_elim (not-other hs c.others m c.opening id choice.others lost)
    (λ r. ⊎_elim (λ e. other (sym e)) (λ n. n) r)
    (among-append id (map (λ (h : Holding). h.segment) c.others) (c.head.segment ∷ [])
    (subst (IsAmong id) (sym choice.ids) among))

-- a segment that is lost under one digest is so under another that lists it with the same length
lost-also : (hs : List Holding) (m id : ℕ) (o q : Opening) → listed_len id q.digest ≡ listed_len id o.digest
    → IsLost hs m o id → IsLost hs m q id
lost-also hs m id o q same lost h among is =
    let len : listed_len h.segment q.digest ≡ listed_len h.segment o.digest =
    subst (λ (s : ℕ). listed_len s q.digest ≡ listed_len s o.digest) (sym is.1) same in
    let may : IsUsableReplica o h =
    subst (λ (n : Option ℕ). (h.is_open ≡ false) ⊎ IfSome n (λ l. l ≤ length h.bytes)) len is.0.1 in
    lost h among ((is.0.0, may), is.1)

-- the choice's head is that which is taken
chosen-other : (hs : List Holding) (least m id : ℕ) (missing : IsMissing hs least m id) (c : Choice)
    → IsChoiceOf hs least m c → id ≡ c.head.segment → ⊥
chosen-other hs least m id missing c choice same =
    missing.other (same ∙ chosen-newest hs least m c missing.head.segment choice missing.taken.newest)

missing-means : (hs : List Holding) (least m id : ℕ) → IsMissing hs least m id → NamesLoss hs least m (Missing id)
missing-means hs least m id missing = record {
  missing = missing;
  unlisted = λ c choice among same.
      not-listed hs least m id c (lost-also hs m id missing.opening c.opening same missing.lost) choice
      (chosen-other hs least m id missing c choice) among;
  none = λ agree c choice.
      let newest = missing.taken.newest in
      let preferred = missing.taken.preferred in
      let same : missing.opening.digest ≡ c.opening.digest =
      agree missing.head.segment missing.head c.head missing.opening c.opening newest
      (preferred-among (IsOpenHead m missing.head.segment) hs missing.head preferred) choice.held
      preferred.candidate (chosen-open hs least m c missing.head.segment choice newest) missing.opened choice.opening in
      not-listed hs least m id c
      (lost-also hs m id missing.opening c.opening (ap (listed_len id) (sym same)) missing.lost) choice
      (chosen-other hs least m id missing c choice)
      (subst (λ (d : Digest). IsAmong id (listed_ids d)) same missing.listed);
}

later-means : (hs : List Holding) (least m : ℕ) (fault : PlanFault) → IsLaterFault hs least m fault
    → NamesLoss hs least m fault
later-means hs least m (Missing id) f = missing-means hs least m id f
later-means hs least m NoMemory f = tt
later-means hs least m NoHead f = absurd f
later-means hs least m (HeadTooOld id) f = absurd f
later-means hs least m (HeadClosed id) f = absurd f
later-means hs least m (BadReplica b id) f = absurd f

pub losses : (hs : List Holding) (least m : ℕ) (r : Result Plan PlanFault)
    → IfErr r (λ fault. IsLaterFault hs least m fault) → IfErr r (λ fault. NamesLoss hs least m fault)
losses hs least m (Ok p) f = tt
losses hs least m (Err fault) f = later-means hs least m fault f

later-fault : (hs : List Holding) (least m : ℕ) (fault : PlanFault) → IsLaterFault hs least m fault
    → IsPlanFault hs least m fault
later-fault hs least m (Missing id) f = f
later-fault hs least m NoMemory f = f
later-fault hs least m NoHead f = absurd f
later-fault hs least m (HeadTooOld id) f = absurd f
later-fault hs least m (HeadClosed id) f = absurd f
later-fault hs least m (BadReplica b id) f = absurd f

pub later-faults : (hs : List Holding) (least m : ℕ) (r : Result Plan PlanFault)
    → IfErr r (λ fault. IsLaterFault hs least m fault) → IfErr r (λ fault. IsPlanFault hs least m fault)
later-faults hs least m (Ok p) f = tt
later-faults hs least m (Err fault) f = later-fault hs least m fault f

-- no choice takes a head that is lost
pub head-means : (hs : List Holding) (least m : ℕ) (fault : PlanFault) → IsHeadFault hs least m fault
    → NamesLoss hs least m fault
head-means hs least m NoHead f = λ c choice. f.no_head c.head choice.held (chosen-head hs least m c choice)
head-means hs least m (HeadTooOld id) f = λ c choice.
    let same = chosen-newest hs least m c id choice f.newest in
    let usable : least ≤ c.head.segment = choice.usable in
    let old = f.too_old in
    omega arith
head-means hs least m (HeadClosed id) f = λ c choice.
    f.closed c.head choice.held (chosen-open hs least m c id choice f.newest)
head-means hs least m (BadReplica b id) f = tt
head-means hs least m NoMemory f = absurd f
head-means hs least m (Missing id) f = absurd f
