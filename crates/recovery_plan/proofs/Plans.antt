-- A plan from what was found.
use Rattle.std.proofs.Common.{◌≡◌, ℕ, ◌+◌, ◌-◌, ◌<◌, inl, List, [], ◌∷◌, ◌++◌, map, take}
use Rattle.std.proofs.Common.{length, get_or, refl, sym, ap, subst, ◌∙◌, arith}
use Rattle.std.specs.Prelude.{Option, Some, None}
use Rattle.std.specs.Borrow.{Bor}
use Rattle.std.specs.Option.{option_copied}
use Rattle.std.specs.List.{AllByRecursion}
use Rattle.std.proofs.lemmas.List.{map-append}
use Rattle.entry.specs.Bag.{IsAmong}
use Rattle.entry.specs.Text.{Opening, opening_in, entries_in, listed_ids}
use Rattle.replica.specs.declared.holding.Holding.{Holding}
use Rattle.replica.specs.Choice.{IsUsableHead, IsUsableOf}
use Rattle.recovery_plan.specs.declared.fault.PlanFault.{PlanFault}
use Rattle.recovery_plan.specs.declared.fault.PlanFault.TheVariants.{NoHead, HeadClosed, Missing, BadReplica, NoMemory}
use Rattle.recovery_plan.specs.declared.fault.PlanFault.TheVariants.{HeadTooOld}
use Rattle.recovery_plan.specs.declared.chosen.Plan.{Plan}
use Rattle.recovery_plan.specs.Good.{IsGood, IsOpenHead, IsOf, IsReplicaOf}
use Rattle.recovery_plan.specs.Preferred.{IsPreferred, IsBest}
use Rattle.recovery_plan.specs.Looked.{lent, ArePreferred, IsFound, AreFound, IsFirstLacking, IsLack}
use Rattle.recovery_plan.specs.Planned.{IsChoiceOf, IsHeadTaken, IsMissing, IsLost, IsPlanOf, IsFoundFault}
use Rattle.recovery_plan.proofs.Bests.{among-right, none-usable, usable-for, usable-as}
use Rattle.recovery_plan.proofs.Digests.{digest-of, ends-last, ends-some, among-place, place-among, earlier}
use Rattle.recovery_plan.proofs.Digests.{below-last}

pub preferred-among : (P : Holding → Type 0) (hs : List Holding) (h : Holding) → IsPreferred P hs h → IsAmong h hs
preferred-among P hs h p = subst (IsAmong h) (sym p.place) (among-right h p.before (h ∷ p.after) (inl refl))

pub taken-good : (hs : List Holding) (m : ℕ) (h : Holding) → IsHeadTaken hs m h → IsGood h
taken-good hs m h t = t.good h (preferred-among (IsOpenHead m h.segment) hs h t.preferred) t.preferred.candidate.0.0

-- ---- the replicas that were found

-- what holds of each of them
pub record IsTaken (hs : List Holding) (m : ℕ) (o : Opening) (h : Holding) : Type 0 where
  pub among : IsAmong h hs
  pub other : IsUsableOf m o h
  pub preferred : IsPreferred (IsReplicaOf m o h.segment) hs h

module _ (hs : List Holding) (m : ℕ) (look : ℕ → Option (Bor Holding)) (best : ArePreferred m hs look)
    (o : Opening) where
  found-one : (id : ℕ) (v : Bor Holding) → IsFound look o.digest id (Some v)
      → (v.now.segment ≡ id) × IsTaken hs m o v.now
  found-one id v is =
      let p : IsPreferred (IsOf m id) hs v.now = subst (IsBest (IsOf m id) hs) (ap option_copied is.0) (best id) in
      let segment : id ≡ v.now.segment = sym p.candidate.1 in (
        sym segment,
        record {
          among = preferred-among (IsOf m id) hs v.now p;
          other = (p.candidate.0, usable-as o v.now id p.candidate.1 is.1);
          preferred = record {
            before = p.before;
            after = p.after;
            place = p.place;
            candidate = ((p.candidate.0, usable-as o v.now id p.candidate.1 is.1), refl);
            earlier = λ g i q. p.earlier g i (q.0.0, q.1 ∙ sym segment);
            later = λ g i q. p.later g i (q.0.0, q.1 ∙ sym segment);
          };
        },
      )

  pub found-ids : (ids : List ℕ) (vs : List (Bor Holding)) → AreFound look o.digest ids vs
      → map (λ (h : Holding). h.segment) (lent vs) ≡ ids
  found-ids [] [] found = refl
  found-ids [] (v ∷ vs) found = absurd found
  found-ids (id ∷ ids) [] found = absurd found
  found-ids (id ∷ ids) (v ∷ vs) found = λ k. (found-one id v found.0).0 k ∷ found-ids ids vs found.1 k

  pub found-taken : (ids : List ℕ) (vs : List (Bor Holding)) → AreFound look o.digest ids vs
      → AllByRecursion (IsTaken hs m o) (lent vs)
  found-taken [] [] found = tt
  found-taken (id ∷ ids) [] found = tt
  found-taken [] (v ∷ vs) found = absurd found
  found-taken (id ∷ ids) (v ∷ vs) found = ((found-one id v found.0).1, found-taken ids vs found.1)

  -- one that isn't found is lost
  lacking-lost : (id : ℕ) (known : Option (Bor Holding)) → look id ≡ known → IsFound look o.digest id None
      → IsLost hs m o id
  lacking-lost id None known none g among is =
      let nothing : IsBest (IsOf m id) hs None = subst (IsBest (IsOf m id) hs) (ap option_copied known) (best id) in
      nothing g among (is.0.0, is.1)
  lacking-lost id (Some v) known none g among is =
      let p : IsPreferred (IsOf m id) hs v.now = subst (IsBest (IsOf m id) hs) (ap option_copied known) (best id) in
      none-usable hs m o id v.now p (λ may. none v known (usable-for o v.now id p.candidate.1 may)) g among is

  -- the first that isn't found is lost, and the lowest that is
  pub lacking-missing : (least : ℕ) (head : Holding) (id : ℕ) → IsHeadTaken hs m head → IsUsableHead least head.segment
      → opening_in head.bytes ≡ Some o → IsFirstLacking look o.digest id → IsMissing hs least m id
  lacking-missing least head id taken usable opened lack =
      let ids = listed_ids o.digest in
      let digest = digest-of head o (taken-good hs m head taken) opened in
      let listed : get_or ids lack.place 0 ≡ id = lack.listed in
      let within = lack.within in
      let place : lack.place < length ids = omega arith in
      record {
        head = head;
        taken = taken;
        usable = usable;
        opening = o;
        opened = opened;
        listed = place-among id ids lack.place place listed;
        other = λ same.
            let lt : get_or ids lack.place 0 < head.segment = below-last head.segment ids lack.place digest within in
            omega arith;
        lost = lacking-lost id (look id) refl lack.lacking;
        lowest = λ n among lt.
            let at = among-place n ids among in
            let is : get_or ids at.0 0 ≡ n = at.2 in
            let before : at.0 < lack.place = earlier ids lack.place at.0 digest.rise place at.1 (omega arith) in
            let there = lack.before at.0 before in
            let f = found-one n there.0 (subst (λ k. IsFound look o.digest k (Some there.0)) is there.1) in
            (there.0.now, f.1.among, (f.1.other, f.0));
      }

  pub lack-later : (least : ℕ) (head : Holding) (fault : PlanFault) → IsHeadTaken hs m head
      → IsUsableHead least head.segment → opening_in head.bytes ≡ Some o → IsLack look o.digest fault
      → IsFoundFault hs least m fault
  lack-later least head (Missing id) taken usable opened lack = lacking-missing least head id taken usable opened lack
  lack-later least head NoMemory taken usable opened lack = tt
  lack-later least head NoHead taken usable opened lack = absurd lack
  lack-later least head (HeadTooOld id) taken usable opened lack = absurd lack
  lack-later least head (HeadClosed id) taken usable opened lack = absurd lack
  lack-later least head (BadReplica b id) taken usable opened lack = absurd lack

-- ---- all that are chosen

pub all-map : (P Q : Holding → Type 0) (f : (h : Holding) → P h → Q h) (hs : List Holding) → AllByRecursion P hs
    → AllByRecursion Q hs
all-map P Q f [] all = tt
all-map P Q f (h ∷ hs) all = (f h all.0, all-map P Q f hs all.1)

all-push : (P : Holding → Type 0) (hs : List Holding) (h : Holding) → AllByRecursion P hs → P h
    → AllByRecursion P (hs ++ h ∷ [])
all-push P [] h all p = (p, tt)
all-push P (g ∷ hs) h all p = (all.0, all-push P hs h all.1 p)

pub lent-push : (vs ws : List (Bor Holding)) (b : Bor Holding) → ws ≡ vs ++ b ∷ [] → lent ws ≡ lent vs ++ b.now ∷ []
lent-push vs ws b e = ap lent e ∙ map-append (λ (x : Bor Holding). x.now) vs (b ∷ [])

pub chosen-good : (hs : List Holding) (m : ℕ) (head : Holding) (o : Opening) (vs ws : List (Bor Holding))
    (b : Bor Holding)
    → IsHeadTaken hs m head → AllByRecursion (IsTaken hs m o) (lent vs) → b.now ≡ head → ws ≡ vs ++ b ∷ []
    → AllByRecursion IsGood (lent ws)
chosen-good hs m head o vs ws b taken all is e =
    subst (AllByRecursion IsGood) (sym (lent-push vs ws b e))
    (all-push IsGood (lent vs) b.now
    (all-map (IsTaken hs m o) IsGood (λ h t. taken.good h t.among t.other.0) (lent vs) all)
    (subst IsGood (sym is) (taken-good hs m head taken)))

-- what was found is a choice
pub found-choice : (hs : List Holding) (least m : ℕ) (head : Holding) (o : Opening) (others : List Holding)
    → IsHeadTaken hs m head → IsUsableHead least head.segment → opening_in head.bytes ≡ Some o
    → AllByRecursion (IsTaken hs m o) others
    → map (λ (h : Holding). h.segment) others ≡ take (length (listed_ids o.digest) - 1) (listed_ids o.digest) →
    IsChoiceOf hs least m (record { opening = o; head = head; others = others })
found-choice hs least m head o others taken usable opened all ids =
    let head_is = taken.preferred.candidate in
    let digest = digest-of head o (taken-good hs m head taken) opened in
    let listed = listed_ids o.digest in
    let some = ends-some head.segment listed digest.ends in
    let count : (length listed - 1) + 1 ≡ length listed = omega arith in
    let last = ends-last head.segment listed (length listed - 1) digest.ends count in
    record {
      held = preferred-among (IsOpenHead m head.segment) hs head taken.preferred;
      of_master = head_is.0.0;
      is_open = head_is.2;
      opening = opened;
      usable = usable;
      newest = λ h among is. taken.newest.greatest h among (is.0, is.1);
      others =
          all-map (IsTaken hs m o)
          (λ (h : Holding). IsAmong h hs × IsUsableOf m o h) (λ h t. (t.among, t.other)) others all;
      ids = ap (λ l. l ++ head.segment ∷ []) ids ∙ sym last;
    }

-- and its segments are a plan's
pub found-plan : (hs : List Holding) (least m : ℕ) (head : Holding) (o : Opening) (look : ℕ → Option (Bor Holding))
    (vs ws : List (Bor Holding)) (b : Bor Holding) (p : Plan)
    → IsHeadTaken hs m head → IsUsableHead least head.segment → opening_in head.bytes ≡ Some o
    → ArePreferred m hs look
    → AreFound look o.digest (take (length (listed_ids o.digest) - 1) (listed_ids o.digest)) vs → b.now ≡ head
    → ws ≡ vs ++ b ∷ []
    → p.segments ≡ map (λ (h : Holding). entries_in h.bytes) (lent ws) → p.safe ≡ o.safe →
    IsPlanOf hs least m (record { opening = o; head = head; others = lent vs }) p
found-plan hs least m head o look vs ws b p taken usable opened best found is e segments safe =
    let listed = listed_ids o.digest in
    let all = found-taken hs m look best o (take (length listed - 1) listed) vs found in
    let ids = found-ids hs m look best o (take (length listed - 1) listed) vs found in
    record {
      choice = found-choice hs least m head o (lent vs) taken usable opened all ids;
      good = taken.good;
      head = taken.preferred;
      others =
          all-map (IsTaken hs m o)
          (λ (h : Holding). IsPreferred (IsReplicaOf m o h.segment) hs h) (λ h t. t.preferred) (lent vs)
          all;
      segments =
          segments ∙ ap (map (λ (h : Holding). entries_in h.bytes))
          (lent-push vs ws b e ∙ ap (λ x. lent vs ++ x ∷ []) is);
      safe = safe;
    }
