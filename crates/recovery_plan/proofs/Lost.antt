-- Which listed segment is lost.
use Rattle.std.proofs.Common.{◌≡◌, ℕ, ◌+◌, ◌<◌, ◌≤◌, inl, inr, List, [], ◌∷◌, ◌++◌, length, get_or, sym, subst, arith}
use Rattle.std.specs.Prelude.{Some, None, ◌⊎◌}
use Rattle.std.proofs.lemmas.Bool.{cases_lt}
use Rattle.entry.specs.declared.digest.Digest.{Digest}
use Rattle.entry.specs.Bag.{IsAmong}
use Rattle.entry.specs.Text.{Opening, opening_in, listed_ids}
use Rattle.entry.proofs.BagLemmas.{among_push}
use Rattle.replica.specs.declared.holding.Holding.{Holding}
use Rattle.replica.specs.Choice.{IsUsableHead}
use Rattle.recovery_plan.specs.Good.{IsOf}
use Rattle.recovery_plan.specs.Looked.{IsUsableFor}
use Rattle.recovery_plan.specs.Lost.{HasReplica, IsFirstLost, IsFirstLostOf}
use Rattle.recovery_plan.specs.Planned.{IsHeadTaken, IsMissing, HasAllListed, IsHere}
use Rattle.recovery_plan.proofs.Digests.{digest-of, among-place, place-among, earlier, below-last, place-before}
use Rattle.recovery_plan.proofs.Bests.{usable-for, usable-as}
use Rattle.recovery_plan.proofs.Plans.{taken-good}

-- one more replica, of another master or segment, or one that may not be used
pub none_more : (before : List Holding) (h : Holding) (master : ℕ) (d : Digest) (id : ℕ)
    → (HasReplica before master d id → ⊥) → (IsOf master id h → IsUsableFor d id h → ⊥)
    → HasReplica (before ++ h ∷ []) master d id → ⊥
none_more before h master d id none other (g, among, of, may) = go (among_push g before h among)
  where
    go : (IsAmong g before ⊎ (h ≡ g)) → ⊥
    go (inl early) = none (g, early, of, may)
    go (inr same) = other (subst (IsOf master id) (sym same) of) (subst (IsUsableFor d id) (sym same) may)

-- one more id of which a replica is there
pub each_more : (P : ℕ → Type 0) (ids : List ℕ) (i : ℕ) → ((k : ℕ) → k < i → P (get_or ids k 0)) → P (get_or ids i 0)
    → (k : ℕ) → k < i + 1 → P (get_or ids k 0)
each_more P ids i each last k lt = go (cases_lt k i)
  where
    go : ((k < i) ⊎ (i ≤ k)) → P (get_or ids k 0)
    go (inl below) = each k below
    go (inr above) = let e : i ≡ k = omega arith in subst (λ n. P (get_or ids n 0)) e last

-- such a replica is here
here_by : (hs : List Holding) (m : ℕ) (o : Opening) (n : ℕ) → HasReplica hs m o.digest n → IsHere hs m o n
here_by hs m o n there =
    (there.0, there.1, ((there.2.0, usable-as o there.0 n there.2.1 there.3), there.2.1))

-- the head that is taken lists the first lost id, which is the lowest that is lost
pub lost_missing : (hs : List Holding) (least m : ℕ) (o : Opening) (head : Holding) (id : ℕ) → IsHeadTaken hs m head
    → IsUsableHead least head.segment → opening_in head.bytes ≡ Some o → IsFirstLost hs m o.digest id
    → IsMissing hs least m id
lost_missing hs least m o head id taken usable opened first =
    let ids = listed_ids o.digest in
    let digest = digest-of head o (taken-good hs m head taken) opened in
    let listed : get_or ids first.place 0 ≡ id = first.listed in
    let within = first.within in
    let here : first.place < length ids = omega arith in
    record {
      head = head;
      taken = taken;
      usable = usable;
      opening = o;
      opened = opened;
      listed = place-among id ids first.place here listed;
      other = λ same.
          let lt : get_or ids first.place 0 < head.segment = below-last head.segment ids first.place digest within in
          omega arith;
      lost =
          λ h among replica. first.lost
          (h, among, (replica.0.0, replica.1), usable-for o h id replica.1 replica.0.1);
      lowest = λ n among lt.
          let at = among-place n ids among in
          let is : get_or ids at.0 0 ≡ n = at.2 in
          let before : at.0 < first.place = earlier ids first.place at.0 digest.rise here at.1 (omega arith) in
          here_by hs m o n (subst (HasReplica hs m o.digest) is (first.before at.0 before));
    }

-- the head that is taken lists no lost id
pub none_lost : (hs : List Holding) (least m : ℕ) (o : Opening) (head : Holding) → IsHeadTaken hs m head
    → IsUsableHead least head.segment → opening_in head.bytes ≡ Some o → IsFirstLostOf hs m o.digest None
    → HasAllListed hs least m
none_lost hs least m o head taken usable opened each = record {
  head = head;
  taken = taken;
  usable = usable;
  opening = o;
  opened = opened;
  here = λ n among not.
      let digest = digest-of head o (taken-good hs m head taken) opened in
      let at = place-before head.segment (listed_ids o.digest) n digest among not in
      here_by hs m o n (subst (HasReplica hs m o.digest) at.2 (each at.0 at.1));
}
