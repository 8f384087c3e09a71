-- What is left of a fleet whose other masters are retired: nothing of theirs.
use Rattle.std.proofs.Common.{[], ◌≡◌, ℕ, List, ◌∷◌, Bool, true, false, inl, inr, refl, sym, ap, subst, ◌∙◌}
use Rattle.std.specs.Prelude.{Option, Some, None, Result, Ok, Err, IsSome, nat_lt, ◌&&◌, if◌then◌else◌}
use Rattle.std.proofs.lemmas.Bool.{eq-eqb}
use Rattle.std.proofs.lemmas.Option.{same_Some}
use Rattle.entry.specs.Bag.{IsAmong}
use Rattle.replica.specs.declared.op.TakeFault.{TakeFault}
use Rattle.replica.specs.declared.op.TakeFault.TheVariants as take_fault
use Rattle.replica.specs.declared.spot.Spot.{Spot}
use Rattle.replica.specs.Op.{Free}
use Rattle.replica.specs.Picture.{Replica, FleetState, is_same_place, with_replica}
use Rattle.replica.specs.Take.{effect, with_effect, Takes, Refuses}
use Rattle.replica.specs.Retire.{freeing, TakesEach, Retires}
use Rattle.next_master.specs.Recoveries.{HasNoOther}
use Rattle.cluster.specs.replay.driving.Served.{IsSpent}

-- ---- one replica

free_effect : (f : FleetState) (x : Spot) (o : Option Replica) (g : FleetState)
    → with_effect f x.backup (freeing x) (effect Free o) ≡ Some g
    → g.picture ≡ with_replica f.picture x.backup x.master x.segment None
free_effect f x None g is = absurd (cc)
free_effect f x (Some r) g is = ap (λ (h : FleetState). h.picture) (sym (same_Some _ g is))

freed : (f : FleetState) (x : Spot) (g : FleetState) → Takes f x.backup (freeing x) g
    → g.picture ≡ with_replica f.picture x.backup x.master x.segment None
freed f x g takes = go (nat_lt x.backup f.backups) takes.1 where
  go : (t : Bool) → (if t then with_effect f x.backup (freeing x) (effect Free (f.picture x.backup x.master x.segment))
      else None) ≡ Some g
      → g.picture ≡ with_replica f.picture x.backup x.master x.segment None
  go true is = free_effect f x (f.picture x.backup x.master x.segment) g is
  go false is = absurd (cc)

either_none : (t : Bool) (o : Option Replica) → o ≡ None → (if t then None else o) ≡ None
either_none true o none = refl
either_none false o none = none

here : (x : Spot) → is_same_place x.backup x.master x.segment x.backup x.master x.segment ≡ true
here x = λ i. eq-eqb x.backup x.backup refl i && (eq-eqb x.master x.master refl i && eq-eqb x.segment x.segment refl i)

-- ---- several

stays_none : (old new : FleetState) (spots : List Spot) → TakesEach old spots new → (b m s : ℕ)
    → old.picture b m s ≡ None → new.picture b m s ≡ None
stays_none old new [] each b m s none = ap (λ (f : FleetState). f.picture b m s) each ∙ none
stays_none old new (x ∷ xs) each b m s none =
    stays_none each.0 new xs each.2 b m s
    ((λ i. freed old x each.0 each.1 i b m s) ∙ either_none (is_same_place x.backup x.master x.segment b m s)
    (old.picture b m s) none)

listed_gone : (old new : FleetState) (spots : List Spot) → TakesEach old spots new → (x : Spot) → IsAmong x spots
    → new.picture x.backup x.master x.segment ≡ None
listed_gone old new [] each x among = absurd among
listed_gone old new (y ∷ ys) each x (inl is) =
    stays_none each.0 new ys each.2 x.backup x.master x.segment
    ((λ i. freed old y each.0 each.1 i x.backup x.master x.segment)
    ∙ subst (λ (z : Spot). with_replica old.picture z.backup z.master z.segment None x.backup x.master
    x.segment ≡ None) (same is)
    (λ i. if here x i then None else old.picture x.backup x.master x.segment))
  where
    same : y ≡ x → x ≡ y
    same e = sym e
listed_gone old new (y ∷ ys) each x (inr among) = listed_gone each.0 new ys each.2 x among

-- the replicas of all others are gone
pub others_gone : (old new : FleetState) (keep : ℕ) (u : Unit) → Retires old keep (Ok u) new → HasNoOther new keep
others_gone old new keep u (spots, others, frees) b m s other = go (old.picture b m s) refl
  where
    go : (o : Option Replica) → old.picture b m s ≡ o → new.picture b m s ≡ None
    go None none = stays_none old new spots frees.each b m s none
    go (Some r) held =
        let x : Spot = record { backup = b; master = m; segment = s } in
        listed_gone old new spots frees.each x ((others.each x).1
        (other, subst (λ (o : Option Replica). IsSome o) (sym held) refl))

-- retiring is cut short as spent by a fleet that is
pub spent_retire : (old new : FleetState) (keep : ℕ) (fault : TakeFault) → Retires old keep (Err fault) new
    → fault ≡ take_fault.Spent → IsSpent new
spent_retire old new keep why retires is = go (subst (λ (e : TakeFault). Retires old keep (Err e) new) is retires)
  where
    go : Retires old keep (Err take_fault.Spent) new → IsSpent new
    go (inl (spots, others, ends)) = subst (λ (f : FleetState). IsSpent f) (sym ends.refused.1) ends.refused.0
    go (inr (none, same)) = absurd (cc)

-- ---- the limit

free_end : (f : FleetState) (x : Spot) (o : Option Replica) (g : FleetState)
    → with_effect f x.backup (freeing x) (effect Free o) ≡ Some g → g.end ≡ f.end
free_end f x None g is = absurd (cc)
free_end f x (Some r) g is = ap (λ (h : FleetState). h.end) (sym (same_Some _ g is))

taken_end : (f : FleetState) (x : Spot) (g : FleetState) → Takes f x.backup (freeing x) g → g.end ≡ f.end
taken_end f x g takes = go (nat_lt x.backup f.backups) takes.1 where
  go : (t : Bool) → (if t then with_effect f x.backup (freeing x) (effect Free (f.picture x.backup x.master x.segment))
      else None) ≡ Some g
      → g.end ≡ f.end
  go true is = free_end f x (f.picture x.backup x.master x.segment) g is
  go false is = absurd (cc)

each_end : (old new : FleetState) (spots : List Spot) → TakesEach old spots new → new.end ≡ old.end
each_end old new [] each = ap (λ (f : FleetState). f.end) each
each_end old new (x ∷ xs) each = each_end each.0 new xs each.2 ∙ taken_end old x each.0 each.1

refused_end : (f g : FleetState) (x : Spot) (fault : TakeFault) → Refuses f x.backup (freeing x) fault g → g.end ≡ f.end
refused_end f g x take_fault.NoMemory is = ap (λ (h : FleetState). h.end) is
refused_end f g x take_fault.Wrong is = ap (λ (h : FleetState). h.end) is.1
refused_end f g x take_fault.Fault (inl is) = ap (λ (h : FleetState). h.end) is
refused_end f g x take_fault.Fault (inr took) = ap (λ (h : FleetState). h.end) took.2 ∙ taken_end f x took.0 took.1
refused_end f g x take_fault.Spent is = ap (λ (h : FleetState). h.end) is.1

-- retiring others leaves the limit as it is
pub retire_keeps_end : (old new : FleetState) (keep : ℕ) (freed : Result Unit TakeFault) → Retires old keep freed new
    → new.end ≡ old.end
retire_keeps_end old new keep (Ok u) (spots, others, frees) = each_end old new spots frees.each
retire_keeps_end old new keep (Err why) (inl (spots, others, ends)) =
    refused_end ends.mid new ends.next why ends.refused ∙ each_end old ends.mid ends.front ends.freed.each
retire_keeps_end old new keep (Err why) (inr (none, same)) = ap (λ (f : FleetState). f.end) same
