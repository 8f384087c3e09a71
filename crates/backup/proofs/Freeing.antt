-- What becomes of a fault that is asked for while replicas are freed.
use Rattle.std.proofs.Common.{◌≡◌, ℕ, ◌+◌, ◌-◌, List, [], ◌∷◌, ◌++◌, length, length-append, Bool, true, false}
use Rattle.std.proofs.Common.{ap, subst, ◌∙◌, arith}
use Rattle.std.specs.Prelude.{Err, if◌then◌else◌}
use Rattle.replica.specs.declared.op.TakeFault.{TakeFault}
use Rattle.replica.specs.declared.op.TakeFault.TheVariants as take_fault
use Rattle.replica.specs.declared.spot.Spot.{Spot}
use Rattle.replica.specs.Picture.{FleetState}
use Rattle.replica.specs.Retire.{freeing}
use Rattle.replica.specs.Take.{TakeGives, unanswered}
use Rattle.replica.proofs.Retiring.{frees_more, nothing_freed}
use Rattle.backup.specs.declared.fleet.Asked.{Asked}
use Rattle.backup.specs.declared.fleet.MemoryFleet.{MemoryFleet}
use Rattle.backup.specs.Faults.{after_takes, nearer, MeetsAsked, MeetsAskedFreeing, TakesOp}
use Rattle.backup.specs.State.{fleet_state}

-- without a take it is the same
pub after_none : (a : Asked) → a ≡ after_takes 0 a
after_none a = let same : a.takes ≡ a.takes - 0 = omega arith in λ i. record { takes = same i; taken = a.taken }

pub after_itself : (a : Asked) (n : ℕ) → a ≡ after_takes (n - n) a
after_itself a n =
    let same : a.takes ≡ a.takes - (n - n) = omega arith in λ i. record { takes = same i; taken = a.taken }

-- one more take
pub after_more : (a : Asked) (xs : List Spot) (x : Spot)
    → nearer (after_takes (length xs) a) ≡ after_takes (length (xs ++ x ∷ [])) a
after_more a xs x =
    let longer : length (xs ++ x ∷ []) ≡ length xs + 1 = length-append xs (x ∷ []) in
    let same : (a.takes - length xs) - 1 ≡ a.takes - length (xs ++ x ∷ []) = omega (arith, longer) in
    λ i. record { takes = same i; taken = a.taken }

-- so many were taken
pub after_freed : (a : Asked) (old new count : ℕ) → new ≡ old + count → after_takes count a ≡ after_takes (new - old) a
after_freed a old new count is =
    let same : count ≡ new - old = omega (arith, is) in ap (λ (n : ℕ). after_takes n a) same

-- the take that ended in the fault was counted, or its op was lost
fault_takes : (t : Bool) (m f : FleetState) (n : ℕ) → n ≡ (unanswered f (if t then m else f)).takes
    → m.takes ≡ f.takes + 1
    → n + (if t then 0 else 1) ≡ f.takes + 1
fault_takes true m f n is one = omega (arith, is, one)
fault_takes false m f n is one = omega (arith, is)

module _ (old mid new : MemoryFleet) (spots : List Spot) (x : Spot)
    (takes : mid.takes ≡ old.takes + length spots) (asked : mid.asked ≡ after_takes (length spots) old.asked) where
  -- the fleet is as before the last Free
  same_met : new.takes ≡ mid.takes → new.asked ≡ mid.asked
      → new.asked ≡ after_takes (new.takes - old.takes) old.asked
  same_met count same =
      same ∙ asked ∙ after_freed old.asked old.takes new.takes (length spots) (omega (arith, count, takes))

  -- a Free was refused, behind these
  pub freeing_met : (fault : TakeFault) → MeetsAsked (TakesOp x.backup (freeing x)) mid (Err fault) new
      → TakeGives (fleet_state mid) x.backup (freeing x) (Err fault) (fleet_state new)
      → MeetsAskedFreeing old (Err fault) new
  freeing_met take_fault.NoMemory met gives = same_met (ap (λ (f : FleetState). f.takes) gives) met
  freeing_met take_fault.Wrong met gives = same_met (ap (λ (f : FleetState). f.takes) gives.1) met
  freeing_met take_fault.Spent met gives = same_met (ap (λ (f : FleetState). f.takes) gives.1) met
  freeing_met take_fault.Fault (due, none, (m, took, is)) gives =
      let f : FleetState = fleet_state mid in
      let one : m.takes ≡ f.takes + 1 = (frees_more f f m [] x (nothing_freed f) took).takes in
      let next : mid.asked.takes ≡ old.asked.takes - length spots = ap (λ (a : Asked). a.takes) asked in
      let first : mid.asked.takes ≡ 1 = due.0 in
      let sum : new.takes + (if old.asked.taken then 0 else 1) ≡ f.takes + 1 =
      fault_takes old.asked.taken m f new.takes
      (subst (λ (t : Bool). new.takes ≡ (unanswered f (if t then m else f)).takes) (ap (λ (a : Asked). a.taken) asked)
      (ap (λ (s : FleetState). s.takes) is)) one in
      (none, omega (arith, next, first), omega (arith, next, first, sum, takes))
