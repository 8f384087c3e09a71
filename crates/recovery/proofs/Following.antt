-- A life that is followed by a next master, and one that isn't.
use Rattle.std.proofs.Common.{◌≡◌, ℕ, suc, ◌+◌, List, refl, sym, ap, subst, ◌∙◌, arith}
use Rattle.std.specs.Prelude.{Result, Ok, Err}
use Rattle.replica.specs.declared.op.TakeFault.{TakeFault}
use Rattle.replica.specs.declared.op.TakeFault.TheVariants as take_fault
use Rattle.replica.specs.Picture.{FleetState}
use Rattle.replica.specs.Retire.{Retires}
use Rattle.claims.specs.declared.rebuilt.Rebuilt.{Rebuilt}
use Rattle.replay.specs.Adopting.{IsAdopted, IsAdoptedOn}
use Rattle.replay.specs.master.master_state.declared.config.Config.{Config}
use Rattle.replay.specs.master.master_state.declared.step.Refusal.{Refusal}
use Rattle.replay.specs.master.master_state.declared.step.Step.{Step}
use Rattle.replay.specs.master.master_state.declared.step.StepAnswer.{StepAnswer}
use Rattle.replay.specs.master.master_state.Config.{config_fault, has_live}
use Rattle.replay.specs.master.master_state.Data.{MasterData}
use Rattle.replay.specs.master.Valid.{IsValid}
use Rattle.replay.specs.master.World.{World, world_of, retired_data}
use Rattle.recovery.specs.declared.recovery.RecoveryFault.{RecoveryFault}
use Rattle.recovery.specs.declared.succession.Course.{Course}
use Rattle.recovery.specs.declared.succession.NotAdopted.{NotAdopted}
use Rattle.recovery.specs.Drilled.{IsDrill}
use Rattle.recovery.specs.Succession.{IsNewest, with_number, next_config, IsDrillBy, IsSuccessor, IsNotAdopted}
use Rattle.recovery.proofs.Succeeding.{run_newest, next_newest}

-- ---- the next master

-- no limit of a configuration depends on the master's number
pub any_number : (n : ℕ) (c : Config) → config_fault (with_number n c) ≡ config_fault c
unfolding has_live
any_number n c = refl

-- the configuration, under the next number
pub config_next : (c d : Config) (n m : ℕ) → d ≡ with_number m c → m ≡ n + 1 → d ≡ with_number (suc n) c
config_next c d n m is next =
    let same : m ≡ suc n = omega (arith, next) in
    is ∙ ap (λ (k : ℕ). with_number k c) same

-- that of the next master
pub config_of_next : (c d : Config) (n : ℕ) → d ≡ with_number d.master c → n ≡ d.master
    → with_number (suc n) c ≡ next_config d
config_of_next c d n like number =
    ap (λ (m : ℕ). with_number (suc m) c) number ∙ ap (λ (x : Config). with_number (suc d.master) x) (sym like)

-- a master that a fault halts has adopted the list still
pub adopted_still : (c : Config) (r : Rebuilt) (d : MasterData) (retired : Result Unit TakeFault) → IsAdopted c r d
    → IsAdopted c r (retired_data retired d)
adopted_still c r d (Ok u) adopted = adopted
adopted_still c r d (Err take_fault.NoMemory) adopted = adopted
adopted_still c r d (Err take_fault.Wrong) adopted = adopted
adopted_still c r d (Err take_fault.Fault) adopted = record {
  config = adopted.config;
  opening = adopted.opening;
  history = adopted.history;
  opened = adopted.opened;
  pushed = adopted.pushed;
  live = adopted.live;
}
adopted_still c r d (Err take_fault.Spent) adopted = adopted

pub is_successor : (c d : Config) (r : Rebuilt) (left taken new : FleetState) (before after : MasterData)
    (retired : Result Unit TakeFault) → d ≡ c → after ≡ retired_data retired before → IsAdopted d r before
    → IsAdoptedOn d.master left taken
    → Retires taken before.config.master retired new → IsValid after new
    → IsSuccessor c r left retired (world_of after new)
is_successor c d r left taken new before after retired same kept adopted on retires valid =
    subst (λ (x : Config). IsSuccessor x r left retired (world_of after new)) same (record {
      adopted = subst (λ (x : MasterData). IsAdopted d r x) (sym kept)
          (adopted_still d r before retired adopted);
      taken = taken;
      on = on;
      retires = subst (λ (n : ℕ). Retires taken n retired new) (ap (λ (x : Config). x.master) adopted.config) retires;
      valid = valid;
    })

pub adopted_newest : (n : ℕ) (c d : Config) (r : Rebuilt) (left taken new : FleetState) (before : MasterData)
    (retired : Result Unit TakeFault) → d ≡ with_number (suc n) c → IsAdopted d r before
    → IsAdoptedOn d.master left taken → Retires taken before.config.master retired new → IsNewest n left
    → IsNewest (suc n) new
adopted_newest n c d r left taken new before retired same adopted on retires newest =
    let number : d.master ≡ suc n = ap (λ (x : Config). x.master) same in
    next_newest n left taken new retired newest (subst (λ (m : ℕ). IsAdoptedOn m left taken) number on)
    (subst (λ (m : ℕ). Retires taken m retired new) (ap (λ (x : Config). x.master) adopted.config ∙ number) retires)

-- ---- the configuration

pub newest_again : (c e : Config) (n : ℕ) (f : FleetState) → e ≡ with_number n c → IsNewest n f → IsNewest e.master f
newest_again c e n f is newest =
    subst (λ (m : ℕ). IsNewest m f) (sym (ap (λ (x : Config). x.master) is)) newest

-- ---- the life

pub drill_by : (start : World) (k : Course) (steps : List Step) (kept : List ℕ)
    (answers : List (Result StepAnswer Refusal)) (recovered : Result Rebuilt RecoveryFault) (left : FleetState)
    → steps ≡ k.steps.items → kept ≡ k.kept.items
    → IsDrill start steps kept k.will k.order answers recovered left → IsDrillBy start k answers recovered left
drill_by start k steps kept answers recovered left same asked is =
    subst (λ (xs : List Step). IsDrill start xs k.kept.items k.will k.order answers recovered left) same
    (subst (λ (xs : List ℕ). IsDrill start steps xs k.will k.order answers recovered left) asked is)

pub drill_newest : (start : World) (k : Course) (answers : List (Result StepAnswer Refusal))
    (recovered : Result Rebuilt RecoveryFault) (left : FleetState) (n : ℕ) → n ≡ start.knows.config.master
    → IsDrillBy start k answers recovered left → IsNewest start.knows.config.master start.fleet → IsNewest n left
drill_newest start k answers recovered left n same is newest =
    subst (λ (m : ℕ). IsNewest m left) (sym same)
    (run_newest start is.stop k.steps.items answers left is.run is.fleet newest)

pub is_not_adopted : (c d : Config) (n : ℕ) (r : Rebuilt) (left new : FleetState) (why : NotAdopted)
    → d ≡ with_number d.master c → n ≡ d.master → IsNotAdopted (with_number n c) r left why new
    → IsNotAdopted d r left why new
is_not_adopted c d n r left new why like number is =
    subst (λ (x : Config). IsNotAdopted x r left why new) (ap (λ (m : ℕ). with_number m c) number ∙ sym like) is
