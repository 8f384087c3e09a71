-- Rounds of the cleaner.
use Rattle.std.proofs.Common.{◌≡◌, ℕ, zero, suc, ◌+◌, ◌<◌, Bool, true, false, [], refl, sym, subst, inl, inr}
use Rattle.std.proofs.Common.{arith}
use Rattle.std.specs.Prelude.{Result, Some, None, Ok, Err, IfOk, IfErr, IsErr}
use Rattle.std.specs.Result.{IsErrAnd}
use Rattle.driving.specs.master.Keeps.{Keeps}
use Rattle.driving.specs.master.Steps.{Steps, Declines}
use Rattle.driving.specs.master.World.{World}
use Rattle.driving.specs.master.master_space.Choosing.{next_step, pending_step}
use Rattle.driving.specs.master.master_state.declared.step.Refusal.{Refusal}
use Rattle.driving.specs.master.master_state.declared.step.Refusal.TheVariants.{NoMemory}
use Rattle.driving.specs.master.master_state.declared.step.Step.{Step}
use Rattle.driving.specs.master.master_state.declared.step.StepAnswer.{StepAnswer}
use Rattle.driving.specs.GoesOn.{goes_nowhere, goes_further}
use Rattle.driving.specs.Rolls.{Advances, is_lost}
use Rattle.driving.specs.Served.{LivesOn}
use Rattle.driving.proofs.AnyStep.{step_goes_on}
use Rattle.tending.specs.declared.policy.Policy.{Policy}
use Rattle.tending.specs.Low.{is_low}
use Rattle.tending.specs.Tends.{IsTendStep, AreTended, IsTended, Tends, TendsUntil}
use Rattle.tending.specs.Rounds.{AreContinued, IsGivenUp, MakesRound}
use Rattle.tending.proofs.Tended.{no_record}

-- ---- steps of what is under way

-- So many steps of what is under way were made so far.
pub record IsContinued (made : ℕ) (old new : World) : Type 0 where
  pub lives : LivesOn old.knows new.knows []
  pub continued : AreContinued made old new

pub continued_none : (w : World) → IsContinued 0 w w
continued_none w = record { lives = goes_nowhere w.knows; continued = refl }

pub continued_lives : (made : ℕ) (old mid new : World) (s : Step) (r : Result StepAnswer Refusal)
    → IsContinued made old mid → IsTendStep mid.knows s → Steps mid s r new → Keeps 1 mid new
    → LivesOn old.knows new.knows []
continued_lives made old mid new s r so is gives keeps =
    goes_further old.knows mid.knows new.knows so.lives
    (step_goes_on s (no_record mid.knows s is) mid new r gives keeps)

pub continued_more : (made : ℕ) (old mid new : World) (s : Step) (r : Result StepAnswer Refusal)
    → IsContinued made old mid → pending_step mid.knows ≡ Some s → Steps mid s r new → Advances s mid new
    → Keeps 1 mid new → IsContinued (made + 1) old new
continued_more made old mid new s r so is gives goes keeps =
    let next : suc made ≡ made + 1 = omega arith in
    record {
      lives = continued_lives made old mid new s r so (inl is) gives keeps;
      continued = subst (λ (n : ℕ). AreContinued n old new) next (mid, so.continued, s, is, goes);
    }

-- they are steps of the cleaner
pub continued_tended : (count : ℕ) (old new : World) → AreContinued count old new → AreTended count old new
continued_tended zero old new is = is
continued_tended (suc count) old new (mid, before, s, is, goes) =
    (mid, continued_tended count old mid before, s, inl is, goes)

-- ---- steps of the cleaner behind others

pub tended_on : (more count : ℕ) (old mid new : World) → AreTended count old mid → AreTended more mid new
    → AreTended (more + count) old new
tended_on zero count old mid new first same =
    let all : count ≡ 0 + count = omega arith in
    subst (λ (n : ℕ). AreTended n old new) all (subst (λ (w : World). AreTended count old w) (sym same) first)
tended_on (suc more) count old mid new first (last, before, s, is, goes) =
    let next : suc (more + count) ≡ suc more + count = omega arith in
    subst (λ (n : ℕ). AreTended n old new) next (last, tended_on more count old mid last first before, s, is, goes)

-- some steps were made, whatever came then
pub until_on : (count : ℕ) (old mid : World) (r : Refusal) (new : World) → AreTended count old mid
    → ((most : ℕ) × TendsUntil most mid r new) → (most : ℕ) × TendsUntil most old r new
until_on count old mid r new first (most, (made, few, last, tended, ends)) =
    (suc (made + count), (made + count, omega arith, last, tended_on made count old mid last first tended, ends))

-- a step of the cleaner is refused for good
pub until_step : (mid : World) (s : Step) (r : Refusal) (new : World) → IsTendStep mid.knows s → Declines mid s r new
    → is_lost r ≡ false → (most : ℕ) × TendsUntil most mid r new
until_step mid s r new is declines lost = (1, (0, omega arith, mid, refl, inl (s, is, declines, lost)))

-- memory for a choice is refused
pub until_memory : (mid new : World) (r : Refusal) → r ≡ NoMemory → new ≡ mid
    → (most : ℕ) × TendsUntil most mid r new
until_memory mid new r is same = (1, (0, omega arith, mid, refl, inr (is, same)))

-- the cleaner gave up behind other steps
pub given_up_on : (count : ℕ) (old mid new : World) → AreTended count old mid → IsGivenUp mid new → IsGivenUp old new
given_up_on count old mid new first (more, many, tended) =
    (more + count, omega (arith, many), tended_on more count old mid new first tended)

-- a round is refused for want of memory
pub memory_round : (policy : Policy) (old new : World) (result : Result Bool Refusal) → IsErr result
    → IsErrAnd result (λ (r : Refusal). r ≡ NoMemory) → ((most : ℕ) × TendsUntil most old NoMemory new)
    → MakesRound policy old result new
memory_round policy old new (Ok gained) err memory until = absurd (cc)
memory_round policy old new (Err r) err memory until =
    subst (λ (x : Refusal). (most : ℕ) × TendsUntil most old x new) (sym memory) until

-- ---- a result of steps

pub tends_of : (policy : Policy) (most : ℕ) (old new : World) (result : Result ℕ Refusal)
    → IfOk result (λ (made : ℕ). IsTended most made old new)
    → IfErr result (λ (r : Refusal). TendsUntil most old r new)
    → IfOk result (λ (made : ℕ). made < most → is_low policy new.knows ≡ true → next_step new.knows ≡ None)
    → Tends policy most old result new
tends_of policy most old new (Ok made) tended refused able = (tended, able)
tends_of policy most old new (Err r) tended refused able = refused
