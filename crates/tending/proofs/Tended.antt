-- Steps of a cleaner, one after another.
use Rattle.std.proofs.Common.{◌≡◌, ℕ, suc, ◌+◌, ◌-◌, ◌<◌, ◌≤◌, Bool, true, false, [], refl, subst, inl, inr, arith, ◌∙◌}
use Rattle.std.specs.Prelude.{Ok, Some}
use Rattle.driving.specs.master.Keeps.{Keeps}
use Rattle.driving.specs.master.Steps.{Declines}
use Rattle.driving.specs.master.World.{World}
use Rattle.driving.specs.master.master_state.declared.step.Refusal.{Refusal}
use Rattle.driving.specs.master.master_state.declared.step.Step.{Step}
use Rattle.driving.specs.master.master_state.declared.step.Step.TheVariants.{Apply, Push, BeginRoll, Compact}
use Rattle.driving.specs.master.master_state.declared.step.Step.TheVariants.{BeginClean, Copy, Seal, Free}
use Rattle.driving.specs.master.master_state.Data.{MasterData}
use Rattle.driving.proofs.of_master.Keeping.{keeps_same, keeps_on}
use Rattle.driving.specs.GoesOn.{goes_nowhere, goes_further}
use Rattle.driving.specs.Rolls.{Advances, is_lost}
use Rattle.driving.specs.Served.{LivesOn}
use Rattle.driving.proofs.AnyStep.{makes_no_record}
use Rattle.driving.proofs.Turns.{IsTurn, next_turn}
use Rattle.tending.specs.declared.policy.Policy.{Policy}
use Rattle.tending.specs.Tends.{AreShort, AreTended, IsBegin, IsRefused, IsTendStep, MakesStep}
use Rattle.tending.specs.Tends.{stops_behind}

by_turn : (s : Step) → IsTurn s → makes_no_record s ≡ true
by_turn (Apply seat command) is = absurd is
by_turn Push is = refl
by_turn BeginRoll is = refl
by_turn (Compact id) is = refl
by_turn (BeginClean ids) is = refl
by_turn Copy is = refl
by_turn Seal is = refl
by_turn Free is = refl

by_begin : (s : Step) → IsBegin s → makes_no_record s ≡ true
by_begin (Apply seat command) is = absurd is
by_begin Push is = refl
by_begin BeginRoll is = refl
by_begin (Compact id) is = refl
by_begin (BeginClean ids) is = refl
by_begin Copy is = refl
by_begin Seal is = refl
by_begin Free is = refl

-- a step of a cleaner makes no record
pub no_record : (d : MasterData) (s : Step) → IsTendStep d s → makes_no_record s ≡ true
no_record d s (inl is) = by_turn s (next_turn d s is).turn
no_record d s (inr both) = by_begin s both.1

-- So many steps were made so far.
pub record IsSoFar (made : ℕ) (old new : World) : Type 0 where
  pub lives : LivesOn old.knows new.knows []
  pub tended : AreTended made old new
  pub keeps : Keeps made old new

pub so_far_none : (w : World) → IsSoFar 0 w w
so_far_none w = record { lives = goes_nowhere w.knows; tended = refl; keeps = keeps_same 0 w }

-- ---- one step

-- the master that a choice hands over is as it was
pub makes_step : (policy : Policy) (old mid new : World) (s : Step) (stops : Bool) → mid ≡ old
    → IsTendStep mid.knows s → stops_behind policy s new.knows ≡ stops → Advances s mid new
    → MakesStep policy old (Ok (Some stops)) new
makes_step policy old mid new s stops same is long goes =
    subst (λ (w : World). MakesStep policy w (Ok (Some stops)) new) same (s, is, long, goes)

pub refuses_step : (old mid new : World) (s : Step) (r : Refusal) → mid ≡ old → IsTendStep mid.knows s
    → Declines mid s r new → is_lost r ≡ false → IsRefused old r new
refuses_step old mid new s r same is declines lost =
    subst (λ (w : World). IsRefused w r new) same (inl (s, is, declines, lost))

-- one step more
pub so_far_more : (policy : Policy) (made : ℕ) (is_long : Bool) (old mid new : World) → IsSoFar made old mid
    → MakesStep policy mid (Ok (Some is_long)) new → LivesOn mid.knows new.knows [] → Keeps 1 mid new
    → IsSoFar (made + 1) old new
so_far_more policy made is_long old mid new so (s, is, long, goes) lives keeps =
    let next : suc made ≡ made + 1 = omega arith in
    record {
      lives = goes_further old.knows mid.knows new.knows so.lives lives;
      tended = subst (λ (n : ℕ). AreTended n old new) next (mid, so.tended, s, is, goes);
      keeps = keeps_on made 1 old mid new so.keeps keeps;
    }

-- fewer takes are no more than more
pub keeps_fewer : (made most : ℕ) (old new : World) → made ≤ most → Keeps made old new → Keeps most old new
keeps_fewer made most old new le keeps =
    let all : made + (most - made) ≡ most = omega (arith, le) in
    subst (λ (n : ℕ). Keeps n old new) all
    (keeps_on made (most - made) old new new keeps (keeps_same (most - made) new))

pub keeps_one_more : (made most : ℕ) (old mid new : World) → made < most → Keeps made old mid → Keeps 1 mid new
    → Keeps most old new
keeps_one_more made most old mid new lt first later =
    keeps_fewer (made + 1) most old new (omega (arith, lt)) (keeps_on made 1 old mid new first later)

-- ---- behind a command

-- So many steps were made so far, and the cleaner stops behind none of them.
pub record IsShortSoFar (policy : Policy) (made : ℕ) (old new : World) : Type 0 where
  pub lives : LivesOn old.knows new.knows []
  pub short : AreShort policy made old new
  pub keeps : Keeps made old new

pub short_none : (policy : Policy) (w : World) → IsShortSoFar policy 0 w w
short_none policy w = record { lives = goes_nowhere w.knows; short = refl; keeps = keeps_same 0 w }

pub short_more : (policy : Policy) (made : ℕ) (is_long : Bool) (old mid new : World) → is_long ≡ false
    → IsShortSoFar policy made old mid → MakesStep policy mid (Ok (Some is_long)) new → LivesOn mid.knows new.knows []
    → Keeps 1 mid new → IsShortSoFar policy (made + 1) old new
short_more policy made is_long old mid new short so (s, is, long, goes) lives keeps =
    let next : suc made ≡ made + 1 = omega arith in
    record {
      lives = goes_further old.knows mid.knows new.knows so.lives lives;
      short = subst (λ (n : ℕ). AreShort policy n old new) next (mid, so.short, s, is, long ∙ short, goes);
      keeps = keeps_on made 1 old mid new so.keeps keeps;
    }
