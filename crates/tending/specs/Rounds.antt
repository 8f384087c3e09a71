-- A round of the cleaner, in which it makes room, and what it gains.
use Rattle.std.specs.Prelude.{◌≡◌, ◌⊎◌, ℕ, zero, suc, ◌<◌, ◌≤◌, ◌^◌, Bool, false, Some, None, nat_lt, Result, Ok, Err}
use Rattle.driving.specs.master.master_space.Choosing.{pending_step}
use Rattle.driving.specs.master.master_state.Budget.{free_seglets}
use Rattle.driving.specs.master.master_state.declared.step.Refusal.{Refusal}
use Rattle.driving.specs.master.master_state.declared.step.Step.{Step}
use Rattle.driving.specs.master.World.{World}
use Rattle.driving.specs.Rolls.{Advances}
use Rattle.tending.specs.declared.policy.Policy.{Policy}
use Rattle.tending.specs.Low.{MayRest}
use Rattle.tending.specs.Tends.{IsBegin, AreTended, TendsUntil}

-- so many steps of what is under way were made, one after another
abbrev pub AreContinued : ℕ → World → World → Type 0
AreContinued zero old new = new ≡ old
AreContinued (suc count) old new = (mid : World) × AreContinued count old mid
    × (step : Step) × (pending_step mid.knows ≡ Some step) × Advances step mid new

-- What was under way came to its end, and nothing else was done.
pub record IsFinished (old new : World) : Type 0 where
  pub count : ℕ
  pub few : count < 2 ^ 32
  pub continued : AreContinued count old new
  pub idle : pending_step new.knows ≡ None

-- What was under way came to its end. Then the cleaner began something, which came to its end as well.
abbrev pub BeginsOne : World → World → Type 0
BeginsOne old new = (mid : World) × IsFinished old mid
    × (begun : World) × (step : Step) × IsBegin step × Advances step mid begun × IsFinished begun new

-- A round: what was under way came to its end. Then the cleaner might rest, or it began one thing more, a compaction
-- or a pass, which came to its end as well.
abbrev pub IsRound : Policy → World → World → Type 0
IsRound policy old new = (IsFinished old new × MayRest policy new.knows) ⊎ BeginsOne old new

-- a round that was given up: 2^32 steps were made, and something is under way still
abbrev pub IsGivenUp : World → World → Type 0
IsGivenUp old new = (count : ℕ) × (2 ^ 32 ≤ count) × AreTended count old new

-- more seglets are free than before
abbrev pub gains : World → World → Bool
gains old new = nat_lt (free_seglets old.knows) (free_seglets new.knows)

-- What a round makes of a master, and whether it gained seglets. A round that was given up gains nothing. Or the round
-- was refused: some steps were made, and then one was refused for good, or memory for a choice was.
abbrev pub MakesRound : Policy → World → Result Bool Refusal → World → Type 0
MakesRound policy old (Ok gained) new =
    (IsRound policy old new × (gained ≡ gains old new)) ⊎ (IsGivenUp old new × (gained ≡ false))
MakesRound policy old (Err r) new = (most : ℕ) × TendsUntil most old r new
