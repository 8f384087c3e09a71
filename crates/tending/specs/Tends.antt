-- What a cleaner makes of a master and its fleet, a few steps at a time.
use Rattle.std.specs.Prelude.{◌≡◌, ◌⊎◌, ℕ, zero, suc, ◌<◌, ◌≤◌, ◌+◌, ◌&&◌, not, Bool, true, false, Option, Some, None}
use Rattle.std.specs.Prelude.{Result, Ok, Err}
use Rattle.driving.specs.master.master_space.Choosing.{next_step, pending_step}
use Rattle.driving.specs.master.master_state.declared.step.Refusal.{Refusal}
use Rattle.driving.specs.master.master_state.declared.step.Refusal.TheVariants.{NoMemory}
use Rattle.driving.specs.master.master_state.declared.step.Step.{Step}
use Rattle.driving.specs.master.master_state.declared.step.Step.TheVariants.{Apply, Push, BeginRoll, Compact}
use Rattle.driving.specs.master.master_state.declared.step.Step.TheVariants.{BeginClean, Copy, Seal, Free}
use Rattle.driving.specs.master.master_state.Data.{MasterData}
use Rattle.driving.specs.master.Steps.{Declines}
use Rattle.driving.specs.master.World.{World}
use Rattle.driving.specs.Rolls.{Advances, is_lost}
use Rattle.tending.specs.declared.policy.Policy.{Policy}
use Rattle.tending.specs.Low.{MayRest, is_low, is_tight}

-- a segment is compacted, or a pass begins
abbrev pub IsBegin : Step → Type 0
IsBegin (Apply seat command) = ⊥
IsBegin Push = ⊥
IsBegin BeginRoll = ⊥
IsBegin (Compact id) = Unit {0}
IsBegin (BeginClean ids) = Unit {0}
IsBegin Copy = ⊥
IsBegin Seal = ⊥
IsBegin Free = ⊥

-- The step is the one that is under way. Or nothing is, and it compacts a segment or begins a pass.
abbrev pub IsTendStep : MasterData → Step → Type 0
IsTendStep d step = (pending_step d ≡ Some step) ⊎ ((pending_step d ≡ None) × IsBegin step)

-- so many such steps were made, one after another
abbrev pub AreTended : ℕ → World → World → Type 0
AreTended zero old new = new ≡ old
AreTended (suc count) old new = (mid : World) × AreTended count old mid
    × (step : Step) × IsTendStep mid.knows step × Advances step mid new

-- So many steps were made, and no more than were asked for. It made fewer only if nothing is under way.
pub record IsTended (most made : ℕ) (old new : World) : Type 0 where
  pub few : made ≤ most
  pub tended : AreTended made old new
  pub idle : made < most → pending_step new.knows ≡ None

-- the next step was refused for good, or memory for a choice was
abbrev pub IsRefused : World → Refusal → World → Type 0
IsRefused old r new = ((step : Step) × IsTendStep old.knows step × Declines old step r new × (is_lost r ≡ false))
    ⊎ ((r ≡ NoMemory) × (new ≡ old))

-- Fewer steps were made, and then one was refused for good, or memory for a choice was.
abbrev pub TendsUntil : ℕ → World → Refusal → World → Type 0
TendsUntil most old r new = (count : ℕ) × (count < most) × (mid : World) × AreTended count old mid
    × IsRefused mid r new

-- What a cleaner makes of a master. It made so many steps, and fewer than were asked for only if nothing has to begin
-- or no pass may begin. Or it was refused.
abbrev pub Tends : Policy → ℕ → World → Result ℕ Refusal → World → Type 0
Tends policy most old (Ok made) new = IsTended most made old new
    × (made < most → is_low policy new.knows ≡ true → next_step new.knows ≡ None)
Tends policy most old (Err r) new = TendsUntil most old r new

-- ---- behind a command

abbrev pub is_compaction : Step → Bool
is_compaction (Compact id) = true
is_compaction _ = false

-- A cleaner stops behind the step, which left this: it compacts a segment, and memory isn't tight.
abbrev pub stops_behind : Policy → Step → MasterData → Bool
stops_behind policy step new = is_compaction step && not (is_tight policy new)

-- so many steps of a cleaner were made, one after another, and it stops behind none of them
abbrev pub AreShort : Policy → ℕ → World → World → Type 0
AreShort policy zero old new = new ≡ old
AreShort policy (suc count) old new = (mid : World) × AreShort policy count old mid × (step : Step)
    × IsTendStep mid.knows step × (stops_behind policy step new.knows ≡ false) × Advances step mid new

-- What a cleaner makes of a master behind a command. It made so many steps and stops behind none of them, and it made
-- fewer than it might only if it may rest. Or it made such steps, and then one behind which it stops: a compaction is
-- as long as many other steps. Or it was refused.
abbrev pub TendsBehind : Policy → ℕ → World → Result ℕ Refusal → World → Type 0
TendsBehind policy most old (Ok made) new =
    ((made ≤ most) × AreShort policy made old new × (made < most → MayRest policy new.knows))
    ⊎ ((count : ℕ) × (made ≡ count + 1) × (count < most) × (mid : World) × AreShort policy count old mid
    × (step : Step) × IsTendStep mid.knows step × (stops_behind policy step new.knows ≡ true) × Advances step mid new)
TendsBehind policy most old (Err r) new =
    (count : ℕ) × (count < most) × (mid : World) × AreShort policy count old mid × IsRefused mid r new

-- ---- one step

-- What one step of a cleaner comes to, and whether the cleaner stops behind it. Or there is none. Or it was refused.
abbrev pub MakesStep : Policy → World → Result (Option Bool) Refusal → World → Type 0
MakesStep policy old (Ok (Some stops)) new =
    (step : Step) × IsTendStep old.knows step × (stops_behind policy step new.knows ≡ stops) × Advances step old new
MakesStep policy old (Ok None) new = (new ≡ old) × MayRest policy new.knows
MakesStep policy old (Err r) new = IsRefused old r new
