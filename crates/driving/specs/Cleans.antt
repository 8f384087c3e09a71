-- What a whole cleaning makes of a master and its fleet, from the begin of its pass to the last free.
use Rattle.std.specs.Prelude.{◌≡◌, ◌⊎◌, ℕ, zero, suc, List, [], ◌∷◌, ◌++◌, false, Result, Ok, Err}
use Rattle.std.specs.Prelude.{Some, None, IsSome}
use Rattle.master.specs.cleaner.declared.survivors.Survivors.{Survivors}
use Rattle.master.specs.cleaner.Passes.{survivor_ids}
use Rattle.master.specs.log_head.Head.{digest_of}
use Rattle.master.specs.log_laws.Ids.{all_inserted, without}
use Rattle.master.specs.master_space.Choosing.{pending_step}
use Rattle.master.specs.master_state.Budget.{newest_digest}
use Rattle.master.specs.master_state.declared.step.Refusal.{Refusal}
use Rattle.master.specs.master_state.declared.step.Step.{Step}
use Rattle.master.specs.master_state.declared.step.Step.TheVariants.{BeginClean, Push}
use Rattle.master.specs.master_state.declared.step.StepAnswer.{StepAnswer}
use Rattle.master.specs.master_state.declared.step.StepAnswer.TheVariants.{Begun}
use Rattle.master.specs.Steps.{Accepts, Declines}
use Rattle.master.specs.World.{World}
use Rattle.driving.specs.Rolls.{Advances, is_lost}

-- ---- an open failover

-- this many pushes of an open failover were accepted, one after another
abbrev pub AreMended : ℕ → World → World → Type 0
AreMended zero old new = new ≡ old
AreMended (suc count) old new = (mid : World) × AreMended count old mid × IsSome mid.knows.failover
    × (answer : StepAnswer) × Accepts mid Push answer new

-- a failover that is open is pushed to its end
abbrev pub IsMended : World → World → Type 0
IsMended old new = (count : ℕ) × AreMended count old new × (new.knows.failover ≡ None)

-- one of the pushes of an open failover is refused
abbrev pub IsNotMended : World → Refusal → World → Type 0
IsNotMended old r new =
    (count : ℕ) × (mid : World) × AreMended count old mid × IsSome mid.knows.failover × Declines mid Push r new

-- ---- what is under way

-- This many steps were made, each the one that was under way: those of an open failover, then what a pass has left to
-- copy and to seal, then a roll or the begin of the pass's commit, and then the freeing of what waits for it.
abbrev pub AreTurned : ℕ → World → World → Type 0
AreTurned zero old new = new ≡ old
AreTurned (suc count) old new = (mid : World) × AreTurned count old mid
    × (step : Step) × (pending_step mid.knows ≡ Some step) × Advances step mid new

-- steps were made until nothing was under way
abbrev pub TurnsOut : World → World → Type 0
TurnsOut old new = (count : ℕ) × AreTurned count old new × (pending_step new.knows ≡ None)

-- steps were made until one was refused for good
abbrev pub TurnsUntil : World → Refusal → World → Type 0
TurnsUntil old r new = (count : ℕ) × (mid : World) × AreTurned count old mid
    × (step : Step) × (pending_step mid.knows ≡ Some step) × Declines mid step r new × (is_lost r ≡ false)

-- ---- whole

-- the ids of a digest once a commit replaced these victims by these survivors, with heads after them
abbrev pub digest_after : List ℕ → List ℕ → List ℕ → List ℕ → List ℕ
digest_after ids victims survivors heads = all_inserted survivors (without victims ids) ++ heads

-- A failover that was open was pushed to its end. Then a pass over these victims began with these survivors, and all of
-- it was made. A roll was its commit: the digest in force lists the survivors in place of the victims, the pass has
-- ended, and nothing waits to be freed. The head in force has this id.
pub record IsCleaned (old : World) (victims : List ℕ) (survivors : Survivors) (id : ℕ) (new : World) : Type 0 where
  pub ready : World
  pub mended : IsMended old ready
  pub begun : World
  pub begins : Accepts ready (BeginClean victims) (Begun survivors) begun
  pub turned : TurnsOut begun new
  pub head : id ≡ new.knows.head.id
  -- some heads came before the commit, and some after it, as rolls or failovers brought them
  pub before : List ℕ
  pub after : List ℕ
  pub digest : digest_of new.knows.head.image
      ≡ digest_after (digest_of ready.knows.head.image ++ before) victims (survivor_ids survivors)
      (after ++ id ∷ [])
  -- if no backup fails meanwhile, the commit's head is the last; a head that a roll was opening then is listed too
  pub calm : new.knows.failed ≡ old.knows.failed → digest_of new.knows.head.image
      ≡ digest_after (newest_digest ready.knows.head) victims (survivor_ids survivors) (id ∷ [])
  pub ended : new.knows.pass ≡ None
  pub freed : new.knows.waiting ≡ []

-- The failover's pushes were refused, or the pass couldn't begin, or what came after its begin stopped at a refusal.
abbrev pub IsNotCleaned : World → List ℕ → Refusal → World → Type 0
IsNotCleaned old victims r new = IsNotMended old r new
    ⊎ ((ready : World) × IsMended old ready × (Declines ready (BeginClean victims) r new
    ⊎ ((survivors : Survivors) × (begun : World) × Accepts ready (BeginClean victims) (Begun survivors) begun
    × TurnsUntil begun r new)))

-- a whole cleaning, by its survivors and the head that is in force then, or by its refusal
abbrev pub Cleans : World → List ℕ → Result (Survivors × ℕ) Refusal → World → Type 0
Cleans old victims (Ok (survivors, head)) new = IsCleaned old victims survivors head new
Cleans old victims (Err r) new = IsNotCleaned old victims r new
