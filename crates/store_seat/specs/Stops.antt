-- Why a call ends without an answer.
use Rattle.master_core.specs.master_state.declared.step.Refusal.{Refusal}
use Rattle.master_core.specs.master_state.declared.step.Refusal.TheVariants as refusal

-- What ends the pushes of a call: the master is halted, memory ran out, or the fleet takes no more ops. A push for
-- which nothing waits doesn't end them, since another thread made it. Nor does a push that opens a failover, since
-- further pushes end the failover.
abbrev pub StopsPush : Refusal → Type 0
StopsPush refusal.NoMemory = Unit {0}
StopsPush refusal.Halted = Unit {0}
StopsPush refusal.Spent = Unit {0}
StopsPush _ = ⊥

-- What refuses the command of a call. A roll that is due or under way is no reason, nor is an open failover: the call
-- pushes them to their end. A command has nothing to do with passes.
abbrev pub RefusesCall : Refusal → Type 0
RefusesCall refusal.Rolling = ⊥
RefusesCall refusal.Nothing = ⊥
RefusesCall (refusal.Lost backup) = ⊥
RefusesCall (refusal.Pass fault) = ⊥
RefusesCall _ = Unit {0}

-- What refuses the begin of a roll that a command waits for: the same, or that a roll is under way or a failover open.
abbrev pub RefusesRoll : Refusal → Type 0
RefusesRoll refusal.Rolling = Unit {0}
RefusesRoll refusal.Nothing = ⊥
RefusesRoll (refusal.Lost backup) = ⊥
RefusesRoll (refusal.Pass fault) = ⊥
RefusesRoll _ = Unit {0}
