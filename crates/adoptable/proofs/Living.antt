-- Lives that follow a master that keeps its limit keep it too, and what is recovered of them is adopted.
use Rattle.std.proofs.Common.{◌≡◌, List, [], ◌∷◌, refl, sym, subst, ◌∙◌}
use Rattle.std.specs.Prelude.{Result, Ok}
use Rattle.claims.specs.declared.rebuilt.Rebuilt.{Rebuilt}
use Rattle.replica.specs.Picture.{FleetState}
use Rattle.replay.specs.Adopting.{DeclinesList}
use Rattle.replay.specs.master.master_state.declared.config.Config.{Config}
use Rattle.replay.specs.master.master_state.declared.step.Refusal.{Refusal}
use Rattle.replay.specs.master.master_state.declared.step.StepAnswer.{StepAnswer}
use Rattle.replay.specs.master.master_state.Config.{config_fault, has_live}
use Rattle.replay.specs.master.master_state.Log.{log_of}
use Rattle.replay.specs.master.World.{World}
use Rattle.recovery.specs.declared.succession.Course.{Course}
use Rattle.recovery.specs.declared.succession.Lived.{Lived}
use Rattle.recovery.specs.declared.drill.Drill.{Drill}
use Rattle.recovery.specs.declared.recovery.RecoveryFault.{RecoveryFault}
use Rattle.recovery.specs.declared.succession.End.{End}
use Rattle.recovery.specs.declared.succession.End.TheVariants as the_end
use Rattle.recovery.specs.declared.succession.NotAdopted.{NotAdopted}
use Rattle.recovery.specs.declared.succession.NotAdopted.TheVariants as not_adopted
use Rattle.recovery.specs.Succession.{IsDrillBy, IsLived, EndsIn, next_config}
use Rattle.recovery.proofs.Drilling.{run_keeps}
use Rattle.adoptable.specs.Laws.{LivesKeepLimit, RecoveriesFit, EndsFit, DrilledFit, IsNotForTable}
use Rattle.adoptable.specs.Limit.{HasLimit, IsAdmitted, IsWithin, KeepsLimit}
use Rattle.adoptable.proofs.Refusing.{recovered_fits, within_is_adopted}
use Rattle.adoptable.proofs.Starting.{adopted_keeps_limit}
use Rattle.adoptable.proofs.Stepping.{run_keeps_limit}

-- ---- the next configuration

-- it is as valid
next_valid : (c : Config) → config_fault (next_config c) ≡ config_fault c
unfolding has_live
next_valid c = refl

next_limit : (c : Config) → HasLimit c → HasLimit (next_config c)
next_limit c limit = record { valid = next_valid c ∙ limit.valid; limited = limit.limited }

-- ---- one life

module _ (start : World) (course : Course) (answers : List (Result StepAnswer Refusal)) (r : Rebuilt)
    (left : FleetState) (keeps : KeepsLimit start.knows) (drill : IsDrillBy start course answers (Ok r) left) where
  ended : KeepsLimit drill.stop.knows
  ended = run_keeps_limit start drill.stop course.steps.items answers drill.run keeps

  admitted : IsAdmitted start.knows.config (log_of drill.stop.knows)
  admitted = subst (λ (c : Config). IsAdmitted c (log_of drill.stop.knows))
      (run_keeps start drill.stop course.steps.items answers drill.run) ended.admitted

  -- what comes back is within the limit of the next master
  next_within : IsWithin (next_config start.knows.config) r.objects
  next_within =
      let fits = recovered_fits start.knows.config (log_of drill.stop.knows) r keeps.limit admitted drill.prefix in
      let within = fits.0 in record { sum = within.sum; allowed = within.allowed }

life_keeps : (start next : World) (course : Course) (l : Lived) → IsLived start course l next
    → KeepsLimit start.knows → KeepsLimit next.knows
life_keeps start next course l is keeps =
    adopted_keeps_limit (next_config start.knows.config) l.recovered next.knows
    (next_limit start.knows.config keeps.limit)
    (next_within start course l.answers.items l.recovered is.left keeps is.drill) is.succeeds.adopted

-- ---- lives

pub lives_keep_limit : LivesKeepLimit
lives_keep_limit start last [] [] are keeps = subst (λ (w : World). KeepsLimit w.knows) (sym are) keeps
lives_keep_limit start last [] (l ∷ ls) are keeps = absurd are
lives_keep_limit start last (c ∷ cs) [] are keeps = absurd are
lives_keep_limit start last (c ∷ cs) (l ∷ ls) are keeps =
    lives_keep_limit are.0 last cs ls are.2 (life_keeps start are.0 c l are.1 keeps)

-- a life from a master that keeps its limit
fits : (start : World) (course : Course) (answers : List (Result StepAnswer Refusal)) (r : Rebuilt)
    (left new : FleetState) (why : Refusal) → KeepsLimit start.knows → IsDrillBy start course answers (Ok r) left
    → DeclinesList (next_config start.knows.config) r left why new → IsNotForTable left why new
fits start course answers r left new why keeps drill declines =
    within_is_adopted (next_config start.knows.config) r left new why (next_limit start.knows.config keeps.limit)
    (next_within start course answers r left keeps drill) declines

pub recoveries_fit : RecoveriesFit
recoveries_fit start last courses lived course answers r left new why keeps are drill declines =
    fits last course answers r left new why (lives_keep_limit start last courses lived are keeps) drill declines

-- ---- what a row of lives ends in

module _ {F : Type 0} (state : F → FleetState) (last : World) (keeps : KeepsLimit last.knows) where
  not_adopted_fits : (c : Course) (cs : List Course) (d : Drill F) (why : NotAdopted)
      → (ends : EndsIn state last (c ∷ cs) (the_end.NotAdopted d why))
      → EndsFit state last (c ∷ cs) (the_end.NotAdopted d why) ends
  not_adopted_fits c cs d not_adopted.NumbersSpent ends = tt
  not_adopted_fits c cs d (not_adopted.Refused why) ends =
      fits last c d.answers.items ends.0 ends.2 (state d.fleet) why keeps
      (subst (λ (x : Result Rebuilt RecoveryFault). IsDrillBy last c d.answers.items x ends.2) ends.1 ends.3) ends.4

  ends_fit : (rest : List Course) (e : End F) (ends : EndsIn state last rest e) → EndsFit state last rest e ends
  ends_fit [] e ends = tt
  ends_fit (c ∷ cs) (the_end.Up m) ends = tt
  ends_fit (c ∷ cs) (the_end.NoMemory m) ends = tt
  ends_fit (c ∷ cs) (the_end.NotRecovered d) ends = tt
  ends_fit (c ∷ cs) (the_end.NotAdopted d why) ends = not_adopted_fits c cs d why ends

pub drilled_fit : {F : Type 0} (state : F → FleetState) → DrilledFit state
drilled_fit state start courses lived ended are keeps =
    let now = lives_keep_limit start are.last are.done lived are.lives keeps in
    (now, ends_fit state are.last now are.rest ended are.ends)
