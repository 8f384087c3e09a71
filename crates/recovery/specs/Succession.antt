-- Lives one after another: each is ended and recovered, and a new master goes on with what came back.
use Rattle.std.specs.Prelude.{◌≡◌, ℕ, suc, ◌<◌, ◌^◌, ◌-◌, List, [], ◌∷◌, ◌++◌, Result, Ok, Err, None}
use Rattle.replica.specs.Picture.{FleetState}
use Rattle.replica.specs.Retire.{Retires}
use Rattle.replica.specs.declared.op.TakeFault.{TakeFault}
use Rattle.claims.specs.declared.rebuilt.Rebuilt.{Rebuilt}
use Rattle.replay.specs.Adopting.{IsAdopted, IsAdoptedOn, DeclinesList}
use Rattle.replay.specs.master.master_state.declared.config.Config.{Config}
use Rattle.replay.specs.master.master_state.declared.step.Refusal.{Refusal}
use Rattle.replay.specs.master.master_state.declared.step.Step.{Step}
use Rattle.replay.specs.master.master_state.declared.step.StepAnswer.{StepAnswer}
use Rattle.replay.specs.master.master_state.Log.{log_of}
use Rattle.replay.specs.master.Registry.{AreUnraisedAbove}
use Rattle.replay.specs.master.Steps.{IsRun}
use Rattle.replay.specs.master.Valid.{IsValid}
use Rattle.replay.specs.master.World.{World, world}
use Rattle.recovery.specs.declared.recovery.RecoveryFault.{RecoveryFault}
use Rattle.recovery.specs.declared.succession.Course.{Course}
use Rattle.recovery.specs.declared.succession.Lived.{Lived}
use Rattle.recovery.specs.declared.succession.NotAdopted.{NotAdopted}
use Rattle.recovery.specs.declared.succession.NotAdopted.TheVariants as not_adopted
use Rattle.recovery.specs.declared.succession.End.{End}
use Rattle.recovery.specs.declared.succession.End.TheVariants as the_end
use Rattle.recovery.specs.Drilled.{IsDrill}
use Rattle.recovery.specs.Lives.{Life, AreLives}

-- ---- numbers

-- There was no master with a greater number: no backup holds a replica of one, and any of its heads may be used.
pub record IsNewest (master : ℕ) (f : FleetState) : Type 0 where
  pub held : (b m s : ℕ) → master < m → f.picture b m s ≡ None
  pub least : AreUnraisedAbove master f

-- this configuration, for the master with this number
abbrev pub with_number : ℕ → Config → Config
with_number number c = record c { master = number }

-- the configuration of the next master: its number is one more
abbrev pub next_config : Config → Config
next_config c = with_number (suc c.master) c

-- ---- one life

-- a drill with the steps, the kept backups, the will and the order of a course
abbrev pub IsDrillBy : World → Course → List (Result StepAnswer Refusal) → Result Rebuilt RecoveryFault → FleetState
    → Type 0
IsDrillBy start c answers recovered left =
    IsDrill start c.steps.items c.kept.items c.will c.order answers recovered left

-- A new master of this configuration adopted the list on this fleet. Then the replicas of all other masters were
-- freed, or the freeing ended in a fault. A fault of a backup halts the new master.
pub record IsSuccessor (c : Config) (r : Rebuilt) (left : FleetState) (retired : Result Unit TakeFault)
    (next : World) : Type 0 where
  pub adopted : IsAdopted c r next.knows
  -- the fleet before the replicas of other masters were freed
  pub taken : FleetState
  pub on : IsAdoptedOn c.master left taken
  pub retires : Retires taken c.master retired next.fleet
  pub valid : IsValid next.knows next.fleet

-- From this start a life was lived by its course and recovered, and the next master begins with what was recovered.
pub record IsLived (start : World) (course : Course) (lived : Lived) (next : World) : Type 0 where
  pub left : FleetState
  pub drill : IsDrillBy start course lived.answers.items (Ok lived.recovered) left
  pub succeeds : IsSuccessor (next_config start.knows.config) lived.recovered left lived.retired next

-- No new master took over the list: there is no greater number, or the adoption was refused.
abbrev pub IsNotAdopted : Config → Rebuilt → FleetState → NotAdopted → FleetState → Type 0
IsNotAdopted c r left not_adopted.NumbersSpent new = (c.master ≡ 2 ^ 64 - 1) × (new ≡ left)
IsNotAdopted c r left (not_adopted.Refused why) new = DeclinesList (next_config c) r left why new

-- Why this life is the last that was tried: there was no memory to begin it, its recovery was refused, or no master
-- took over what was recovered.
abbrev pub IsLast : {F : Type 0} → (F → FleetState) → World → Course → End F → Type 0
IsLast state start c (the_end.Up m) = ⊥
IsLast state start c (the_end.NoMemory m) = world state m ≡ start
IsLast state start c (the_end.NotRecovered d) = (why : RecoveryFault) × (d.recovered ≡ Err why)
    × IsDrillBy start c d.answers.items d.recovered (state d.fleet)
IsLast state start c (the_end.NotAdopted d why) = (r : Rebuilt) × (d.recovered ≡ Ok r)
    × (left : FleetState) × IsDrillBy start c d.answers.items d.recovered left
    × IsNotAdopted start.knows.config r left why (state d.fleet)

-- ---- many lives

-- the courses were lived one after another: the first life began with `start`, and the life after them begins with
-- `last`
abbrev pub AreLived : World → List Course → List Lived → World → Type 0
AreLived start [] [] last = last ≡ start
AreLived start (c ∷ cs) (l ∷ ls) last = (next : World) × IsLived start c l next × AreLived next cs ls last
AreLived start [] (l ∷ ls) last = ⊥
AreLived start (c ∷ cs) [] last = ⊥

-- how the row of lives ends: with the next master if no course is left, or else with the reason why the first course
-- that is left was the last to be tried
abbrev pub EndsIn : {F : Type 0} → (F → FleetState) → World → List Course → End F → Type 0
EndsIn state last [] (the_end.Up m) = world state m ≡ last
EndsIn state last [] _ = ⊥
EndsIn state last (c ∷ cs) e = IsLast state last c e

-- The first of the courses were lived, one after another, and the row of lives ended before the rest.
pub record AreDrilled {F : Type 0} (state : F → FleetState) (start : World) (courses : List Course) (lived : List Lived)
    (ended : End F) : Type 0 where
  pub done : List Course
  pub rest : List Course
  pub parts : courses ≡ done ++ rest
  pub last : World
  pub lives : AreLived start done lived last
  pub ends : EndsIn state last rest ended

-- ---- a law

-- the log of a life that was lived, and what was recovered of it
abbrev pub life_of : (start : World) (c : Course) (l : Lived) (next : World) → IsLived start c l next → Life
life_of start c l next is =
    record { log = log_of is.drill.stop.knows; recovered = l.recovered; found = is.drill.prefix }

abbrev pub lives_of : (start : World) (cs : List Course) (ls : List Lived) (last : World) → AreLived start cs ls last
    → List Life
lives_of start [] [] last are = []
lives_of start (c ∷ cs) (l ∷ ls) last are = life_of start c l are.0 are.1 ∷ lives_of are.0 cs ls last are.2
lives_of start [] (l ∷ ls) last are = []
lives_of start (c ∷ cs) [] last are = []

-- Lives that were lived one after another each begin with what was recovered of the one before. The life that goes on
-- also does, whatever steps it takes.
abbrev pub DrilledAreLives : Type 0
DrilledAreLives = (start : World) (cs : List Course) (ls : List Lived) (last : World) (are : AreLived start cs ls last)
    → (steps : List Step) (answers : List (Result StepAnswer Refusal)) (now : World) → IsRun last steps answers now
    → AreLives (lives_of start cs ls last are) (log_of now.knows)
