-- Lines of steps that make no record, told of a master's life.
use Rattle.std.proofs.Common.{[], ◌≡◌, ℕ, true, List, refl, sym, ap, subst, inl, inr, ◌∙◌}
use Rattle.std.proofs.lemmas.List.{append-nil}
use Rattle.std.specs.Prelude.{Option, Some, None, IfSome, Result, Ok, Err, IfOk, OnErr}
use Rattle.std.specs.Option.{option_map}
use Rattle.lines.specs.Grammar.{LineValue, Roll, Clean, Tend}
use Rattle.lines.specs.Grammar.{Holdings}
use Rattle.std.specs.declared.alloc.AllocError.{AllocError}
use Rattle.answers.specs.driving.master.cleaner.declared.survivors.Survivors.{Survivors}
use Rattle.replica.specs.declared.label.Label.{Label}
use Rattle.backup.specs.Inventory.{AreRising}
use Rattle.backup.specs.State.{HoldsAny, fleet_state}
use Rattle.backup.specs.declared.fleet.MemoryFleet.{MemoryFleet}
use Rattle.replica.specs.Picture.{FleetState, AreLabelsOf}
use Rattle.replica.specs.Take.{limited, no_limit}
use Rattle.answers.specs.driving.master.master_state.declared.config.Config.{Config}
use Rattle.answers.specs.driving.master.master_state.declared.step.Refusal.{Refusal}
use Rattle.answers.specs.driving.master.master_state.declared.step.Refusal.TheVariants as refusal
use Rattle.answers.specs.driving.master.master_state.Data.{MasterData}
use Rattle.answers.specs.driving.master.World.{MasterValue, World, world}
use Rattle.answers.specs.driving.master.Valid.{IsValid}
use Rattle.answers.specs.declared.answer.Answer.{Answer}
use Rattle.answers.specs.declared.answer.Answer.TheVariants as answer
use Rattle.cluster.specs.declared.node.Node.{Node}
use Rattle.cluster.specs.declared.node.Node.TheVariants.{Up}
use Rattle.cluster.specs.Lives.{Life, life_to, HasLived, Left, IsLeftBySpent, Position}
use Rattle.answers.specs.driving.Served.{LivesOn, IsSpent}
use Rattle.cluster.specs.Served.{AnswersLine, IsOf, IsNodeAt, MakesRun, Refuses, cleaned, fleet_of, life_of}
use Rattle.cluster.specs.Served.{held_answer}
use Rattle.cluster.specs.Served.{IsLeftIn, ShowsFleet, refusal_answer, world_of}
use Rattle.cluster.specs.Told.{CleanRuns, IsRunAt, IsStepRefusal, RollRuns, TendRuns, is_for_master, pushes}
use Rattle.cluster.specs.Told.{TellsNoStep, Tells}
use Rattle.cluster.specs.Looks.{AreHeldAt}
use Rattle.cluster.proofs.Rolls.{no_step_told}
use Rattle.cluster.proofs.Standing.{Answered, still_stands, lived, lived_longer}

-- ---- a master that goes on

module _ (d e : MasterData) (old new : Node) (config : Config) (at : Position) (s : IsNodeAt old config d at)
    (none : at.left ≡ None)
    (of : IsOf new None e) (f g : FleetState) (valid : IsValid d f) (now : IsValid e g) (on : LivesOn d e []) where
  pub stays : IsNodeAt new config e at
  stays =
      let same : record { made = at.made; acknowledged = at.acknowledged; left = None } ≡ at =
      λ i. record { made = at.made; acknowledged = at.acknowledged; left = sym none i } in
      subst (λ (p : Position). IsNodeAt new config e p) same (still_stands d e old new config at None of s on)

  before : HasLived config (life_to (life_of e) at.made) d f
  before = lived d e old new config at None of s f valid on.origin [] on.history

  after : HasLived config (life_to (life_of e) at.made) e g
  after = lived_longer d e old new config at None of s g now at.made stays.configured stays.made

  pub run_at : {X : Type 0} (runs : World → Result X Refusal → World → Type 0) (r : Result X Refusal)
      → runs (record { knows = d; fleet = f }) r (record { knows = e; fleet = g })
      → IsRunAt runs config (life_to (life_of e) at.made) r
  run_at runs r ran = (record { knows = d; fleet = f }, record { knows = e; fleet = g }, before, after, ran)

-- ---- a step that is refused

no_step_tells : (config : Config) (life : Life) (at : Position) (line : LineValue) (a : Answer) (next : Position)
    → is_for_master line ≡ true
    → TellsNoStep config life at line a next → Tells config life at line a next
no_step_tells config life at line (answer.Refused r) next up t = inl (t.0, inr t)
no_step_tells config life at line answer.Stopped next up t = inl (
  t.0,
  t.1,
  subst (λ n. IsLeftBySpent config (life_to life n) t.1) (sym (ap (λ (p : Position). p.made) t.4)) t.2,
  inr (inr (inl (t.3, t.4))),
)
no_step_tells config life at line answer.Down next up t = (t.0, up, t.1)
no_step_tells config life at line a next up t = absurd t

-- a step or a roll that a master refuses
pub no_step_answered : (d e : MasterData) (old mid new : Node) (config : Config) (at : Position)
    → IsNodeAt old config d at → at.left ≡ None
    → (line : LineValue) → is_for_master line ≡ true
    → (r : Refusal) (a : Answer) (g : FleetState) → IsOf mid None e → fleet_of mid ≡ Some g → IsValid e g
    → (r ≡ refusal.Spent → IsSpent g) → (r ≡ refusal.Spent → pushes line ≡ true) → LivesOn d e []
    → IsStepRefusal config (life_to (life_of e) at.made) line r → Refuses mid r new a → Answered d new config at line a
no_step_answered d e old mid new config at s none line up r a g of fleet now spent may on why gives =
    let t = no_step_told d e old mid new config at s none line r a g of fleet now spent may on why gives in (
      t.0,
      t.1,
      t.2,
      ([], t.3.0, t.3.1 ∙ sym (append-nil d.history)),
      no_step_tells config (life_of t.0) at line a t.1 up t.4,
    )

-- ---- what a refusal leaves

pub unspent_answer : (r : Refusal) → (r ≡ refusal.Spent → ⊥) → refusal_answer r ≡ answer.Refused r
unspent_answer refusal.Spent unspent = absurd (unspent refl)
unspent_answer r unspent = refl

pub refused_left : (mid new : Node) (w : World) (r : Refusal) (a : Answer) → world_of mid ≡ Some w
    → fleet_of mid ≡ Some w.fleet → Refuses mid r new a
    → (a ≡ refusal_answer r) × IsLeftIn w a new
refused_left mid new w r a up fleet (inl (is, unspent, same)) =
    (is ∙ sym (unspent_answer r unspent), subst (λ (x : Answer). IsLeftIn w x new) (sym is) (ap world_of same ∙ up))
refused_left mid new w r a up fleet (inr (is, spent, dropped, (down, lifted))) = (
  is ∙ ap refusal_answer (sym spent),
  subst (λ (x : Answer). IsLeftIn w x new) (sym is) (
    down,
    lifted
        ∙ ap (λ (o : Option FleetState). option_map (λ (f : FleetState). limited f no_limit) o) fleet,
  ),
)

-- ---- a run of steps, and what is told of it

-- what is told of a line that asks for this run
pub record IsLineOf (X : Type 0) (runs : World → Result X Refusal → World → Type 0) (gives : X → Answer)
    (line : LineValue) : Type 0 where
  pub up : is_for_master line ≡ true
  pub made : (config : Config) (life : Life) (at : Position) → at.left ≡ None → (x : X)
      → IsRunAt runs config (life_to life at.made) (Ok x) → Tells config life at line (gives x) at
  pub refused : (config : Config) (life : Life) (r : Refusal) → IsRunAt runs config life (Err r)
      → IsStepRefusal config life line r

-- what the run makes of the node
module _ (X : Type 0) (runs : World → Result X Refusal → World → Type 0) (gives : X → Answer) (node : Node)
    (up m : MasterValue MemoryFleet) (there : node ≡ Up up) where
  pub run_makes : (x : X) → runs (world fleet_state up) (Ok x) (world fleet_state m)
      → IsLeftIn (world fleet_state m) (gives x) (Up m) → MakesRun runs gives node (Up m) (gives x)
  run_makes x ran left =
      subst (λ (n : Node). MakesRun runs gives n (Up m) (gives x)) (sym there)
      (Ok x, world fleet_state m, ran, refl, left)

  pub run_refused : (r : Refusal) → runs (world fleet_state up) (Err r) (world fleet_state m)
      → (new : Node) (a : Answer)
      → Refuses (Up m) r new a → MakesRun runs gives node new a
  run_refused r ran new a refuses =
      let left = refused_left (Up m) new (world fleet_state m) r a refl refl refuses in
      subst (λ (n : Node). MakesRun runs gives n new a) (sym there)
      (Err r, world fleet_state m, ran, left.0, left.1)

  -- what its line tells of the master's life, if the master goes on without a record
  module _ (line : LineValue) (is : IsLineOf X runs gives line) (now : IsValid m.knows (fleet_state m.fleet))
      (goes_on : LivesOn up.knows m.knows []) where
    module _ (config : Config) (d : MasterData) (at : Position) (s : IsNodeAt node config d at) where
      was : IsOf (Up up) at.left d
      was = subst (λ (n : Node). IsOf n at.left d) there s.node_of

      on : LivesOn d m.knows []
      on = subst (λ (x : MasterData). LivesOn x m.knows []) was.1 goes_on

      told_at : (r : Result X Refusal) → runs (world fleet_state up) r (world fleet_state m)
          → IsRunAt runs config (life_to (life_of m.knows) at.made) r
      told_at r ran = run_at d m.knows node (Up m) config at s was.0 (refl, refl, now) (fleet_state up.fleet)
          (fleet_state m.fleet) was.2 now on runs r
          (subst (λ (x : MasterData). runs (record { knows = x; fleet = fleet_state up.fleet }) r (world fleet_state m))
          was.1 ran)

    pub run_told : (x : X) → runs (world fleet_state up) (Ok x) (world fleet_state m) → (config : Config)
        → AnswersLine node config line (Up m) (gives x)
    run_told x ran config d at s =
        let old = was config d at s in
        let goes = on config d at s in (
          m.knows,
          at,
          stays d m.knows node (Up m) config at s old.0 (refl, refl, now) (fleet_state up.fleet)
              (fleet_state m.fleet) old.2 now goes,
          ([], goes.origin, goes.history),
          is.made config (life_of m.knows) at old.0 x (told_at config d at s (Ok x) ran),
        )

    pub refusal_told : (r : Refusal) → runs (world fleet_state up) (Err r) (world fleet_state m)
        → (r ≡ refusal.Spent → IsSpent (fleet_state m.fleet)) → (r ≡ refusal.Spent → pushes line ≡ true)
        → (new : Node) (a : Answer) → Refuses (Up m) r new a → (config : Config) → AnswersLine node config line new a
    refusal_told r ran spent may new a refuses config d at s = no_step_answered d m.knows node (Up m) new config at s
        (was config d at s).0 line is.up r a (fleet_state m.fleet) (refl, refl, now) refl now spent may
        (on config d at s)
        (is.refused config (life_to (life_of m.knows) at.made) r (told_at config d at s (Err r) ran)) refuses

-- the lines of a roll, of a cleaning, and of steps of the cleaner
pub of_roll : IsLineOf ℕ RollRuns answer.Head Roll
of_roll = record {
  up = refl;
  made = λ config life at none x ran. (none, refl, ran, refl);
  refused = λ config life r ran. ran;
}

pub of_clean : (victims : List ℕ) → IsLineOf (Survivors × ℕ) (CleanRuns victims) cleaned (Clean victims)
of_clean victims = record {
  up = refl;
  made = λ config life at none x ran. (none, (victims, refl, ran), refl);
  refused = λ config life r ran. ran;
}

pub of_tend : (steps : ℕ) → IsLineOf ℕ (TendRuns steps) answer.Tended (Tend steps)
of_tend steps = record {
  up = refl;
  made = λ config life at none x ran. (none, (steps, refl, ran), refl);
  refused = λ config life r ran. ran;
}

-- ---- what backups hold

-- what is shown is all that the fleet holds, or it holds something
pub held_shows : (node : Node) (f : FleetState) (result : Result (List Label) AllocError) → fleet_of node ≡ Some f
    → IfOk result (AreLabelsOf f.picture) → OnErr result (HoldsAny f.picture) → ShowsFleet node (held_answer result)
held_shows node f (Err fault) fleet shown some =
    subst (λ (o : Option FleetState). IfSome o (λ (x : FleetState). HoldsAny x.picture)) (sym fleet) some
held_shows node f (Ok labels) fleet shown some =
    subst (λ (o : Option FleetState). IfSome o (λ (x : FleetState). AreLabelsOf x.picture labels)) (sym fleet) shown

-- what the fleet of a master holds is shown, or memory ran out
pub held_up : (config : Config) (life : Life) (at : Position) (result : Result (List Label) AllocError)
    (d : MasterData) (f : FleetState) → at.left ≡ None
    → HasLived config (life_to life at.made) d f → IfOk result (AreLabelsOf f.picture) → IfOk result AreRising
    → Tells config life at Holdings (held_answer result) at
held_up config life at (Err fault) d f none has shown rising = inr (inl (refl, refl, refl))
held_up config life at (Ok labels) d f none has shown rising = (
  refl,
  subst (λ (o : Option Left). AreHeldAt config (life_to life at.made) o labels) (sym none)
      (d, f, has, shown),
  rising,
  refl,
)
