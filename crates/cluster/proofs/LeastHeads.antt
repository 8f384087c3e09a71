-- No line raises a least head of a master with a greater number than the node's.
use Rattle.std.proofs.Common.{◌≡◌, ℕ, ◌≤◌, List, sym, ap, subst, ◌∙◌, arith}
use Rattle.std.specs.Prelude.{Option, Some, None, IfSome, Result}
use Rattle.std.specs.Option.{option_map}
use Rattle.backup.specs.State.{fleet_state, lost}
use Rattle.backup.specs.declared.fleet.MemoryFleet.{MemoryFleet}
use Rattle.replica.specs.Picture.{FleetState}
use Rattle.replica.specs.Take.{limited}
use Rattle.versioned_map.specs.declared.command.Command.{Command}
use Rattle.answers.specs.driving.master.master_state.declared.config.Config.{Config}
use Rattle.answers.specs.driving.master.master_state.declared.step.Refusal.{Refusal}
use Rattle.answers.specs.driving.master.master_state.declared.step.Step.{Step}
use Rattle.answers.specs.driving.master.master_state.Data.{MasterData}
use Rattle.answers.specs.driving.master.Registry.{AreUnraisedAbove}
use Rattle.answers.specs.driving.master.World.{MasterValue, World, world}
use Rattle.answers.specs.declared.answer.Answer.{Answer}
use Rattle.answers.specs.declared.answer.Answer.TheVariants as answer
use Rattle.answers.proofs.of_driving.LeastHeads.{SameLeast, step_least, rolls_leave, cleans_leave, command_leaves}
use Rattle.cluster.specs.declared.node.Node.{Node}
use Rattle.cluster.specs.declared.node.Node.TheVariants.{Up, Down, Changing}
use Rattle.cluster.specs.Lives.{Position}
use Rattle.cluster.specs.Served.{fleet_of, world_of, IsLeftIn, IsNodeAt, MakesStep, MakesRoll, MakesClean, MakesTend}
use Rattle.tending.specs.Low.{usual_for}
use Rattle.tending.proofs.LeastHeads.{tends_leave}
use Rattle.cluster.specs.Served.{CommandRuns, MakesCommand, MakesRun, LosesOne, cleaned}
use Rattle.cluster.specs.Told.{CleanRuns, RollRuns, StepRuns, TendRuns}

-- of each master with a greater number than this any head may be used
abbrev pub IsUnraisedAbove : ℕ → Option FleetState → Type 0
IsUnraisedAbove number o = IfSome o (AreUnraisedAbove number)

-- so of each with a still greater number
pub unraised_more : (used more : ℕ) (o : Option FleetState) → used ≤ more → IsUnraisedAbove used o
    → IsUnraisedAbove more o
unraised_more used more None le are = are
unraised_more used more (Some f) le are = λ m above. are m (omega (arith, le, above))

-- the node's master, if there is one, has no greater number than this
abbrev pub IsUpTo : ℕ → Node → Type 0
IsUpTo number node = IfSome (world_of node) (λ (w : World). w.knows.config.master ≤ number)

-- any head may be used of each master with a greater number than this, if that was so before
abbrev pub StaysUnraised : ℕ → Node → Node → Type 0
StaysUnraised number old new = IsUnraisedAbove number (fleet_of old) → IsUnraisedAbove number (fleet_of new)

-- a node that stands for a master of this configuration has no other
pub stands_up_to : (number : ℕ) (node : Node) (config : Config) (d : MasterData) (at : Position)
    → IsNodeAt node config d at → config.master ≤ number → IsUpTo number node
stands_up_to number (Up m) config d at s below =
    let same = ap (λ (x : MasterData). x.config.master) s.node_of.1 in
    let here = ap (λ (c : Config). c.master) s.configured in
    omega (arith, same, here, below)
stands_up_to number (Down fleet) config d at s below = tt
stands_up_to number Changing config d at s below = tt

-- the fleet of a node that has a master
pub in_world : (node : Node) (w : World) → world_of node ≡ Some w → fleet_of node ≡ Some w.fleet
in_world (Up m) w is = ap (option_map (λ (x : World). x.fleet)) is
in_world (Down fleet) w is = absurd (cc)
in_world Changing w is = absurd (cc)

-- a step, or many, of a master with no greater number
pub made_unraised : (number : ℕ) (old new : World) → old.knows.config.master ≤ number → SameLeast old new
    → AreUnraisedAbove number old.fleet → AreUnraisedAbove number new.fleet
made_unraised number old new below same are =
    λ m above. same m (λ is. absurd (omega (arith, below, above, is))) ∙ are m above

module _ (number : ℕ) where
  -- a node with this fleet
  pub with_fleet : (node : Node) (f : FleetState) → fleet_of node ≡ Some f → AreUnraisedAbove number f
      → IsUnraisedAbove number (fleet_of node)
  with_fleet node f is are = subst (λ (o : Option FleetState). IsUnraisedAbove number o) (sym is) are

  pub same_node : (old new : Node) → new ≡ old → StaysUnraised number old new
  same_node old new is are = subst (λ (n : Node). IsUnraisedAbove number (fleet_of n)) (sym is) are

  pub same_fleet : (old new : Node) → fleet_of new ≡ fleet_of old → StaysUnraised number old new
  same_fleet old new is are = subst (λ (o : Option FleetState). IsUnraisedAbove number o) (sym is) are

  left_unraised : (w : World) (a : Answer) (new : Node) → IsLeftIn w a new → AreUnraisedAbove number w.fleet
      → IsUnraisedAbove number (fleet_of new)
  left_unraised w answer.Stopped new is are = with_fleet new _ is.1 are
  left_unraised w a new is are = with_fleet new w.fleet (in_world new w is) are

  -- ---- what a master makes

  module _ (m : MasterValue MemoryFleet) (w : World) (a : Answer) (new : Node) (is : IsLeftIn w a new)
      (below : IsUpTo number (Up m)) where
    pub made : SameLeast (world fleet_state m) w → StaysUnraised number (Up m) new
    made same are = left_unraised w a new is (made_unraised number (world fleet_state m) w below same are)

  module _ {X : Type 0} (runs : World → Result X Refusal → World → Type 0) (gives : X → Answer)
      (leaves : (old new : World) (r : Result X Refusal) → runs old r new → SameLeast old new) where
    run_made : (old new : Node) (a : Answer) → MakesRun runs gives old new a → IsUpTo number old
        → StaysUnraised number old new
    run_made (Up m) new a is below = made m is.1 a new is.4 below (leaves (world fleet_state m) is.1 is.0 is.2)
    run_made (Down fleet) new a is below = same_node (Down fleet) new is.0
    run_made Changing new a is below = same_node Changing new is.0

  pub step_made : (old : Node) (s : Step) (new : Node) (a : Answer) → MakesStep old s new a → IsUpTo number old
      → StaysUnraised number old new
  step_made old s = run_made (StepRuns s) answer.Step (λ v w r ran. step_least v w s r ran) old

  pub roll_made : (old new : Node) (a : Answer) → MakesRoll old new a → IsUpTo number old → StaysUnraised number old new
  roll_made = run_made RollRuns answer.Head (λ v w r ran. (rolls_leave v w r ran).least)

  pub clean_made : (old : Node) (victims : List ℕ) (new : Node) (a : Answer) → MakesClean old victims new a
      → IsUpTo number old → StaysUnraised number old new
  clean_made old victims = run_made (CleanRuns victims) cleaned (λ v w r ran. (cleans_leave v w victims r ran).least)
      old

  pub tend_made : (old : Node) (steps : ℕ) (new : Node) (a : Answer) → MakesTend old steps new a
      → IsUpTo number old → StaysUnraised number old new
  tend_made old steps = run_made (TendRuns steps) answer.Tended
      (λ v w r ran. (tends_leave (usual_for v.knows.config) steps v w r ran).least) old

  pub command_made : (old : Node) (c : Command) (new : Node) (a : Answer) → MakesCommand old c new a
      → IsUpTo number old → StaysUnraised number old new
  command_made old c = run_made (CommandRuns c) answer.Reply (λ v w r ran. (command_leaves v w c r ran).least) old

  -- ---- what is done to the fleet

  limited_unraised : (n : ℕ) (o : Option FleetState) → IsUnraisedAbove number o
      → IsUnraisedAbove number (option_map (λ (f : FleetState). limited f n) o)
  limited_unraised n None are = tt
  limited_unraised n (Some f) are = are

  pub stops_unraised : (old : Node) (n : ℕ) (new : Node)
      → fleet_of new ≡ option_map (λ (f : FleetState). limited f n) (fleet_of old) → StaysUnraised number old new
  stops_unraised old n new is are = subst (λ (o : Option FleetState). IsUnraisedAbove number o) (sym is)
      (limited_unraised n (fleet_of old) are)

  pub loses_unraised : (old : Node) (backup : ℕ) (new : Node) → LosesOne old backup new → StaysUnraised number old new
  loses_unraised (Up m) backup new is are = same_node (Up m) new is are
  loses_unraised (Down fleet) backup new is are = with_fleet new (lost (fleet_state fleet) backup) is.1 are
  loses_unraised Changing backup new is are = subst (λ (o : Option FleetState). IsUnraisedAbove number o) (sym is.1) tt
