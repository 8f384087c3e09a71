-- The objects of a table, and what is told of them.
use Rattle.std.proofs.Common.{ℕ, List, sym, ap, ◌∙◌, subst, take}
use Rattle.std.proofs.Math.Seq.{take-length}
use Rattle.entry.specs.declared.entry.Object.{Object}
use Rattle.versioned_map.specs.History.{commands_of}
use Rattle.versioned_map.specs.Versioned.{after}
use Rattle.versioned_map.specs.declared.command.Record.{Record}
use Rattle.answers.specs.driving.master.master_space.Objects.{AreObjectsOf}
use Rattle.answers.specs.driving.master.master_state.declared.config.Config.{Config}
use Rattle.answers.specs.driving.master.master_state.Data.{MasterData}
use Rattle.answers.specs.driving.master.master_state.Log.{opening_of, state_now}
use Rattle.cluster.specs.declared.node.Node.{Node}
use Rattle.cluster.specs.Lives.{life_to, Position}
use Rattle.cluster.specs.Served.{IsNodeAt, life_of}
use Rattle.cluster.specs.Looks.{AreListedAt}

-- the objects of a master's map are those of its life
pub listed_at : (node : Node) (config : Config) (d : MasterData) (at : Position) (table : ℕ) (objects : List Object)
    → IsNodeAt node config d at
    → AreObjectsOf (state_now d).contents table objects → AreListedAt (life_to (life_of d) at.made) table objects
listed_at node config d at table objects s are =
    subst (λ (h : List Record). AreObjectsOf (after (opening_of d) (commands_of h)).contents table objects)
    (sym (ap (λ (n : ℕ). take n d.history) s.made ∙ take-length d.history)) are
