-- The coordinator's will, and what is told of it.
use Rattle.std.proofs.Common.{◌≡◌, ◌∙◌, ℕ, List, refl, sym, ap, subst, inl, take}
use Rattle.answers.specs.driving.master.master_state.Log.{opening_of}
use Rattle.versioned_map.specs.History.{commands_of}
use Rattle.versioned_map.specs.declared.command.Record.{Record}
use Rattle.versioned_map.specs.Versioned.{after}
use Rattle.answers.specs.driving.master.master_state.declared.config.Config.{Config}
use Rattle.answers.specs.driving.master.master_state.Data.{MasterData}
use Rattle.tablet_will.specs.declared.part.Part.{Part}
use Rattle.std.proofs.Math.Seq.{take-length}
use Rattle.answers.specs.driving.master.master_state.Sizes.{AreSizesOf}
use Rattle.tablet_will.specs.Rule.{parts_by_rule}
use Rattle.cluster.specs.declared.node.Node.{Node}
use Rattle.answers.specs.declared.limits.Limits.{Limits}
use Rattle.cluster.specs.Lives.{life_to, Position}
use Rattle.cluster.specs.Served.{DividesAnew, IsNodeAt, life_of}
use Rattle.cluster.specs.Looks.{IsWillAt}
use Rattle.cluster.specs.Wills.{MakesWill}

-- ---- a will that stays

pub same_divided : (node : Node) (old new : List Part) → new ≡ old → DividesAnew node old new
same_divided node old new is config d at s = inl is

pub stays_divided : (node : Node) (will : List Part) → DividesAnew node will will
stays_divided node will config d at s = inl refl

-- ---- the parts of a will

-- the will of a master's objects is that of its life
pub will_at : (node : Node) (config : Config) (d : MasterData) (at : Position) (limits : Limits) (parts : List Part)
    → IsNodeAt node config d at
    → MakesWill d limits parts → IsWillAt config (life_to (life_of d) at.made) limits parts
will_at node config d at limits parts s made = (
  made.rule.0,
  subst (λ (h : List Record). AreSizesOf (after (opening_of d) (commands_of h)).contents made.rule.0)
      (sym (ap (λ (n : ℕ). take n d.history) s.made ∙ take-length d.history)) made.rule.1,
  made.rule.2 ∙ ap (λ (c : Config). parts_by_rule limits.bytes limits.objects c.tablets made.rule.0) s.configured,
)
