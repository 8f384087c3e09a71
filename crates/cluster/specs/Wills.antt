-- Wills that are made of the live objects.
use Rattle.std.specs.Prelude.{◌≡◌, List, false}
use Rattle.entry.specs.declared.tablet.Size.{Size}
use Rattle.entry.specs.declared.tablet.Tablet.{Tablet}
use Rattle.entry.specs.Meaning.{Contents}
use Rattle.answers.specs.driving.master.master_state.Data.{MasterData}
use Rattle.answers.specs.driving.master.master_state.Log.{state_now}
use Rattle.answers.specs.driving.master.master_state.Sizes.{AreSizesOf}
use Rattle.tablet_will.specs.declared.fault.WillFault.{WillFault}
use Rattle.tablet_will.specs.declared.fault.WillFault.TheVariants.{BadTablets, BadLimits, StraySize, NoMemory}
use Rattle.tablet_will.specs.declared.part.Part.{Part}
use Rattle.tablet_will.specs.Parts.{Divides}
use Rattle.tablet_will.specs.Rule.{parts_by_rule}
use Rattle.tablet_will.specs.Sizes.{are_limits}
use Rattle.answers.specs.declared.limits.Limits.{Limits}

-- the parts are those that the rule makes, by the sizes of all objects in the contents
abbrev pub IsWillOf : List Tablet → Contents → Limits → List Part → Type 0
IsWillOf tablets contents limits parts = (sizes : List Size) × AreSizesOf contents sizes
    × (parts ≡ parts_by_rule limits.bytes limits.objects tablets sizes)

-- The will of a master's live objects was made. It divides the master's tablets.
pub record MakesWill (d : MasterData) (limits : Limits) (parts : List Part) : Type 0 where
  pub rule : IsWillOf d.config.tablets (state_now d).contents limits parts
  pub divides : Divides d.config.tablets parts

-- why a master's will wasn't made: a partition may have nothing, or memory ran out
abbrev pub IsNoWill : Limits → WillFault → Type 0
IsNoWill limits BadTablets = ⊥
IsNoWill limits BadLimits = are_limits limits.bytes limits.objects ≡ false
IsNoWill limits StraySize = ⊥
IsNoWill limits NoMemory = Unit {0}
