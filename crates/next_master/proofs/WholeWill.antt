-- The will that is one partition over all tablets.
use Rattle.std.proofs.Common.{[], ◌≡◌, ◌∷◌, ℕ, List, Bool, true, false, refl, ap}
use Rattle.std.specs.Prelude.{None, Some, not, if◌then◌else◌, Option}
use Rattle.entry.specs.Tablet.{are_tablets}
use Rattle.cluster.specs.master.master_state.Config.{config_fault, has_backups, has_step, has_seglet, has_segment}
use Rattle.cluster.specs.master.master_state.Config.{has_budget}
use Rattle.cluster.specs.master.master_state.Config.{has_tablets}
use Rattle.cluster.specs.master.master_state.declared.config.ConfigFault.{ConfigFault}
use Rattle.cluster.specs.master.master_state.declared.config.ConfigFault.TheVariants.{BadBackups, BadStep, BadSegment}
use Rattle.cluster.specs.master.master_state.declared.config.ConfigFault.TheVariants.{BadSeglet}
use Rattle.cluster.specs.master.master_state.declared.config.ConfigFault.TheVariants.{BadBudget, BadTablets}
use Rattle.entry.specs.declared.tablet.Tablet.{Tablet}
use Rattle.cluster.specs.master.master_state.declared.config.Config.{Config}
use Rattle.tablet_will.specs.declared.part.Part.{Part}
use Rattle.tablet_will.specs.Rule.{parts_by_rule}
use Rattle.next_master.specs.Configuration.{one_partition}

-- the tablets of a configuration that passes its check
pub valid_tablets : (c : Config) → config_fault c ≡ None → are_tablets c.tablets ≡ true
valid_tablets c passes =
    go (has_backups c) (has_step c) (has_seglet c) (has_segment c) (has_budget c) (has_tablets c) _ passes
  where
    go : (backups step seglet segment budget tablets : Bool) (rest : Option ConfigFault)
        → (if not backups then Some BadBackups
        else if not step then Some BadStep
        else if not seglet then Some BadSeglet
        else if not segment then Some BadSegment
        else if not budget then Some BadBudget
        else if not tablets then Some BadTablets
        else rest) ≡ None → tablets ≡ true
    go false b l g u t rest is = absurd (cc)
    go true false l g u t rest is = absurd (cc)
    go true true false g u t rest is = absurd (cc)
    go true true true false u t rest is = absurd (cc)
    go true true true true false t rest is = absurd (cc)
    go true true true true true false rest is = absurd (cc)
    go true true true true true true rest is = refl

-- without sizes each tablet is one part, of partition 0
pub one_part_each : (bytes objects : ℕ) (tablets : List Tablet)
    → parts_by_rule bytes objects tablets [] ≡ one_partition tablets
one_part_each bytes objects [] = refl
one_part_each bytes objects (t ∷ ts) =
    ap (λ (qs : List Part). record { table = t.table; first = t.first; last = t.last; partition = 0 } ∷ qs)
    (one_part_each bytes objects ts)
