-- What lines tell of a recovery: the table that is rebuilt, what its adoption needs, and why there is none.
use Rattle.std.specs.Prelude.{◌≡◌, ◌⊎◌, ℕ, ◌<◌, List, Option, Some, None}
use Rattle.entry.specs.Meaning.{IsMeaning, among, contents_of}
use Rattle.lines.specs.Grammar.{LineValue, Recover, Needs}
use Rattle.lines.specs.declared.line.ReplayOrder.{ReplayOrder}
use Rattle.replica.specs.Choice.{Choice, IsShownChoice, bag_of}
use Rattle.replica.specs.declared.holding.Holding.{Holding}
use Rattle.replica.specs.Picture.{FleetState, left_on, survivors}
use Rattle.replica.specs.Survival.{BothSurvive}
use Rattle.versioned_map.specs.Versioned.{after}
use Rattle.answers.specs.driving.master.master_state.declared.config.Config.{Config}
use Rattle.answers.specs.driving.master.master_state.declared.step.Refusal.{Refusal}
use Rattle.answers.specs.claims.declared.rebuilt.Rebuilt.{Rebuilt}
use Rattle.answers.specs.recovery.declared.recovery.RecoveryFault.{RecoveryFault}
use Rattle.answers.specs.recovery.declared.recovery.RecoveryFault.TheVariants as recovery_fault
use Rattle.answers.specs.recovery.Headline.{IsLoss, IsMapAfter, IsNoMemory}
use Rattle.answers.specs.recovery_plan.Planned.{IsPlanFault, NamesLoss}
use Rattle.cluster.specs.Lives.{Life, life_to, Left, is_left, IsHomeOf, Position}
use Rattle.answers.specs.replay.Adopting.{DeclinesList}
use Rattle.answers.specs.replay.Needs.{IsNeeded, NoneIsEnough}
use Rattle.cluster.specs.Looks.{AreLeft}

-- the table is the map after a prefix of the commands that the lines have made, with each acknowledged one in it
abbrev pub IsRecoveredAt : Life → Position → Rebuilt → Type 0
IsRecoveredAt life at r = IsMapAfter life.opening (life_to life at.made).history at.acknowledged r

-- the objects are those of a log that is chosen from what the backups still hold
abbrev pub IsOfLeft : Config → Left → Rebuilt → Type 0
IsOfLeft config l r = (c : Choice) × IsShownChoice (survivors (is_left l.lost) l.shown) config.master c
    × IsMeaning (among (bag_of c)) (contents_of r.objects)

-- the line asks for a recovery, in some order
abbrev pub IsRecover : LineValue → Type 0
IsRecover line = (order : ReplayOrder) × (line ≡ Recover order)

-- the line asks what a recovery finds: it asks for a recovery, or for what a new master needs after one
abbrev pub AsksTable : LineValue → Type 0
AsksTable line = IsRecover line ⊎ (line ≡ Needs)

-- a recovery of what is left gives this table
abbrev pub IsFoundAt : Config → Life → Position → Left → Rebuilt → Type 0
IsFoundAt config life at l r = IsRecoveredAt life at r × IsOfLeft config l r

-- The same configuration, for a master with a greater number. It writes the same format or format 2, and may have
-- another number of seglets.
abbrev pub IsNextConfig : Config → Config → Type 0
IsNextConfig old new = (old.master < new.master) × ((new.format ≡ old.format) ⊎ (new.format ≡ 2))
    × (new ≡ record old { master = new.master; format = new.format; seglets = new.seglets })

-- of the master's replicas the fleet holds just what is left
abbrev pub HoldsLeft : Config → Left → FleetState → Type 0
HoldsLeft config l f =
    (b s : ℕ) → f.picture b config.master s ≡ left_on (is_left l.lost) l.shown.holds b config.master s

-- A master of the new configuration doesn't adopt the table, over a fleet that holds what is left of the old one.
abbrev pub IsListDeclined : Config → Left → Config → Rebuilt → Refusal → Type 0
IsListDeclined config l new table r =
    (before after : FleetState) × HoldsLeft config l before × DeclinesList new table before r after

-- The table was recovered, and no master adopted it, for this refusal. What is left of the old master stays.
abbrev pub IsUnadopted : Config → Life → Position → LineValue → Refusal → Position → Type 0
IsUnadopted config life at line r next = IsRecover line × ((l : Left) × (at.left ≡ Some l)
    × (table : Rebuilt) × IsFoundAt config life at l table
    × (new : Config) × IsNextConfig config new × IsListDeclined config l new table r)
    × (next ≡ at)

-- A new master of this configuration needs so many seglets to adopt the table, or no number is enough.
abbrev pub NeedsFor : Config → Rebuilt → Option ℕ → Type 0
NeedsFor config table (Some needed) = IsNeeded config table.objects needed
NeedsFor config table None = NoneIsEnough config table.objects

-- A recovery of what is left gives a table, and this is what a new master needs to adopt it.
abbrev pub IsNeededAt : Config → Life → Position → Left → Option ℕ → Type 0
IsNeededAt config life at l needed = (table : Rebuilt) × IsFoundAt config life at l table
    × (new : Config) × IsNextConfig config new × NeedsFor new table needed

-- What the backups that are left hold of the master has this fault, and the loss that is named hides the log.
abbrev pub NamesLossOf : Config → Left → RecoveryFault → Type 0
NamesLossOf config l (recovery_fault.Plan loss) = (hs : List Holding) × AreLeft config l hs
    × IsPlanFault hs l.shown.least config.master loss × NamesLoss hs l.shown.least config.master loss
NamesLossOf config l (recovery_fault.Replay refused) = ⊥

-- what the refusal names is lost, or memory ran out; if the backups that are left have head and segments, memory ran
-- out
abbrev pub IsLossOf : Config → Left → RecoveryFault → Type 0
IsLossOf config l e = (IsLoss e ⊎ IsNoMemory e) × (IsNoMemory e ⊎ NamesLossOf config l e)
    × (BothSurvive (IsHomeOf l) l.opened l.shown config.master (is_left l.lost) → IsNoMemory e)
