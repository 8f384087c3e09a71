-- A session whose master forgets behind a line.
use Rattle.std.proofs.Common.{◌≡◌, ℕ, ◌≤◌, Bool, true, false, refl, sym, ap, subst}
use Rattle.std.specs.Prelude.{Option, IfSome}
use Rattle.replica.specs.Picture.{FleetState}
use Rattle.next_master.specs.master.master_state.declared.config.Config.{Config}
use Rattle.next_master.specs.master.master_state.Data.{MasterData}
use Rattle.next_master.specs.master.Registry.{AreUnraisedAbove}
use Rattle.next_master.specs.Configuration.{config_of, MayBegin}
use Rattle.next_master.specs.cluster.declared.node.Node.{Node}
use Rattle.next_master.specs.cluster.declared.node.Node.TheVariants.{Up, Down, Changing}
use Rattle.next_master.specs.cluster.Forgetting.{ForgetsDurable}
use Rattle.next_master.specs.cluster.Lives.{Life, Position}
use Rattle.next_master.specs.cluster.Served.{IsNodeAt, fleet_of, life_of}
use Rattle.next_master.proofs.of_cluster.Standing.{same_opening}
use Rattle.script.specs.declared.session.Session.{Session}
use Rattle.script.specs.Sessions.{AreLaterUnraised, Forgets, IsCovered}

-- a master that forgets leaves its fleet as it is
durable_fleet : (old new : Node) → ForgetsDurable old new → fleet_of new ≡ fleet_of old
durable_fleet (Up m) new f = ap fleet_of f.2
durable_fleet (Down fleet) new same = ap fleet_of same
durable_fleet Changing new same = ap fleet_of same

module _ (mid new : Session) (f : Forgets mid new) where
  pub same_config : config_of new.options new.master ≡ config_of mid.options mid.master
  same_config = ap (λ (s : Session). config_of s.options s.master) f.rest

  pub same_set : (format seglets : ℕ) → record new.options { format = format; seglets = seglets }
      ≡ record mid.options { format = format; seglets = seglets }
  same_set format seglets =
      ap (λ (s : Session). record s.options { format = format; seglets = seglets }) f.rest

  pub still_covered : IsCovered mid → IsCovered new
  still_covered covers = subst IsCovered (sym f.rest) covers

  pub still_begins : MayBegin mid.later mid.options → MayBegin new.later new.options
  still_begins begins = subst (λ (s : Session). MayBegin s.later s.options) (sym f.rest) begins

  pub still_numbered : mid.master ≤ mid.used → new.master ≤ new.used
  still_numbered within = subst (λ (s : Session). s.master ≤ s.used) (sym f.rest) within

  same_fleet : (b : Bool) → mid.options.forget ≡ b → fleet_of new.node ≡ fleet_of mid.node
  same_fleet true on = durable_fleet mid.node new.node (f.forgets on)
  same_fleet false off = ap (λ (s : Session). fleet_of s.node) (f.keeps off)

  pub still_unraised : AreLaterUnraised mid → AreLaterUnraised new
  still_unraised are =
      subst (λ (n : ℕ). IfSome (fleet_of new.node) (AreUnraisedAbove n))
      (sym (ap (λ (s : Session). s.used) f.rest))
      (subst (λ (o : Option FleetState). IfSome o (AreUnraisedAbove mid.used))
      (sym (same_fleet mid.options.forget refl)) are)

  -- the same life, told by a master that has fewer records
  pub still_there : (d : MasterData) (at : Position) → IsNodeAt mid.node (config_of mid.options mid.master) d at
      → (e : MasterData) × IsNodeAt new.node (config_of new.options new.master) e at
      × ◌≡◌ {A = Life} (life_of d) (life_of e)
  still_there d at s =
      let there = f.stays (config_of mid.options mid.master) d at s in
      let opening = same_opening d there.0 there.1.1.0 in
      let history = sym there.1.1.1 in (
        there.0,
        subst (λ (c : Config). IsNodeAt new.node c there.0 at) (sym same_config) there.1.0,
        λ i. record { opening = opening i; history = history i },
      )
