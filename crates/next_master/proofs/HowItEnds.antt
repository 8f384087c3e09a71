-- How a recovery ends, and what it makes of the fleet's limit.
use Rattle.std.proofs.Common.{◌≡◌, ℕ, ◌≤◌, inl, inr, refl, sym, ap, subst, ◌∙◌, true, false, arith}
use Rattle.std.specs.Prelude.{Option, Some, None, Result, Ok, Err}
use Rattle.std.specs.Option.{option_map}
use Rattle.backup.specs.State.{fleet_state}
use Rattle.backup.specs.declared.fleet.MemoryFleet.{MemoryFleet}
use Rattle.command_line.specs.declared.settings.Options.{Options}
use Rattle.cluster.specs.master.Registry.{AreUnraisedAbove}
use Rattle.cluster.specs.master.World.{MasterValue, World, world}
use Rattle.cluster.specs.master.master_state.declared.config.Config.{Config}
use Rattle.cluster.specs.master.master_state.Data.{MasterData}
use Rattle.cluster.specs.recovery.declared.recovery.RecoveryFault.TheVariants as fault
use Rattle.cluster.specs.recovery.Succession.{IsSuccessor}
use Rattle.cluster.specs.recovery.recovery_plan.declared.fault.PlanFault.TheVariants as plan_fault
use Rattle.cluster.specs.replay.claims.declared.rebuilt.Rebuilt.{Rebuilt}
use Rattle.cluster.specs.replay.Adopting.{IsAdopted, IsAdoptedOn}
use Rattle.replica.specs.declared.op.TakeFault.{TakeFault}
use Rattle.replica.specs.Picture.{FleetState}
use Rattle.replica.specs.Retire.{Retires}
use Rattle.replica.specs.Take.{limited, no_limit}
use Rattle.replica.proofs.Retiring.{retire_spares}
use Rattle.cluster.specs.answers.declared.answer.Answer.{Answer}
use Rattle.cluster.specs.answers.declared.answer.Answer.TheVariants as answer
use Rattle.cluster.specs.declared.node.Node.{Node}
use Rattle.cluster.specs.declared.node.Node.TheVariants.{Up, Down, Changing}
use Rattle.next_master.specs.Configuration.{config_of}
use Rattle.next_master.specs.Recoveries.{Asked, Ends, EndsFreeing, FindsNothing, Frees, HasNoOther, IsDownOn}
use Rattle.next_master.specs.Recoveries.{IsTakenOver, MakesLimit, StandsAfter, adopted_answer, after_answer}
use Rattle.next_master.specs.Recoveries.{fault_answer}
use Rattle.cluster.specs.Lives.{Left, Position}
use Rattle.cluster.specs.Served.{IsNodeAt, IsOf, fleet_of, is_up}
use Rattle.cluster.proofs.LeastHeads.{IsUnraisedAbove, in_world, unraised_more, with_fleet}
use Rattle.cluster.proofs.of_recovery.Following.{adopted_still}
use Rattle.next_master.proofs.Retired.{others_gone, retire_keeps_end, spent_retire}

-- ---- where a node stands

pub down_on : (node : Node) (fleet : MemoryFleet) → node ≡ Down fleet → IsDownOn (fleet_state fleet) node
down_on node fleet is = (ap is_up is, ap fleet_of is)

-- a node that stands for a master and has none is down
pub down_at : (node : Node) (config : Config) (d : MasterData) (at : Position) → is_up node ≡ false
    → IsNodeAt node config d at
    → (f : FleetState) × IsDownOn f node
down_at (Up m) config d at down s = absurd (cc)
down_at (Down fleet) config d at down s = (fleet_state fleet, (refl, refl))
down_at Changing config d at down s = absurd s.node_of

-- a node that stands for a master has a fleet
pub fleet_held : (node : Node) (left : Option Left) (d : MasterData) → IsOf node left d → (f : FleetState)
    × (fleet_of node ≡ Some f)
fleet_held (Up m) left d of = (fleet_state m.fleet, refl)
fleet_held (Down fleet) left d of = (fleet_state fleet, refl)
fleet_held Changing left d of = absurd of

-- one that stands for a master and is not down is up
pub up_at : (node : Node) (config : Config) (d : MasterData) (at : Position)
    → ((fleet : MemoryFleet) → node ≡ Down fleet → ⊥)
    → IsNodeAt node config d at → is_up node ≡ true
up_at (Up m) config d at other s = refl
up_at (Down fleet) config d at other s = absurd (other fleet refl)
up_at Changing config d at other s = absurd s.node_of

-- the fleet of a node that is down
pub down_final : (node : Node) (f : FleetState) → IsDownOn f node
    → (fleet : MemoryFleet) × (node ≡ Down fleet) × (fleet_state fleet ≡ f)
down_final (Up m) f on = absurd (let up = on.0 in cc)
down_final (Down fleet) f on = (fleet, refl, same_fleet (fleet_state fleet) f on.1)
  where
    same_fleet : (g f : FleetState) → Some g ≡ Some f → g ≡ f
    same_fleet g f is = ap (λ (o : Option FleetState). held_in f o) is
      where
        held_in : FleetState → Option FleetState → FleetState
        held_in other None = other
        held_in other (Some h) = h
down_final Changing f on = absurd (let none = on.1 in cc)

pub after_picture : (a : Answer) (f : FleetState) → (after_answer a f).picture ≡ f.picture
after_picture answer.Stopped f = refl
after_picture a f = refl

pub after_backups : (a : Answer) (f : FleetState) → (after_answer a f).backups ≡ f.backups
after_backups answer.Stopped f = refl
after_backups a f = refl

pub after_least : (a : Answer) (f : FleetState) → (after_answer a f).least ≡ f.least
after_least answer.Stopped f = refl
after_least a f = refl

-- ---- a recovery that wants memory, or finds a master

pub up_ends : (node : Node) (options : Options) (a : Asked) → is_up node ≡ true
    → Ends node options a a.used node answer.Up a.master
up_ends node options a up = inl (up, refl, refl, refl, refl)

pub want_ends : (node : Node) (options : Options) (a : Asked) (f : FleetState) → IsDownOn f node
    → Ends node options a a.used node (answer.NotRecovered (fault.Plan plan_fault.NoMemory)) a.master
want_ends node options a f on = inr (f, on, inl (inl tt, refl, refl, refl))

-- ---- an adoption

module _ (f : FleetState) (r : Rebuilt) (config : Config) (m : MasterValue MemoryFleet)
    (adopted : IsAdopted config r m.knows)
    (on : IsAdoptedOn config.master f (fleet_state m.fleet)) (freed : Result Unit TakeFault) (next : World)
    (frees : Frees (world fleet_state m) freed next) where
  succeeds : IsSuccessor config r f freed next
  succeeds = record {
    adopted = subst (λ (d : MasterData). IsAdopted config r d) (sym frees.knows)
        (adopted_still config r m.knows freed adopted);
    taken = fleet_state m.fleet;
    on = on;
    retires = subst (λ (c : Config). Retires (fleet_state m.fleet) c.master freed next.fleet)
        adopted.config frees.retires;
    valid = frees.valid;
  }

pub taken_over : (f : FleetState) (r : Rebuilt) (config : Config) (m : MasterValue MemoryFleet)
    → IsAdopted config r m.knows
    → IsAdoptedOn config.master f (fleet_state m.fleet) → (new : Node) → EndsFreeing (world fleet_state m) new (Ok tt)
    → IsTakenOver f r config new (answer.Recovered r)
taken_over f r config m adopted on new (next, frees, stands) = record {
  freed = Ok tt;
  next = next;
  succeeds = succeeds f r config m adopted on (Ok tt) next frees;
  told = refl;
  stands = (
    stands,
    subst (λ (d : MasterData). HasNoOther next.fleet d.config.master) (sym frees.knows)
        (others_gone (fleet_state m.fleet) next.fleet m.knows.config.master tt frees.retires),
  );
}

pub cut_over : (f : FleetState) (r : Rebuilt) (config : Config) (m : MasterValue MemoryFleet)
    → IsAdopted config r m.knows
    → IsAdoptedOn config.master f (fleet_state m.fleet) → (new : Node) (a : Answer)
    → EndsFreeing (world fleet_state m) new (Err a)
    → IsTakenOver f r config new a
cut_over f r config m adopted on new a (why, next, frees, told, down) = record {
  freed = Err why;
  next = next;
  succeeds = succeeds f r config m adopted on (Err why) next frees;
  told = told;
  stands = (
    subst (λ (x : Answer). IsDownOn (after_answer x next.fleet) new) told down,
    spent_retire (fleet_state m.fleet) next.fleet m.knows.config.master why frees.retires,
  );
}

-- ---- the limit

-- without a limit
unlimited : (f : FleetState) → (limited f no_limit).end ≡ no_limit
unlimited f = omega arith

abbrev end_of : Option FleetState → Option ℕ
end_of o = option_map (λ (g : FleetState). g.end) o

module _ (old new : Node) (f : FleetState) (was : fleet_of old ≡ Some f) where
  -- a node that is down after an answer
  limit_down : (x : Answer) (left : FleetState) → left.end ≡ f.end → IsDownOn (after_answer x left) new
      → MakesLimit old new x
  limit_down answer.Stopped left same on = (limited left no_limit, on, unlimited left)
  limit_down x left same on = ap end_of on.1 ∙ ap Some same ∙ sym (ap end_of was)

  limit_nothing : (x : Answer) (a : Asked) → FindsNothing f a x → new ≡ old → MakesLimit old new x
  limit_nothing (answer.NotRecovered why) a finds same = ap (λ (n : Node). end_of (fleet_of n)) same
  limit_nothing answer.NumbersSpent a finds same = ap (λ (n : Node). end_of (fleet_of n)) same
  limit_nothing x a finds same = absurd finds

  limit_over : (r : Rebuilt) (config : Config) (x : Answer) → IsTakenOver f r config new x → MakesLimit old new x
  limit_over r config x over = go over.freed over.succeeds over.told over.stands
    where
      go : (freed : Result Unit TakeFault) (s : IsSuccessor config r f freed over.next) → x ≡ adopted_answer r freed
          → StandsAfter over.next freed new → MakesLimit old new x
      go (Ok u) s told stands =
          let same : over.next.fleet.end ≡ f.end = retire_keeps_end s.taken over.next.fleet config.master
          (Ok u) s.retires ∙ s.on.end in
          subst (λ (y : Answer). MakesLimit old new y) (sym told)
          (ap end_of (in_world new over.next stands.0) ∙ ap Some same ∙ sym (ap end_of was))
      go (Err why) s told stands =
          let same : over.next.fleet.end ≡ f.end = retire_keeps_end s.taken over.next.fleet config.master
          (Err why) s.retires ∙ s.on.end in
          subst (λ (y : Answer). MakesLimit old new y) (sym told)
          (limit_down (fault_answer why) over.next.fleet same stands.0)

pub limit_made : (old new : Node) (options : Options) (a : Asked) (used : ℕ) (x : Answer) (number : ℕ)
    → Ends old options a used new x number → MakesLimit old new x
limit_made old new options a used x number (inl (up, is, same, n, u)) =
    subst (λ (y : Answer). MakesLimit old new y) (sym is) (ap (λ (m : Node). end_of (fleet_of m)) same)
limit_made old new options a used x number (inr (f, down, inl (nothing, same, n, u))) =
    limit_nothing old new f down.1 x a nothing same
limit_made old new options a used x number (inr (f, down, inr (table, found, next, inl (declined, n)))) =
    limit_down old new f down.1 x declined.left declined.on.end declined.down
limit_made old new options a used x number (inr (f, down, inr (table, found, next, inr (over, n)))) =
    limit_over old new f down.1 table (config_of options used) x over

-- ---- the registry

-- an adoption raises at most the least head of its own master
adopted_unraised : (master : ℕ) (f left : FleetState) → IsAdoptedOn master f left → AreUnraisedAbove master f
    → AreUnraisedAbove master left
adopted_unraised master f left on are =
    λ m above. on.least m (λ is. absurd (omega (arith, above, is))) ∙ are m above

-- a fleet with the same least heads
same_unraised : (number : ℕ) (f g : FleetState) → g.least ≡ f.least → AreUnraisedAbove number f
    → AreUnraisedAbove number g
same_unraised number f g same are = λ m above. ap (λ (h : ℕ → ℕ). h m) same ∙ are m above

-- a node that is down after an answer
down_unraised : (number : ℕ) (x : Answer) (left : FleetState) (new : Node) → IsDownOn (after_answer x left) new
    → AreUnraisedAbove number left → IsUnraisedAbove number (fleet_of new)
down_unraised number x left new on are =
    with_fleet number new (after_answer x left) on.1 (same_unraised number left (after_answer x left)
    (after_least x left) are)

over_unraised : (f : FleetState) (r : Rebuilt) (config : Config) (new : Node) (x : Answer)
    → IsTakenOver f r config new x → AreUnraisedAbove config.master f → IsUnraisedAbove config.master (fleet_of new)
over_unraised f r config new x over are = go over.freed over.succeeds over.stands
  where
    kept : (freed : Result Unit TakeFault) → IsSuccessor config r f freed over.next
        → AreUnraisedAbove config.master over.next.fleet
    kept freed s = same_unraised config.master s.taken over.next.fleet
        (retire_spares s.taken over.next.fleet config.master freed s.retires).least
        (adopted_unraised config.master f s.taken s.on are)

    go : (freed : Result Unit TakeFault) (s : IsSuccessor config r f freed over.next)
        → StandsAfter over.next freed new → IsUnraisedAbove config.master (fleet_of new)
    go (Ok u) s stands =
        with_fleet config.master new over.next.fleet (in_world new over.next stands.0) (kept (Ok u) s)
    go (Err why) s stands =
        down_unraised config.master (fault_answer why) over.next.fleet new stands.0 (kept (Err why) s)

-- no recovery raises the least head of a master with a greater number than those that were used
pub ends_unraised : (old new : Node) (options : Options) (a : Asked) (used : ℕ) (x : Answer) (number : ℕ)
    → Ends old options a used new x number → a.used ≤ used → IsUnraisedAbove a.used (fleet_of old)
    → IsUnraisedAbove used (fleet_of new)
ends_unraised old new options a used x number ends more are = go ends where
  still : new ≡ old → IsUnraisedAbove used (fleet_of new)
  still same = subst (λ (n : Node). IsUnraisedAbove used (fleet_of n)) (sym same)
      (unraised_more a.used used (fleet_of old) more are)

  held : (f : FleetState) → fleet_of old ≡ Some f → AreUnraisedAbove used f
  held f was = subst (λ (o : Option FleetState). IsUnraisedAbove used o) was
      (unraised_more a.used used (fleet_of old) more are)

  go : Ends old options a used new x number → IsUnraisedAbove used (fleet_of new)
  go (inl (up, is, same, n, u)) = still same
  go (inr (f, down, inl (nothing, same, n, u))) = still same
  go (inr (f, down, inr (table, found, next, inl (declined, n)))) =
      down_unraised used x declined.left new declined.down
      (adopted_unraised used f declined.left declined.on (held f down.1))
  go (inr (f, down, inr (table, found, next, inr (over, n)))) =
      over_unraised f table (config_of options used) new x over (held f down.1)
