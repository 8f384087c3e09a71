-- Recoveries, told of the life that ends and of the one that begins.
use Rattle.std.proofs.Common.{[], ◌≡◌, ℕ, suc, ◌≤◌, max, List, ◌∷◌, length, inl, inr, refl, sym, ap, subst, ◌∙◌}
use Rattle.std.proofs.Common.{arith}
use Rattle.std.proofs.lemmas.List.{append-nil}
use Rattle.std.proofs.lemmas.Option.{same_Some}
use Rattle.std.specs.Prelude.{Option, Some, None, Result, Ok, Err}
use Rattle.backup.specs.State.{fleet_state}
use Rattle.backup.specs.declared.fleet.MemoryFleet.{MemoryFleet}
use Rattle.command_line.specs.declared.settings.Options.{Options}
use Rattle.entry.specs.Bag.{IsAmong}
use Rattle.lines.specs.Grammar.{Recover}
use Rattle.lines.specs.declared.line.ReplayOrder.{ReplayOrder}
use Rattle.cluster.specs.replay.claims.declared.rebuilt.Rebuilt.{Rebuilt}
use Rattle.replica.specs.declared.holding.Holding.{Holding}
use Rattle.replica.specs.declared.op.TakeFault.{TakeFault}
use Rattle.replica.specs.declared.op.TakeFault.TheVariants as take_fault
use Rattle.replica.specs.Picture.{Replica, Picture, FleetState, AreHeld}
use Rattle.versioned_map.specs.declared.command.Record.{Record}
use Rattle.cluster.specs.master.Valid.{IsValid}
use Rattle.cluster.specs.master.World.{MasterValue, World, world}
use Rattle.cluster.specs.master.master_state.declared.config.Config.{Config}
use Rattle.cluster.specs.master.master_state.declared.step.Refusal.{Refusal}
use Rattle.cluster.specs.master.master_state.declared.step.Refusal.TheVariants as refusal
use Rattle.cluster.specs.master.master_state.Data.{MasterData}
use Rattle.cluster.specs.answers.declared.answer.Answer.{Answer}
use Rattle.cluster.specs.answers.declared.answer.Answer.TheVariants as answer
use Rattle.cluster.specs.declared.node.Node.{Node}
use Rattle.cluster.specs.declared.node.Node.TheVariants.{Up, Down}
use Rattle.cluster.specs.replay.Adopting.{IsAdopted, IsAdoptedOn}
use Rattle.next_master.specs.Configuration.{config_of, later_options}
use Rattle.cluster.specs.Lives.{life_to, HasLived, Left, left_now, Position}
use Rattle.next_master.specs.Numbers.{greatest_of}
use Rattle.next_master.specs.Recoveries.{Adopts, BeginsNext, EndsFreeing, Frees, HasNoOther, IsCut, IsDeclined}
use Rattle.next_master.specs.Recoveries.{IsDownOn, IsFoundIn, RetiresOthers, after_answer, fault_answer, standing_of}
use Rattle.cluster.specs.replay.driving.Served.{IsSpent}
use Rattle.cluster.specs.Served.{AnswersLine, IsLeftOf, IsNodeAt, IsOf, Refuses, fleet_of, life_of, refusal_answer}
use Rattle.next_master.specs.Succession.{EndsRecovery}
use Rattle.cluster.specs.Told.{Tells}
use Rattle.cluster.specs.Found.{HoldsLeft, IsUnadopted}
use Rattle.next_master.specs.declared.later.Later.{Later}
use Rattle.next_master.proofs.NextConfig.{next_config_is}
use Rattle.next_master.proofs.HowItEnds.{after_backups, after_least, after_picture, down_final, fleet_held}
use Rattle.cluster.proofs.Standing.{legal_of}

-- ---- numbers

among_greatest : (hs : List Holding) (h : Holding) → IsAmong h hs → h.master ≤ greatest_of hs
among_greatest [] h among = absurd among
among_greatest (x ∷ xs) h (inl is) = let same = ap (λ (y : Holding). y.master) is in omega arith
among_greatest (x ∷ xs) h (inr among) = let rest = among_greatest xs h among in omega arith

-- the fleet holds no replica of a master with the next number
pub next_unused : (hs : List Holding) (p : Picture) (master number : ℕ) → AreHeld hs p
    → number ≡ suc (max master (greatest_of hs))
    → (b s : ℕ) → p b number s ≡ None
next_unused hs p master number held is b s = go (p b number s) refl
  where
    go : (o : Option Replica) → p b number s ≡ o → p b number s ≡ None
    go None none = none
    go (Some r) there =
        let h : Holding = record { backup = b; master = number; segment = s; bytes = r.bytes; is_open = r.is_open } in
        let below = among_greatest hs h ((held h).1 there) in
        absurd (omega arith)

-- ---- what is left

-- another master's replicas alone changed
pub spared_left : (d : MasterData) (l : Left) (old mid new : FleetState) (other : ℕ) → (d.config.master ≡ other → ⊥)
    → IsAdoptedOn other old mid
    → new.picture ≡ mid.picture → new.backups ≡ mid.backups → new.least ≡ mid.least → IsLeftOf d l old
    → IsLeftOf d l new
spared_left d l old mid new other apart on picture backups least of = record {
  crashed = of.crashed;
  valid = of.valid;
  shown = of.shown;
  opened = of.opened;
  homes = of.homes;
  held = λ b s. ap (λ (p : Picture). p b d.config.master s) picture
      ∙ on.others b d.config.master s apart ∙ of.held b s;
  backups = let was = of.backups in let same = on.backups in let last = backups in omega arith;
  least = ap (λ (g : ℕ → ℕ). g d.config.master) least ∙ on.least d.config.master apart ∙ of.least;
}

-- ---- an adoption that is refused, and a retirement that is cut short

abbrev fleet_in : MemoryFleet → Node → MemoryFleet
fleet_in other (Down f) = f
fleet_in other n = other

-- an adoption from a node that is down is one from its fleet
pub adopts_down : (self new : Node) (given : MemoryFleet) (r : Rebuilt) (config : Config) (o : Result Unit Answer)
    → self ≡ Down given
    → Adopts (fleet_state given) r config new o → (fleet : MemoryFleet) → self ≡ Down fleet
    → Adopts (fleet_state fleet) r config new o
adopts_down self new given r config o down adopts fleet is =
    subst (λ (x : MemoryFleet). Adopts (fleet_state x) r config new o) (ap (fleet_in given) (sym down ∙ is)) adopts

pub cut_spent : (d : MasterData) (m : MasterValue MemoryFleet) (new : Node) (a : Answer) → m.knows ≡ d
    → IsValid d (fleet_state m.fleet)
    → IsSpent (fleet_state m.fleet) → Refuses (Up m) refusal.Spent new a → RetiresOthers d new (Err a)
cut_spent d m new a same valid spent (inl (is, unspent, stays)) = absurd (unspent refl)
cut_spent d m new a same valid spent (inr (is, why, dropped, lifted)) = (
  fleet_state m.fleet,
  valid,
  dropped d (fleet_state m.fleet) (refl, same, valid) refl,
  subst (λ (x : Answer). IsCut (fleet_state m.fleet) x) (sym is) spent,
)

-- the same, of its fleet
pub cut_freeing : (old : World) (m : MasterValue MemoryFleet) (new : Node) (a : Answer) (why : TakeFault)
    → Frees old (Err why) (world fleet_state m)
    → why ≡ take_fault.Spent → Refuses (Up m) refusal.Spent new a → EndsFreeing old new (Err a)
cut_freeing old m new a why frees is (inl (told, unspent, stays)) = absurd (unspent refl)
cut_freeing old m new a why frees is (inr (told, spent, dropped, lifted)) = (
  why,
  world fleet_state m,
  frees,
  told ∙ ap fault_answer (sym is),
  subst (λ (x : Answer). IsDownOn (after_answer x (fleet_state m.fleet)) new) (sym told) lifted,
)

pub unspent_fault : (why : TakeFault) → (why ≡ take_fault.Spent → ⊥) → fault_answer why ≡ answer.NotRetired why
unspent_fault take_fault.Spent unspent = absurd (unspent refl)
unspent_fault why unspent = refl

-- no refusal is told as spent numbers
pub not_of_refusal : (r : Refusal) → refusal_answer r ≡ answer.NumbersSpent → ⊥
not_of_refusal refusal.Spent is = absurd (cc)
not_of_refusal r is = absurd (cc)

-- and no cut is
pub not_of_cut : (d : MasterData) (new : Node) (a : Answer) → RetiresOthers d new (Err a) → a ≡ answer.NumbersSpent → ⊥
not_of_cut d new a told is = subst (IsCut told.0) is told.3

-- ---- a recovery of what is left on this fleet

module _ (fleet : MemoryFleet) (options : Options) (later : Later) (master : ℕ) (r : Rebuilt) (config : Config)
    (found : IsFoundIn fleet options later master r config)
    (old : Node) (down : old ≡ Down fleet) (order : ReplayOrder) where
  was : (d : MasterData) (at : Position) → IsNodeAt old (config_of options master) d at
      → IsNodeAt (Down fleet) (config_of options master) d at
  was d at s = subst (λ (n : Node). IsNodeAt n (config_of options master) d at) down s

  -- what the adoption needs of the fleet
  pub has_backups : (d : MasterData) (at : Position) → IsNodeAt old (config_of options master) d at
      → config.backups ≤ (fleet_state fleet).backups
  has_backups d at s =
      let all = (was d at s).node_of.2.backups in
      let here = ap (λ (c : Config). c.backups) s.configured in
      let there = ap (λ (c : Config). c.backups) found.configured in
      omega arith

  declined : (d : MasterData) (at : Position) → IsNodeAt old (config_of options master) d at → (why : Refusal)
      → IsUnadopted (config_of options master) (life_of d) at (Recover order) why at
      → Tells (config_of options master) (life_of d) at (Recover order) (refusal_answer why) at
  declined d at s refusal.Spent un = inr un
  declined d at s why un = inr (inr (λ is. cc, inl un))

  -- the table is not adopted
  pub declined_told : (new : Node) (a : Answer) → IsDeclined (fleet_state fleet) r config new a
      → AnswersLine old (config_of options master) (Recover order) new a
  declined_told new a refused d at s =
      let before = was d at s in
      let l = before.node_of.0 in
      let table = found.table d at before in
      let final = down_final new (after_answer a refused.left) refused.down in
      let holds : HoldsLeft (config_of options master) table.0 (fleet_state fleet) =
      subst (λ (k : Left). HoldsLeft (config_of options master) k (fleet_state fleet))
      (same_Some l table.0 (sym before.node_of.1 ∙ table.1))
      (subst (λ (c : Config). HoldsLeft c l (fleet_state fleet)) s.configured before.node_of.2.held) in
      let apart : d.config.master ≡ config.master → ⊥ =
      λ same. (let here = ap (λ (c : Config). c.master) s.configured in let up = found.greater in
      absurd (omega arith)) in (
        d,
        at,
        record {
          node_of = subst (λ (n : Node). IsOf n at.left d) (sym final.1) (
            l,
            before.node_of.1,
            spared_left d l (fleet_state fleet) refused.left (fleet_state final.0) config.master apart refused.on
                (ap (λ (f : FleetState). f.picture) final.2 ∙ after_picture a refused.left)
                (ap (λ (f : FleetState). f.backups) final.2 ∙ after_backups a refused.left)
                (ap (λ (f : FleetState). f.least) final.2 ∙ after_least a refused.left) before.node_of.2,
          );
          configured = s.configured;
          made = s.made;
          acknowledged = s.acknowledged;
        },
        ([], refl, sym (append-nil d.history)),
        subst (λ (x : Answer). Tells (config_of options master) (life_of d) at (Recover order) x at) (sym refused.told)
            (declined d at s refused.why (
              (order, refl),
              (
                table.0,
                table.1,
                r,
                table.2,
                config,
                next_config_is later options master config found.configured found.greater,
                (fleet_state fleet, refused.left, holds, refused.declines),
              ),
              refl,
            )),
      )

  -- it is adopted
  module _ (e : MasterData) (adopted : IsAdopted config r e) where
    abbrev pub next : Config
    next = config_of (later_options later options) config.master

    configured : e.config ≡ next
    configured = adopted.config ∙ found.configured

    lived : (f : FleetState) → IsValid e f → HasLived next (life_to (life_of e) 0) e f
    lived f valid = record { configured = configured; opening = refl; history = adopted.history; valid = valid }

    begins : (new : Node) (a : Answer) (left : Option Left) → IsOf new left e → (f : FleetState) → fleet_of new ≡ Some f
        → EndsRecovery (standing_of next e (record { made = 0; acknowledged = 0; left = left })) f r a
        → BeginsNext old (config_of options master) order new next a
    begins new a left of f held ends d at s =
        let table = found.table d at (was d at s) in (
          e,
          record { made = 0; acknowledged = 0; left = left },
          record {
            node_of = of;
            configured = configured;
            made = ap (λ (h : List Record). length h) (sym adopted.history);
            acknowledged = omega arith;
          },
          adopted.history,
          record {
            asks = (order, refl);
            told = record { legal = legal_of old at.left d s.node_of; whole = s.made };
            left = table.0;
            was = table.1;
            table = r;
            found = table.2;
            config = next_config_is later options master next refl found.greater;
            opening = adopted.opening;
            made = refl;
            acknowledged = refl;
            fleet = f;
            ends = ends;
          },
          held,
        )

    alone : (f : FleetState) → HasNoOther f e.config.master → HasNoOther f next.master
    alone f none = subst (λ (m : ℕ). HasNoOther f m) (ap (λ (c : Config). c.master) configured) none

    pub recovered_told : (new : Node) → RetiresOthers e new (Ok tt)
        → BeginsNext old (config_of options master) order new next (answer.Recovered r)
    recovered_told new (m, is, same, valid, none) =
        begins new (answer.Recovered r) None (subst (λ (n : Node). IsOf n None e) (sym is) (refl, same, valid))
        (fleet_state m.fleet) (ap fleet_of is) (
          refl,
          refl,
          (e, lived (fleet_state m.fleet) valid, alone (fleet_state m.fleet) none),
        )

    cut : (f g : FleetState) → IsValid e f → (a : Answer) → IsCut f a
        → EndsRecovery (standing_of next e (record { made = 0; acknowledged = 0; left = Some (left_now e f) })) g r a
    cut f g valid answer.Stopped spent = (left_now e f, refl, (e, f, lived f valid, refl, spent))
    cut f g valid (answer.NotRetired why) unspent = (unspent, left_now e f, refl, (e, f, lived f valid, refl))
    cut f g valid a other = absurd other

    pub cut_told : (new : Node) (a : Answer) → RetiresOthers e new (Err a)
        → BeginsNext old (config_of options master) order new next a
    cut_told new a (f, valid, of, why) =
        let held = fleet_held new (Some (left_now e f)) e of in
        begins new a (Some (left_now e f)) of held.0 held.1 (cut f held.0 valid a why)
