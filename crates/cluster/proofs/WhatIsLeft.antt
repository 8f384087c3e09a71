-- Crashes and losses, told of what is left of a master.
use Rattle.std.proofs.Common.{[], ◌≡◌, ℕ, ◌≤◌, Bool, true, false, cond, List, ◌∷◌, refl, sym, ap, subst, inl, inr, ◌∙◌}
use Rattle.std.proofs.Common.{arith}
use Rattle.std.specs.declared.alloc.AllocError.{AllocError}
use Rattle.std.proofs.lemmas.List.{append-nil}
use Rattle.std.specs.Prelude.{ℕ, Option, Some, None, not, ◌==◌, ◌||◌, ◌↔◌, Result, Ok, Err, IfOk}
use Rattle.backup.specs.Inventory.{AreRising}
use Rattle.backup.specs.State.{fleet_state, lost}
use Rattle.backup.specs.declared.fleet.MemoryFleet.{MemoryFleet}
use Rattle.lines.specs.Grammar.{LineValue, Crash, Lose, Holdings}
use Rattle.entry.specs.Bag.{IsAmong}
use Rattle.replica.specs.declared.holding.Holding.{Holding}
use Rattle.replica.specs.declared.label.Label.{Label}
use Rattle.replica.specs.Picture.{Replica, FleetState, left_on, AreHeld, AreLabelsOf}
use Rattle.answers.specs.driving.master.master_state.declared.config.Config.{Config}
use Rattle.answers.specs.driving.master.master_state.Data.{MasterData}
use Rattle.answers.specs.driving.master.Valid.{IsValid}
use Rattle.answers.specs.recovery.Kept.{is_kept}
use Rattle.answers.specs.declared.answer.Answer.TheVariants as answer
use Rattle.cluster.specs.declared.node.Node.{Node}
use Rattle.cluster.specs.declared.node.Node.TheVariants.{Down}
use Rattle.cluster.specs.Lives.{Life, life_to, Left, left_now, is_left, Position}
use Rattle.cluster.specs.Served.{IsLeftOf, IsOf, IsNodeAt, AnswersLine, is_up, held_answer}
use Rattle.cluster.specs.Told.{Tells}
use Rattle.cluster.specs.Looks.{AreLeft, AreHeldAt}
use Rattle.cluster.proofs.Standing.{Answered, still_stands, lived_longer, is_up_none}
use Rattle.answers.specs.driving.GoesOn.{goes_nowhere}

-- ---- what backups hold

-- of what is left the backups hold just these
pub held_of_left : (config : Config) (d : MasterData) (l : Left) (f : FleetState) (hs : List Holding)
    → d.config ≡ config → IsLeftOf d l f → AreHeld hs f.picture
    → AreLeft config l hs
held_of_left config d l f hs same of shown h its =
    let left = left_on (is_left l.lost) l.shown.holds in
    let master : d.config.master ≡ h.master = ap (λ (c : Config). c.master) same ∙ sym its in
    let there : f.picture h.backup h.master h.segment ≡ left h.backup h.master h.segment =
    subst (λ (m : ℕ). f.picture h.backup m h.segment ≡ left h.backup m h.segment) master
    (of.held h.backup h.segment) in
    subst (λ (r : Option Replica). IsAmong h hs ↔ (r ≡ Some
    (record { bytes = h.bytes; is_open = h.is_open }))) there (shown h)

pub held_down : (config : Config) (life : Life) (at : Position) (result : Result (List Label) AllocError)
    (d : MasterData) (l : Left) (f : FleetState)
    → d.config ≡ config → at.left ≡ Some l → IsLeftOf d l f → IfOk result (AreLabelsOf f.picture)
    → IfOk result AreRising
    → Tells config life at Holdings (held_answer result) at
held_down config life at (Err fault) d l f same left of shown rising = inr (inl (refl, refl, refl))
held_down config life at (Ok labels) d l f same left of shown rising = (
  refl,
  subst (λ (o : Option Left). AreHeldAt config (life_to life at.made) o labels) (sym left)
      (shown.0, held_of_left config d l f shown.0 same of shown.1, shown.2),
  rising,
  refl,
)

-- ---- crashes and losses

-- a master that stops leaves the whole of what its fleet holds
pub left_of : (d : MasterData) (fleet : MemoryFleet) → IsValid d (fleet_state fleet)
    → d.config.backups ≤ (fleet_state fleet).backups → IsOf (Down fleet) (Some (left_now d (fleet_state fleet))) d
left_of d fleet valid all = (
  left_now d (fleet_state fleet),
  refl,
  record {
    crashed = fleet_state fleet;
    valid = valid;
    shown = refl;
    opened = refl;
    homes = refl;
    held = λ b s. refl;
    backups = all;
    least = refl;
  },
)

pub crashed_told : (old new : Node) (config : Config) (line : LineValue) (f : FleetState) → is_up old ≡ true
    → ((d : MasterData) → IsOf old None d → IsValid d f × IsOf new (Some (left_now d f)) d) → line ≡ Crash
    → AnswersLine old config line new answer.Crashed
crashed_told old new config line f up leaves is d at s =
    let none = is_up_none old d at.left up s.node_of in
    let left = leaves d (subst (λ (l : Option Left). IsOf old l d) none s.node_of) in
    let stands = still_stands d d old new config at (Some (left_now d f)) left.1 s (goes_nowhere d) in (
      d,
      record { made = at.made; acknowledged = at.acknowledged; left = Some (left_now d f) },
      stands,
      ([], refl, sym (append-nil d.history)),
      (
        none,
        is,
        left_now d f,
        (
          d,
          f,
          lived_longer d d old new config at (Some (left_now d f)) left.1 s f left.0 at.made
              s.configured s.made,
          refl,
        ),
        refl,
      ),
    )

cut_twice : (lose gone : Bool) (r : Option Replica) → cond (not lose) (cond (not gone) r None) None
    ≡ cond (not (lose || gone)) r None
cut_twice true gone r = refl
cut_twice false gone r = refl

-- what is left, less a backup
pub lost_of : (d : MasterData) (l : Left) (old new : FleetState) (backup : ℕ) → new ≡ lost old backup → IsLeftOf d l old
    → IsLeftOf d (record { shown = l.shown; opened = l.opened; homes = l.homes; lost = backup ∷ l.lost }) new
lost_of d l old new backup is of = record {
  crashed = of.crashed;
  valid = of.valid;
  shown = of.shown;
  opened = of.opened;
  homes = of.homes;
  held = λ b s. (λ i. (is i).picture b d.config.master s)
      ∙ ap (λ (r : Option Replica). cond (not (backup == b)) r None) (of.held b s)
      ∙ cut_twice (backup == b) (is_kept l.lost b) (l.shown.holds b d.config.master s);
  backups = let was = of.backups in let same = ap (λ (f : FleetState). f.backups) is in omega arith;
  least = ap (λ (f : FleetState). f.least d.config.master) is ∙ of.least;
}

-- a fleet with the same picture and the same least heads
pub same_picture : (d : MasterData) (l : Left) (old new : FleetState) → new.picture ≡ old.picture
    → new.backups ≡ old.backups → new.least ≡ old.least → IsLeftOf d l old → IsLeftOf d l new
same_picture d l old new is same least of = record {
  crashed = of.crashed;
  valid = of.valid;
  shown = of.shown;
  opened = of.opened;
  homes = of.homes;
  held = λ b s. (λ i. is i b d.config.master s) ∙ of.held b s;
  backups = let was = of.backups in omega arith;
  least = ap (λ (g : ℕ → ℕ). g d.config.master) least ∙ of.least;
}

-- ---- what is left, by hand

-- a down node's line on what is left
module _ (node : Node) (fleet : MemoryFleet) (config : Config) (d : MasterData) (at : Position)
    (down : node ≡ Down fleet) (s : IsNodeAt node config d at) where
  pub left_at : (l : Left) × (at.left ≡ Some l) × IsLeftOf d l (fleet_state fleet)
  left_at = subst (λ (n : Node). IsOf n at.left d) down s.node_of

  pub lost_told : (backup : ℕ) (new : MemoryFleet) → fleet_state new ≡ lost (fleet_state fleet) backup
      → Answered d (Down new) config at (Lose backup) (answer.Lost backup)
  lost_told backup new is =
      let l = left_at.0 in
      let less : Left =
      record { shown = l.shown; opened = l.opened; homes = l.homes; lost = backup ∷ l.lost } in (
        d,
        record { made = at.made; acknowledged = at.acknowledged; left = Some less },
        record {
          node_of = (less, refl, lost_of d l (fleet_state fleet) (fleet_state new) backup is left_at.2);
          configured = s.configured;
          made = s.made;
          acknowledged = s.acknowledged;
        },
        ([], refl, sym (append-nil d.history)),
        (refl, l, left_at.1, refl),
      )
