-- A table that isn't found is lost.
use Rattle.std.proofs.Common.{◌≡◌, ◌∙◌, ℕ, List, inl, inr, refl, sym, ap, subst}
use Rattle.std.specs.Prelude.{◌↔◌, ◌⊎◌, Result, Ok, Err, IfOk}
use Rattle.entry.specs.Bag.{IsAmong}
use Rattle.entry.specs.declared.tablet.Tablet.{Tablet}
use Rattle.replica.specs.Picture.{FleetState, Picture, IsHeld, shown_of}
use Rattle.tablet_will.specs.Parts.{Divides}
use Rattle.tablet_will.specs.declared.fault.WillFault.{WillFault}
use Rattle.tablet_will.specs.declared.part.Part.{Part}
use Rattle.recovery.proofs.Counting.{orders_name}
use Rattle.recovery.specs.Headline.{IsNoMemory, NeverHadAny}
use Rattle.recovery.specs.Orders.{Covers}
use Rattle.recovery.specs.master.log_bytes.Choice.{newest_opened}
use Rattle.recovery.specs.master.master_state.Log.{log_of, opening_of}
use Rattle.embedded.specs.Losses.{IsNoLoss, IsWhy}
use Rattle.embedded.specs.Survives.{WhatIsLost}
use Rattle.embedded.specs.declared.options.Options.{Options}
use Rattle.embedded.specs.declared.rescue.NotRecovered.{NotRecovered}
use Rattle.embedded.specs.declared.rescue.NotRecovered.TheVariants as why

-- a will that divides tablets covers them
divided_covers : (ts : List Tablet) (qs : List Part) → Divides ts qs → Covers ts qs
divided_covers ts qs divides table place within = divides.covered table place ∙ within

pub ok_covers : (ts us : List Tablet) (r : Result (List Part) WillFault) → ts ≡ us → IfOk r (Divides ts)
    → IfOk r (Covers us)
ok_covers ts us (Ok qs) same divides = divided_covers us qs (subst (λ (xs : List Tablet). Divides xs qs) same divides)
ok_covers ts us (Err e) same divides = tt

-- a refusal that speaks of no loss owes none
pub no_loss : (f : FleetState) (o : Options) (master : ℕ) (e : NotRecovered) → IsNoLoss e → IsWhy f o master e
no_loss f o master (why.NotRebuilt fault) never = absurd never
no_loss f o master why.Up never = tt
no_loss f o master why.NoMemory never = tt
no_loss f o master why.NumbersSpent never = tt
no_loss f o master why.OtherFleet never = tt
no_loss f o master (why.Refused refusal) never = tt

pub lost_alone : WhatIsLost
lost_alone d f left keep o fault valid serves is none =
    let said = none.loss (log_of d) (shown_of f d.config.master) keep (newest_opened (log_of d)) valid.sound
    valid.newest refl (sym (ap (λ (least : ℕ → ℕ). least d.config.master) is.least))
    (λ h of. subst (λ (p : Picture). IsAmong h none.inventory ↔ IsHeld p h) is.picture (none.held h))
    (subst (λ (ts : List Tablet). Covers ts none.will) (sym serves) none.covers)
    (orders_name none.inventory (left.least d.config.master) d.config.master none.will).0 in (
      said.0,
      λ calm few. elim (valid.survive keep calm few)
          as (λ _. IsNoMemory fault ⊎ NeverHadAny (opening_of d) d.history) [
            | inl both ↦ inl (said.1 both)
            | inr empty ↦ inr empty
          ],
    )
