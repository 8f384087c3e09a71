-- What a recovery finds of a master that was valid to its end.
use Rattle.std.proofs.Common.{ℕ, refl, sym, ap, subst}
use Rattle.std.specs.Prelude.{◌↔◌}
use Rattle.entry.specs.Bag.{IsAmong}
use Rattle.replica.specs.Picture.{Picture, IsHeld, shown_of}
use Rattle.recovery.specs.master.master_state.Log.{log_of}
use Rattle.embedded.specs.Survives.{WhatSurvives}

pub survives : WhatSurvives
survives d f left keep table valid is found =
    found.prefix (log_of d) (shown_of f d.config.master) keep valid.sound refl
    (sym (ap (λ (least : ℕ → ℕ). least d.config.master) is.least))
    (λ h of. subst (λ (p : Picture). IsAmong h found.inventory ↔ IsHeld p h) is.picture (found.held h))
