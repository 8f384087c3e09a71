use Rattle.std.proofs.Common.{refl}
use Rattle.recovery.proofs.Drilling.{loss, prefix}
use Rattle.recovery.proofs.Heading.{headline}
use Rattle.recovery.proofs.laws.any_recovery_has_headline.Goals as goal

pub returns : goal.returns
returns c = λ start stop steps answers durable pushes kept hs will order r ran valid told calm shown recovers.
    headline start stop steps kept will order answers ran stop.fleet refl valid durable pushes told calm r
    (prefix start stop steps kept will order answers ran stop.fleet refl valid hs shown r recovers.prefix)
    (loss start stop steps kept will order answers ran stop.fleet refl valid hs shown r recovers.loss)
