use Rattle.std.proofs.Common.{ap, refl, subst, sym, ◌∙◌}
use Rattle.backup.specs.State.{fleet_state}
use Rattle.backup.specs.declared.fleet.MemoryFleet.{MemoryFleet}
use Rattle.recovery.specs.master.Valid.{IsValid}
use Rattle.embedded.specs.declared.life.Life.TheVariants.{Down}
use Rattle.embedded.proofs.life.Life.drop_master.Goals as goal

pub returns : goal.returns
returns c =
    let m = c.in-Up.master in
    rw (sym c.replace.ensures.value ∙ c.in-Up.is) (
      refl,
      ap Down c.crash.ensures.fleet,
      subst (λ (f : MemoryFleet). IsValid m.knows (fleet_state f)) c.crash.ensures.fleet c.crash.ensures.valid,
    )
