use Rattle.std.proofs.Common.{sym, subst}
use Rattle.master_core.specs.master_state.Data.{MasterData}
use Rattle.master_core.specs.master_state.Invariant.{IsCore}
use Rattle.master.specs.Invariant.{IsWellKept}
use Rattle.master.proofs.Starting.{fresh_kept}
use Rattle.master.proofs.master.Master.new.Goals as goal

pub invariant_of-master : goal.invariant_of-master
invariant_of-master g c =
    subst (λ (m : MasterData). IsWellKept m (g.F.Fleet.state c.args.fleet)) (sym c.in-Ok.ensures.made)
    (fresh_kept c.args.config (g.F.Fleet.state c.args.fleet) c.requires.config
    (subst IsCore c.in-Ok.ensures.made c.in-Ok.ensures.valid)
    c.requires.backups c.requires.none c.requires.least)
