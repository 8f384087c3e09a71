use Rattle.std.proofs.Common.{◌≡◌, sym, subst}
use Rattle.master_core.specs.log_laws.Steps.{restored}
use Rattle.master_core.specs.master_state.Data.{MasterData}
use Rattle.master_core.specs.master_state.Invariant.{IsCore}
use Rattle.master_core.specs.master_state.Loading.{IsBare}
use Rattle.master_core.specs.master_state.Log.{fail_config, log_of}
use Rattle.master.specs.Invariant.{IsWellLoaded}
use Rattle.master.proofs.Loaded.{restored_loaded}
use Rattle.master.proofs.master.Master.restore.Goals as goal

pub invariant_of-loading : goal.invariant_of-loading
invariant_of-loading g c =
    let made = c.in-Ok.ensures.made in
    subst (λ (m : MasterData). IsWellLoaded m (g.F.Fleet.state c.args.fleet)) (sym made)
    (restored_loaded c.args.config c.args.safe (g.F.Fleet.state c.args.fleet) c.requires.config
    (subst IsCore made c.in-Ok.ensures.valid)
    (subst (λ (m : MasterData). log_of m ≡ restored (fail_config c.args.config) c.args.safe) made c.in-Ok.ensures.log)
    (subst IsBare made c.in-Ok.ensures.bare) c.requires.backups c.requires.none c.requires.least)
