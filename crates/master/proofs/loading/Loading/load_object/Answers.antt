use Rattle.std.proofs.Common.{◌≡◌, sym, subst}
use Rattle.std.specs.Prelude.{Result, Ok, Err, OnOk, OnErr}
use Rattle.entry.specs.declared.entry.Object.{Object}
use Rattle.entry.specs.View.{shown_object}
use Rattle.replica.specs.Picture.{FleetState}
use Rattle.master_core.specs.master_state.declared.step.Refusal.{Refusal}
use Rattle.master_core.specs.master_state.Data.{MasterData}
use Rattle.master_core.specs.master_state.Invariant.{IsCore}
use Rattle.master_core.specs.master_state.Loading.{IsBare, Loads, MayLoadNow}
use Rattle.master.specs.Invariant.{IsWellLoaded}
use Rattle.master.proofs.Loaded.{object_is_loaded}
use Rattle.master.proofs.loading.Loading.load_object.Goals as goal

-- whether it was loaded or refused
loaded_then : (d e : MasterData) (f : FleetState) (o : Object) (result : Result (Unit {0}) Refusal) → IsWellLoaded d f
    → OnOk result (Loads d o e)
    → OnOk result (MayLoadNow d o) → OnOk result (IsCore e) → OnOk result (IsBare e) → OnErr result (e ≡ d)
    → IsWellLoaded e f
loaded_then d e f o (Ok u) loaded is may core bare same = object_is_loaded d e f o loaded is may core bare
loaded_then d e f o (Err r) loaded is may core bare same =
    subst (λ (m : MasterData). IsWellLoaded m f) (sym same) loaded

pub invariant_of-self : goal.invariant_of-self
invariant_of-self g c =
    loaded_then c.self.inside.core c.load.new.core (g.F.Fleet.state c.self.inside.fleet)
    (shown_object c.args.object.now) c.load.result c.self.invariant
    c.load.ensures.loaded c.load.ensures.may c.load.ensures.valid c.load.ensures.bare c.load.ensures.err
