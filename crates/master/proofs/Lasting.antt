-- What holds of a log, its memory and its fleet lasts through ops and rolls: of a master, or of one that is loading.
use Rattle.std.proofs.Common.{◌≡◌, ◌≤◌, inl, List, refl, sym, ap, subst, ◌∙◌, false, []}
use Rattle.replica.specs.Picture.{FleetState}
use Rattle.replica.specs.declared.op.TakeFault.TheVariants as take_fault
use Rattle.versioned_map.specs.declared.command.Record.{Record}
use Rattle.versioned_map.specs.Versioned.{State}
use Rattle.master_core.specs.log_laws.Tracked.{IsTracked}
use Rattle.log_head.specs.log_laws.Heads.{Start}
use Rattle.master_core.specs.log_laws.Data.{bare, Mode, FailData, state_of}
use Rattle.master_core.specs.log_laws.Log.{Texts, IsLogHeld}
use Rattle.master_core.specs.log_laws.Runs.{IsThere}
use Rattle.master_core.specs.log_laws.Shown.{Op}
use Rattle.master_core.specs.log_laws.Steps.{rolling, next_start, MayTurn, ended, EndsRoll}
use Rattle.master_core.specs.log_bytes.Ops.{IsOnFleet, TakesOp, RefusesOp}
use Rattle.master_core.specs.log_bytes.Text.{IsWholeText}
use Rattle.master_core.specs.log_memory.Covered.{map_of}
use Rattle.master_core.specs.log_memory.Fleet.{read_of, HoldsAll, HoldsLoading}
use Rattle.master_core.specs.log_memory.Memory.{FailMemory, log_set_of}
use Rattle.master_core.specs.log_memory.Ops.{IsHeadOp}
use Rattle.master_core.specs.log_memory.Same.{IsSameMemory}
use Rattle.master_core.specs.log_memory.Steps.{rolled}
use Rattle.master_core.proofs.log_memory.FleetAnswers.{ok_holds_all, op_is_never_wrong}
use Rattle.master_core.proofs.log_memory.FleetSteps.{same_holds_all, roll_holds_all, end_holds_all}
use Rattle.master_core.proofs.log_memory.LoadingFleets.{ok_holds_loading, loading_is_never_wrong, roll_holds_loading}
use Rattle.master_core.proofs.log_memory.LoadingFleets.{end_holds_loading, same_holds_loading}
use Rattle.std.specs.Prelude.{map}
use Rattle.master_core.specs.master_state.declared.config.Config.{Config}
use Rattle.master_core.specs.master_state.declared.waiting.Waiting.{Waiting}
use Rattle.master_core.specs.master_state.Data.{MasterData}
use Rattle.master_core.specs.master_state.Invariant.{AreApart, IsCore}
use Rattle.master_core.specs.master_state.Loading.{IsBare}
use Rattle.master_core.specs.master_state.Log.{log_of, memory_of}
use Rattle.master.specs.Invariant.{IsWellKept, IsWellLoaded}
use Rattle.master.specs.Placed.{IsPlaced}

-- Laws of what holds of a log, its memory and the fleet.
pub record Lasts (Holds : FailData → FailMemory → FleetState → Type 0) : Type 0 where
  -- the backups hold the log's texts
  pub held : (d : FailData) (m : FailMemory) (f : FleetState) → Holds d m f
      → (texts : Texts) × IsLogHeld d texts (read_of d f)
  -- images and index track the map over some texts
  pub tracked : (d : FailData) (m : FailMemory) (f : FleetState) → Holds d m f
      → (texts : Texts) × IsTracked (log_set_of d m texts) m.pass m.index (map_of d)
  -- another memory serves it that leads to the same objects
  pub same : (d : FailData) (m n : FailMemory) (f : FleetState) → Holds d m f → IsSameMemory d m n → Holds d n f
  -- an op of the head that is taken
  pub take : (d e : FailData) (m : FailMemory) (f g : FleetState) (o : Op) → Holds d m f → IsHeadOp d o e
      → IsThere d.config o → TakesOp d.config.master f o g → Holds e m g
  -- it is never wrong
  pub right : (d e : FailData) (m : FailMemory) (f g : FleetState) (o : Op) → Holds d m f → IsHeadOp d o e
      → IsOnFleet f o → RefusesOp d.config.master f o take_fault.Wrong g → ⊥
  -- an ordinary roll begins
  pub roll : (d : FailData) (m : FailMemory) (f : FleetState) (mode : Mode) → Holds d m f → MayTurn d mode
      → IsWholeText d.config.master (next_start d).id (bare (next_start d))
      → Holds (rolling d (next_start d) mode) (rolled d m (next_start d) false) f
  -- one ends
  pub ends : (d : FailData) (m : FailMemory) (f : FleetState) (n : Start) (mode : Mode) → Holds d m f
      → EndsRoll d n mode → m.commits ≡ false → Holds (ended d n mode) m f

pub all_lasts : Lasts HoldsAll
all_lasts = record {
  held = λ d m f holds. (holds.keeps.intact.log.texts, holds.keeps.intact.log.held);
  tracked = λ d m f holds. (holds.keeps.intact.log.texts, holds.keeps.intact.tracked);
  same = λ d m n f holds same. (same_holds_all d m n f same).0 holds;
  take = λ d e m f g o holds op there took. ok_holds_all d e m m f g o holds (inl (op, refl)) there took;
  right = λ d e m f g o holds op on refused. op_is_never_wrong d e m m f g o holds (inl (op, refl)) on refused;
  roll = roll_holds_all;
  ends = end_holds_all;
}

-- one that is loading has no history, so its map is the opening
opening_is : (d : FailData) → d.history ≡ [] → d.opening ≡ state_of d
opening_is d none = sym (ap (λ (rs : List Record). state_of (record d { history = rs })) none)

pub loading_lasts : Lasts HoldsLoading
loading_lasts = record {
  held = λ d m f holds. (holds.loading.texts, holds.loading.held);
  tracked = λ d m f holds. (
    holds.loading.texts,
    subst (λ (s : State). IsTracked (log_set_of d m holds.loading.texts) m.pass m.index s.contents)
        (opening_is d holds.loading.begins) holds.loading.tracked,
  );
  same = λ d m n f holds same. same_holds_loading d m n f same holds;
  take = ok_holds_loading;
  right = loading_is_never_wrong;
  roll = roll_holds_loading;
  ends = λ d m f n mode holds ends ordinary. end_holds_loading d m f n mode holds ends;
}

-- ---- a master that no fault has halted, and one that is loading

-- All of it, whatever holds of the log, memory and the fleet.
pub record IsKeptAs (Holds : FailData → FailMemory → FleetState → Type 0) (d : MasterData) (f : FleetState)
    : Type 0 where
  pub core : IsCore d
  pub placed : IsPlaced d
  pub holds : Holds (log_of d) (memory_of d) f
  pub backups : d.config.backups ≤ f.backups
  pub apart : AreApart (map (λ (w : Waiting). w.segment) d.waiting)

pub kept_as : (d : MasterData) (f : FleetState) → IsWellKept d f → d.is_halted ≡ false → IsKeptAs HoldsAll d f
kept_as d f kept running = record {
  core = kept.core;
  placed = kept.placed;
  holds = kept.known running;
  backups = kept.backups;
  apart = kept.apart;
}

pub well_kept : (d : MasterData) (f : FleetState) → IsKeptAs HoldsAll d f → IsWellKept d f
well_kept d f kept = record {
  core = kept.core;
  placed = kept.placed;
  kept = kept.holds.keeps;
  known = λ running. kept.holds;
  backups = kept.backups;
  apart = kept.apart;
}

pub loaded_as : (d : MasterData) (f : FleetState) → IsWellLoaded d f → d.is_halted ≡ false → IsKeptAs HoldsLoading d f
loaded_as d f loaded running = record {
  core = loaded.core;
  placed = loaded.placed;
  holds = loaded.loading running;
  backups = loaded.backups;
  apart = subst (λ (ws : List Waiting). AreApart (map (λ (w : Waiting). w.segment) ws)) (sym loaded.bare.waiting) tt;
}

pub well_loaded : (d : MasterData) (f : FleetState) → IsKeptAs HoldsLoading d f → IsBare d → d.is_halted ≡ false
    → IsWellLoaded d f
well_loaded d f kept bare running = record {
  core = kept.core;
  bare = bare;
  placed = kept.placed;
  loading = λ going. kept.holds;
  backups = kept.backups;
  halted = λ is. absurd (let both = sym is ∙ running in cc);
}

-- ---- no op

-- a step that hands no op to a backup
pub unhanded_kept : {Holds : FailData → FailMemory → FleetState → Type 0} (d e : MasterData) (f : FleetState)
    → IsKeptAs Holds d f → IsCore e → IsPlaced e → e.config ≡ d.config → e.waiting ≡ d.waiting
    → Holds (log_of e) (memory_of e) f → IsKeptAs Holds e f
unhanded_kept d e f kept core placed config waiting then_holds = record {
  core = core;
  placed = placed;
  holds = then_holds;
  backups = subst (λ (c : Config). c.backups ≤ f.backups) (sym config) kept.backups;
  apart = subst (λ (ws : List Waiting). AreApart (map (λ (w : Waiting). w.segment) ws)) (sym waiting) kept.apart;
}
