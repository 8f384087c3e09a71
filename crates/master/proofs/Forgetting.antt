-- A master that forgets records keeps what every step keeps, and what is true of it stays true.
use Rattle.std.proofs.Common.{ℕ, ◌+◌, ◌≤◌, [], length, refl, sym, ap, subst, ◌∙◌, arith}
use Rattle.std.specs.Prelude.{◌^◌}
use Rattle.std.proofs.lemmas.List.{append-nil}
use Rattle.replica.specs.Picture.{FleetState}
use Rattle.master_core.specs.log_laws.Data.{durable_of}
use Rattle.master_core.proofs.log_laws.DurableSteps.{durable_is_within}
use Rattle.master_core.specs.log_memory.Fleet.{read_of}
use Rattle.master_core.specs.master_state.Data.{MasterData}
use Rattle.master_core.specs.master_state.Forgetting.{ForgetsTo, may_forget}
use Rattle.master_core.specs.master_state.Invariant.{IsCore}
use Rattle.master_core.specs.master_state.Kept.{AreFewKept}
use Rattle.master_core.specs.master_state.Log.{durable_now, log_of}
use Rattle.master.specs.Invariant.{IsWellKept}
use Rattle.master.specs.Keeps.{Keeps}
use Rattle.master.specs.Placed.{IsPlaced}
use Rattle.master.specs.Valid.{IsValid}
use Rattle.master.specs.World.{world_of}
use Rattle.master.proofs.Counting.{counted, kept_unfailed}

module _ (d : MasterData) (k : ℕ) where
  abbrev with_forgotten : MasterData
  with_forgotten = record d { forgotten = k }

  placed_then : IsPlaced d → IsPlaced with_forgotten
  placed_then p = record {
    none = p.none;
    head = p.head;
    counts = p.counts;
    unopened = p.unopened;
    whole = p.whole;
    new = p.new;
    shut = p.shut;
    closed = p.closed;
  }

  kept_then : (f : FleetState) → IsWellKept d f → IsCore with_forgotten → IsWellKept with_forgotten f
  kept_then f kept core = record {
    core = core;
    placed = placed_then kept.placed;
    kept = kept.kept;
    known = kept.known;
    backups = kept.backups;
    apart = kept.apart;
  }

  -- what is true of a master says nothing of what is forgotten, but that few records are kept
  pub forgotten_valid : (f : FleetState) → IsValid d f → AreFewKept (length d.history) k d.config.history
      → IsValid with_forgotten f
  forgotten_valid f is few = record {
    config = is.config;
    history = few;
    legal = is.legal;
    index = is.index;
    safe = is.safe;
    imaged = is.imaged;
    budget = is.budget;
    sound = is.sound;
    newest = is.newest;
    placed = placed_then is.placed;
    whole = is.whole;
    survive = is.survive;
    covered = is.covered;
    durable = is.durable;
    counted = is.counted;
    pushed = is.pushed;
  }

-- as many records as are durable there are
pub durable_within : (d : MasterData) (f : FleetState) → IsWellKept d f → durable_now d ≤ length d.history
durable_within d f kept =
    let le = durable_is_within (log_of d) (read_of (log_of d) f) kept.kept.intact.log in
    let same = counted d kept.core kept.placed (kept_unfailed d f kept.kept) in
    omega (arith, le, same)

module _ (d e : MasterData) (n : ℕ) (is : ForgetsTo n d e) where
  pub forgets_kept : (f : FleetState) → IsWellKept d f → IsCore e → IsWellKept e f
  forgets_kept f kept core =
      subst (λ (m : MasterData). IsWellKept m f) (sym is.rest)
      (kept_then d e.forgotten f kept (subst IsCore is.rest core))

  pub forgets_near : (f : FleetState) → IsWellKept d f → may_forget n d ≤ 2 ^ 62 → may_forget n d ≤ e.forgotten + 1024
  forgets_near f kept few =
      let within = durable_within d f kept in
      is.near (omega (arith, within)) few

  pub forgets_keep : (f : FleetState) → Keeps 0 (world_of d f) (world_of e f)
  forgets_keep f =
      let same = ap (λ (x : MasterData). durable_of (log_of x)) is.rest in
      record {
        config = ap (λ (x : MasterData). x.config) is.rest;
        origin = ap (λ (x : MasterData). x.origin) is.rest;
        takes = (omega arith, omega arith);
        others = λ b m s other. refl;
        least = λ m other. refl;
        durable = omega (arith, same);
        forgotten = is.least;
        history = ([], ap (λ (x : MasterData). x.history) is.rest ∙ sym (append-nil d.history));
      }
