-- A master whose backup has failed has the log of a failover that begins.
use Rattle.std.proofs.Common.{◌≡◌, Bool, true, false, ℕ, [], ◌∷◌, refl, sym, ap, ◌∙◌}
use Rattle.std.specs.Prelude.{Option, Some, None, not, if◌then◌else◌}
use Rattle.std.specs.Option.{option_map_or}
use Rattle.log_head.specs.declared.head.Roll.{Roll}
use Rattle.log_head.specs.Log.{start_of}
use Rattle.master_core.specs.log_laws.Data.{Calm, Rolls, Mends, durable_of}
use Rattle.master_core.specs.log_laws.Steps.{failing, MayFail, new_heads}
use Rattle.master_core.specs.master_state.declared.failover.Failover.{Failover}
use Rattle.master_core.specs.master_state.Data.{MasterData}
use Rattle.master_core.specs.master_state.Ledger.{took_in, counts_in, shut_in}
use Rattle.master_core.specs.master_state.Log.{calm_mode, durable_now, fail_config, in_force, is_headless, is_opened}
use Rattle.master_core.specs.master_state.Log.{log_of}
use Rattle.master_core.specs.master_state.Log.{mode_of, opening_of}
use Rattle.master_core.specs.master_state.Steps.{lost_data, may_lose, new_heads_in}
use Rattle.master_core.proofs.master_state.LostCore.{Loses, loses}
use Rattle.master.proofs.InForce.{mode_calm, never_fails, none_head, real_head}

module _ (d : MasterData) (may : Loses d) where
  -- the head in force stays
  head_stays : (b : ℕ) → in_force (lost_data d b) ≡ in_force d
  head_stays b =
      ap (λ (t : Bool). if t then none_head d.config.format else real_head d.head) (sym headless)
    where
      headless : is_headless d ≡ not (is_opened d.head)
      headless =
          ap (λ (o : Option Failover). option_map_or (λ (f : Failover). f.is_first) o (not (is_opened d.head))) may.calm

  -- the new heads of a roll are abandoned
  abandons : new_heads_in d.head ≡ new_heads (mode_of d)
  abandons = sym (ap new_heads (mode_calm d may.calm) ∙ go (is_opened d.head) refl) where
    by_roll : (o : Option Roll)
        → new_heads (option_map_or (λ (r : Roll). Rolls (start_of r)) o Calm)
        ≡ option_map_or (λ (r : Roll). start_of r ∷ []) o []
    by_roll None = refl
    by_roll (Some r) = refl

    go : (t : Bool) → is_opened d.head ≡ t → new_heads (calm_mode d.head) ≡ new_heads_in d.head
    go true is = rw is (by_roll d.head.roll)
    go false is = rw is refl

-- the failover's log is that of the master, with the backup failed
pub log_lost : (d : MasterData) (b : ℕ) → may_lose d ≡ true → durable_now d ≡ durable_of (log_of d)
    → log_of (lost_data d b) ≡ failing (log_of d) b
log_lost d b may counted =
    let lets = loses d may in
    let heads = abandons d lets in
    let head = head_stays d lets b in
    λ i. record {
      config = fail_config d.config;
      opening = opening_of d;
      history = d.history;
      head = head i;
      counts = counts_in d.ledger;
      shut = shut_in d.ledger;
      mode = Mends;
      abandoned = heads i;
      took = took_in d.ledger;
      failed = b ∷ d.failed;
      frozen = counted i;
      next = d.next;
    }

-- the laws of the log let a failover begin
pub may_fail : (d : MasterData) → may_lose d ≡ true → MayFail (log_of d)
may_fail d may =
    let lets = loses d may in record { two = lets.two; works = never_fails d lets.calm }
