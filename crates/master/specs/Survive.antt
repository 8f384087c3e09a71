-- Which losses a log always survives: of fewer backups than a segment has replicas.
use Rattle.std.specs.Prelude.{◌≡◌, ◌⊎◌, ℕ, zero, suc, ◌<◌, List, [], ◌∷◌, length, Bool, None, if◌then◌else◌}
use Rattle.entry.specs.declared.key.Key.{Key}
use Rattle.replica.specs.Picture.{FleetState}
use Rattle.replica.specs.Survival.{BothSurvive}
use Rattle.master_core.specs.log_laws.Data.{IsHome, state_after}
use Rattle.master_core.specs.log_bytes.Choice.{newest_opened}
use Rattle.master_core.specs.log_memory.Fleet.{shown_for}
use Rattle.master_core.specs.master_state.Data.{MasterData}
use Rattle.master_core.specs.master_state.Log.{log_of}

-- the backups that are not kept, of so many, numbered from 0
abbrev pub lost : (ℕ → Bool) → ℕ → List ℕ
lost keep zero = []
lost keep (suc b) = if keep b then lost keep b else b ∷ lost keep b

-- While no failover is open: if fewer backups are lost than a segment has replicas, both the head and the segments
-- survive. Or no head was open yet, and no key ever had a value.
abbrev pub SurvivesFew : MasterData → FleetState → Type 0
SurvivesFew d f = (keep : ℕ → Bool) → d.failover ≡ None → length (lost keep d.config.backups) < d.config.replicas
    → BothSurvive (IsHome (log_of d)) (newest_opened (log_of d)) (shown_for (log_of d) f) d.config.master keep
    ⊎ ((count : ℕ) (k : Key) → (state_after (log_of d) count).contents k ≡ None)
