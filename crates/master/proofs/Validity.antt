-- What is kept is valid.
use Rattle.replica.specs.Picture.{FleetState}
use Rattle.master_core.proofs.log_memory.KeptFleets.{kept_is_sound, kept_is_covered, kept_is_durable}
use Rattle.master_core.specs.master_state.Data.{MasterData}
use Rattle.master_core.specs.master_state.Log.{log_of, memory_of}
use Rattle.master_core.proofs.master_state.Finding.{indexed}
use Rattle.master.specs.Invariant.{IsWellKept}
use Rattle.master.specs.Valid.{IsValid}
use Rattle.master.proofs.Counting.{counted, pushed_all, head_homes, kept_unfailed}
use Rattle.master.proofs.FewLost.{survives_few}
use Rattle.master.proofs.LogSets.{imaged}

pub valid : (d : MasterData) (f : FleetState) → IsWellKept d f → IsValid d f
valid d f kept =
    let sound = kept_is_sound (log_of d) (memory_of d) f kept.kept in
    record {
      config = kept.core.config;
      history = kept.core.history;
      legal = kept.core.legal;
      index = indexed d kept.core;
      safe = kept.core.index.safe;
      imaged = imaged d kept.core;
      budget = kept.core.budget;
      sound = sound.0;
      newest = sound.1;
      placed = kept.placed;
      whole = kept.core.whole;
      survive = survives_few d f kept;
      covered = kept_is_covered (log_of d) (memory_of d) f kept.kept;
      durable = kept_is_durable (log_of d) (memory_of d) f kept.kept (head_homes d kept.core kept.placed);
      counted = counted d kept.core kept.placed (kept_unfailed d f kept.kept);
      pushed = pushed_all d kept.core kept.placed (kept_unfailed d f kept.kept);
    }
