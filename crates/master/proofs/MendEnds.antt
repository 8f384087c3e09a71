-- What is shown of the data after a push of a failover, by how the log and memory go on.
use Rattle.std.proofs.Common.{◌≡◌, ◌⊎◌, false, true}
use Rattle.std.specs.Prelude.{ℕ, ◌≤◌, length, Some}
use Rattle.master_core.specs.cleaner.declared.pass.Pass.{Pass as OpenPass}
use Rattle.entry.specs.Bag.{IsAmong}
use Rattle.entry.specs.Text.{text_of}
use Rattle.log_head.specs.log_laws.Heads.{Start}
use Rattle.master_core.specs.log_laws.Data.{Repairs, FailData}
use Rattle.master_core.specs.log_laws.Steps.{ended, EndsRoll}
use Rattle.master_core.specs.log_bytes.Text.{entries_for}
use Rattle.master_core.specs.log_memory.Loading.{IsLoadingOp}
use Rattle.master_core.specs.log_memory.Memory.{Spot, text_in}
use Rattle.master_core.specs.log_memory.Steps.{finished}
use Rattle.master_core.specs.master_failover.declared.push.Push.{Push}
use Rattle.master_core.specs.master_failover.declared.push.Push.TheVariants as push
use Rattle.master_core.specs.master_failover.Mending.{mended_data, IsNextMend}
use Rattle.master_core.specs.master_state.Budget.{victims_of, is_committing}
use Rattle.master_core.specs.master_state.Data.{MasterData}
use Rattle.master_core.specs.master_state.Invariant.{AreApart, IsCore}
use Rattle.master_core.specs.master_state.Log.{log_of, memory_of, images_of}
use Rattle.master.specs.Pushes.{IsMended, IsMendOp}
use Rattle.master.specs.Placed.{IsPlaced}
use Rattle.master.proofs.Counting.{AreUnfailed}
use Rattle.master.proofs.Ended.{segments_in}
use Rattle.master.proofs.MendOps.{mend_op}
use Rattle.master.proofs.Models.{IsModel}
use Rattle.master.proofs.NextOps.{WholeOnceShut}

-- The log is what the op led to, or the failover has ended with it; memory is the model's.
pub record IsCounted (d e : MasterData) (mid : FailData) : Type 0 where
  pub log : IsMended mid (log_of e)
  pub model : IsModel e (memory_of d)
  pub waiting : e.waiting ≡ d.waiting

-- The new head is in force.
pub record IsRolled (d e : MasterData) (mid : FailData) : Type 0 where
  pub n : Start
  pub ends : EndsRoll mid n Repairs
  pub log : IsMended (ended mid n Repairs) (log_of e)
  pub ordinary : is_committing d ≡ false
  pub model : IsModel e (memory_of d)
  pub waiting : e.waiting ≡ d.waiting

-- It is that of a commit, whose pass has ended.
pub record IsCommitted (d e : MasterData) (mid : FailData) : Type 0 where
  pub n : Start
  pub ends : EndsRoll mid n Repairs
  pub log : IsMended (ended mid n Repairs) (log_of e)
  pub pass : OpenPass
  pub opened : d.pass ≡ Some pass
  pub commits : is_committing d ≡ true
  pub model : IsModel e (finished mid (memory_of d))
  pub apart : AreApart (segments_in d.waiting)
      → ((w : Spot) → IsAmong w (memory_of d).waiting → IsAmong w.segment (victims_of d.pass) → ⊥)
      → AreApart (segments_in e.waiting)

abbrev pub IsAfterMend : MasterData → MasterData → FailData → Type 0
IsAfterMend d e mid = IsCounted d e mid ⊎ (IsRolled d e mid ⊎ IsCommitted d e mid)

-- what is sealed anew is within the limit of a segment
abbrev pub IsLimited : MasterData → Push → Type 0
IsLimited d (push.Repair s j) = length (text_of (images_of d s)) ≤ 8388608
IsLimited d _ = Unit {0}

-- A push that is next, of a master that is well.
pub record MayMend (d : MasterData) (m : Push) : Type 0 where
  pub core : IsCore d
  pub placed : IsPlaced d
  pub unfailed : AreUnfailed d
  pub shut : WholeOnceShut d
  pub next : IsNextMend d m
  pub limited : IsLimited d m
  -- memory has of a segment of the digest just a text with its header
  pub texts : (s : ℕ) → IsAmong s (log_of d).head.start.others
      → entries_for d.config.master s (text_in (memory_of d) s) ≡ images_of d s

-- What it does.
pub record IsMendPush (d : MasterData) (m : Push) : Type 0 where
  pub mid : FailData
  pub op : IsLoadingOp (log_of d) (memory_of d) (mend_op d m) mid
  -- its op is one of the push
  pub asks : (e : FailData) × IsMendOp d m (mend_op d m) e
  pub does : IsCore (mended_data d m) → IsMendOp d m (mend_op d m) (log_of (mended_data d m))
  -- the core is valid once the op is counted
  pub after : IsCore (mended_data d m) → IsAfterMend d (mended_data d m) mid
  pub placed : IsPlaced (mended_data d m)
