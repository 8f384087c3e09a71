-- While no failover is open, no replica is lost of a segment that the head lists.
use Rattle.std.proofs.Common.{◌≡◌, inl, inr, length, ap, subst, ◌∙◌, arith}
use Rattle.std.specs.Prelude.{ℕ, ◌≤◌, None}
use Rattle.entry.specs.Bag.{IsAmong}
use Rattle.images.specs.Sorted.{replicas_of}
use Rattle.log_head.specs.Log.{head_of}
use Rattle.master_core.proofs.cleaner.Lacking.{none_is_lacking}
use Rattle.master_core.specs.log_laws.Data.{FailData, Head, homes}
use Rattle.master_core.specs.log_laws.Steps.{mended, NoneIsLost}
use Rattle.master_core.specs.master_state.Data.{MasterData}
use Rattle.master_core.specs.master_state.Invariant.{IsCore}
use Rattle.master_core.specs.master_state.Log.{log_of}
use Rattle.master.specs.Placed.{IsPlaced}
use Rattle.master.proofs.InForce.{headed_or, force_headed, force_headless}
use Rattle.master.proofs.LogSets.{closed_in}
use Rattle.master.proofs.Placements.{homes_of}
use Rattle.master.proofs.Placing.{placed_length}

module _ (d : MasterData) (core : IsCore d) (at : IsPlaced d) (calm : d.failover ≡ None) where
  -- a segment that the core's head lists
  listed : (s : ℕ) → IsAmong s (head_of d.head).start.others → d.config.replicas ≤ length (homes (log_of d) s)
  listed s among =
      let there = closed_in d core s (inl among) in
      let many = (none_is_lacking d.config.replicas d.closed (head_of d.head).start.others).0
      (core.whole calm) s among in
      let count = ap length (homes_of d at s there)
      ∙ placed_length d.config d.failed s (replicas_of d.closed s) in
      omega (arith, many, count)

  pub none_is_lost : NoneIsLost (log_of d)
  none_is_lost s among = elim (headed_or d) as (λ _. d.config.replicas ≤ length (homes (log_of d) s)) [
    | inl is ↦ listed s (subst (λ (h : Head). IsAmong s h.start.others) (force_headed d is) among)
    | inr is ↦ absurd (subst (λ (h : Head). IsAmong s h.start.others) (force_headless d is) among)
  ]

-- so it was as the failover ended, which left this log
pub none_was_lost : (d : MasterData) (mid : FailData) → IsCore d → IsPlaced d → d.failover ≡ None
    → log_of d ≡ mended mid → NoneIsLost mid
none_was_lost d mid core at calm is = subst NoneIsLost is (none_is_lost d core at calm)
