-- A push that comes next is one of the head while no failover is open, or one of the open failover.
use Rattle.std.proofs.Common.{◌≡◌, ◌<◌, inl, inr, refl, sym, ap, subst, arith}
use Rattle.std.specs.Prelude.{Option, Some, None, IsSome}
use Rattle.std.specs.Option.{option_map_or}
use Rattle.std.proofs.lemmas.Option.{slice_get_within}
use Rattle.log_head.specs.declared.next.Next.{Next}
use Rattle.log_head.specs.declared.next.Next.TheVariants as nexts
use Rattle.log_head.specs.Head.{HeadValue, IsHeadValue}
use Rattle.log_head.specs.Next.{IsNextPush, replica_of}
use Rattle.log_head.proofs.Rolls.{rolls}
use Rattle.master_state.specs.declared.failover.Failover.{Failover}
use Rattle.master_state.specs.declared.failover.Part.{Part}
use Rattle.master_state.specs.declared.failover.Part.TheVariants as part
use Rattle.master_state.specs.Data.{MasterData}
use Rattle.master_state.specs.Steps.{pushed_data}
use Rattle.master_failover.specs.declared.push.Push.{Push}
use Rattle.master_failover.specs.declared.push.Push.TheVariants as push
use Rattle.master_failover.specs.Mending.{IsInPart, IsNextMend, IsNextPushOf, mended_data, pushed}

in_part_fails : (d : MasterData) (p : Part) → IsInPart d p → IsSome d.failover
in_part_fails d p is = subst (λ (o : Option Failover). IsSome o) (sym is.1) refl

pub mend_fails : (d : MasterData) (p : Push) → IsNextMend d p → IsSome d.failover
mend_fails d (push.Head (nexts.Extend j)) next = in_part_fails d part.Mends next.0
mend_fails d (push.Head (nexts.OpenWhole j)) next = in_part_fails d part.Mends next.0
mend_fails d push.Turn next = in_part_fails d part.Mends next.0
mend_fails d (push.Head (nexts.OpenNew j)) next = in_part_fails d part.Opens next.0.0
mend_fails d (push.Head (nexts.OpenFirst j)) next = in_part_fails d part.Opens next.0.0
mend_fails d (push.Raise id) next = in_part_fails d part.Opens next.0
mend_fails d (push.Head (nexts.CloseOld j)) next = in_part_fails d part.Closes next.0
mend_fails d (push.Repair s j) next = in_part_fails d part.Repairs next.0

pub not_calm : (o : Option Failover) → o ≡ None → IsSome o → ⊥
not_calm None none some = cc
not_calm (Some f) none some = cc

-- one of a failover comes next
pub next_of : (d : MasterData) (p : Push) → IsNextMend d p → IsNextPushOf d (Some p)
next_of d (push.Head n) next = inr next
next_of d push.Turn next = next
next_of d (push.Raise id) next = next
next_of d (push.Repair s j) next = next

-- and while one is open, what comes next is one of it
pub mends : (d : MasterData) (p : Push) → IsSome d.failover → IsNextPushOf d (Some p) → IsNextMend d p
mends d (push.Head n) some (inl calm) = absurd (not_calm d.failover calm.0 some)
mends d (push.Head n) some (inr next) = next
mends d push.Turn some next = next
mends d (push.Raise id) some next = next
mends d (push.Repair s j) some next = next

pub calms : (d : MasterData) (n : Next) → d.failover ≡ None → IsNextPushOf d (Some (push.Head n))
    → IsNextPush d.head (Some n)
calms d n calm (inl next) = next.1
calms d n calm (inr next) = absurd (not_calm d.failover calm (mend_fails d (push.Head n) next))

-- what the core becomes
pub mends_as : (d : MasterData) (p : Push) → IsSome d.failover → pushed d p ≡ mended_data d p
mends_as d (push.Head n) some = go d.failover some where
  go : (o : Option Failover) → IsSome o
      → option_map_or (λ (f : Failover). mended_data d (push.Head n)) o (pushed_data d n)
      ≡ mended_data d (push.Head n)
  go None some = absurd (cc)
  go (Some f) some = refl
mends_as d push.Turn some = refl
mends_as d (push.Raise id) some = refl
mends_as d (push.Repair s j) some = refl

pub calm_as : (d : MasterData) (n : Next) → d.failover ≡ None → pushed d (push.Head n) ≡ pushed_data d n
calm_as d n calm =
    ap (λ (o : Option Failover). option_map_or (λ (f : Failover). mended_data d (push.Head n)) o (pushed_data d n))
    calm

-- ---- a push of the head while none is open

-- a replica has a small number
pub few_replicas : (h : HeadValue) → IsHeadValue h → (push : Next) → IsNextPush h (Some push) → replica_of push < 64
few_replicas h is (nexts.OpenFirst j) waits = let few = is.few in let lt = waits.1 in omega arith
few_replicas h is (nexts.Extend j) waits =
    let lt = slice_get_within h.taken j waits.1.0 waits.1.1 in
    let few = is.few in let le = is.opened in omega arith
few_replicas h is (nexts.OpenWhole j) waits = absurd waits
few_replicas h is (nexts.OpenNew j) waits = let few = is.few in let lt = waits.4 in omega arith
few_replicas h is (nexts.CloseOld j) waits =
    let lt = (rolls h waits.1 is waits.2).closed in
    let at = waits.3 in
    let few = is.few in omega arith
