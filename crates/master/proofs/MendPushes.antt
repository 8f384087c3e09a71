-- Each push of a failover that is next does what the log's model says, and hands over its bytes.
use Rattle.std.proofs.Common.{◌≡◌, ℕ, ◌<◌, Bool, true, false, List, [], ◌++◌, length, refl, sym, ap}
use Rattle.std.proofs.Common.{subst, ◌∙◌, arith}
use Rattle.std.specs.Prelude.{Option, Some, None, IsSome, unwrap_or}
use Rattle.std.specs.Option.{option_map_or}
use Rattle.std.proofs.lemmas.Option.{slice_get_within}
use Rattle.entry.specs.declared.entry.Entry.{Entry}
use Rattle.entry.specs.Text.{text_of}
use Rattle.replica.specs.Op.{OpValue, Open as OpenBytes, Extend as ExtendBytes, Seal as SealBytes}
use Rattle.log_head.specs.declared.head.Roll.{Roll}
use Rattle.log_head.specs.Log.{head_of, start_of}
use Rattle.log_head.specs.Next.{units_of}
use Rattle.log_head.proofs.HeadLog.{end_is, front_is, part_is, count_is}
use Rattle.log_head.proofs.Rolls.{rolls}
use Rattle.log_head.specs.log_laws.Heads.{start_entries}
use Rattle.log_head.specs.log_laws.Ops.{op_of}
use Rattle.log_head.specs.declared.next.Next.TheVariants as nexts
use Rattle.master_core.specs.log_laws.Data.{front, bare}
use Rattle.master_core.specs.log_laws.Shown.{Open, On}
use Rattle.master_core.specs.log_bytes.Ops.{act_for, log_op_for}
use Rattle.master_core.proofs.log_bytes.Texts.{length_is}
use Rattle.master_core.specs.master_failover.declared.push.Push.{Push}
use Rattle.master_core.specs.master_failover.declared.push.Push.TheVariants as push
use Rattle.master_core.specs.master_failover.Mending.{IsNextMend, IsLater, IsOnReplica, was_headless, backup_for}
use Rattle.master_core.specs.master_failover.Mending.{segment_for, replica_for, op_now}
use Rattle.master_core.proofs.master_failover.Changed.{own, was_is, headless_is}
use Rattle.master_core.proofs.master_failover.Sought.{is_other, fewer}
use Rattle.master_core.specs.master_state.declared.failover.Failover.{Failover}
use Rattle.master_core.specs.master_state.declared.failover.Part.{Part}
use Rattle.master_core.specs.master_state.declared.failover.Part.TheVariants as part
use Rattle.master_core.specs.master_state.Data.{MasterData}
use Rattle.master_core.specs.master_state.Invariant.{IsCore, IsFailover}
use Rattle.master.proofs.InForce.{real_head, others_in}
use Rattle.master.proofs.MendCloses.{close_push}
use Rattle.master.proofs.MendEnds.{MayMend, IsMendPush}
use Rattle.master.proofs.MendHeads.{extend_push, replace_push, open_push, raise_push, open_first_push, raise_first_push}
use Rattle.master.proofs.MendOps.{at_part, as_part, is_at, mend_act, mend_op}
use Rattle.master.proofs.MendSeals.{seal_push}
use Rattle.master.proofs.NextOps.{roll_of, start_id}

-- ---- each push

module _ (d : MasterData) (m : Push) (roll : Option Roll) (f : Failover) (p : Part) (first : Bool)
    (rolling : d.head.roll ≡ roll) (failing : d.failover ≡ Some f) (part_is : f.part ≡ p)
    (first_is : f.is_first ≡ first) where
  -- it is enough to look at a master whose roll and failover are written out
  at_its_part : (MayMend (at_part d roll (as_part f p first)) m → IsMendPush (at_part d roll (as_part f p first)) m)
      → MayMend d m → IsMendPush d m
  at_its_part does may =
      let path = is_at d roll f p first rolling failing part_is first_is in
      subst (λ (x : MasterData). IsMendPush x m) (sym path) (does (subst (λ (x : MasterData). MayMend x m) path may))

module _ (d : MasterData) (core : IsCore d) (f : Failover) (is : d.failover ≡ Some f) where
  abbrev fails : IsFailover d f
  fails = own d core f is

  headed_first : was_headless d ≡ false → f.is_first ≡ false
  headed_first test = sym (was_is d core f is) ∙ test

  rolls_later : (r : Roll) → d.head.roll ≡ Some r → f.is_first ≡ false
  rolls_later r rolling = go f.is_first refl where
    go : (t : Bool) → f.is_first ≡ t → f.is_first ≡ false
    go true test = absurd (let none = (fails.first test).0 in let both = sym none ∙ rolling in cc)
    go false test = test

  none_first : f.part ≡ part.Opens → d.head.roll ≡ None → f.is_first ≡ true
  none_first opens none = go f.is_first refl where
    go : (t : Bool) → f.is_first ≡ t → f.is_first ≡ true
    go true test = test
    go false test = absurd (let some = subst (λ (o : Option Roll). IsSome o) none (fails.opens opens test).0 in cc)

pub mend_push : (d : MasterData) (m : Push) → MayMend d m → IsLater m → IsMendPush d m
mend_push d (push.Head (nexts.Extend j)) may later =
    let f = may.next.0.0 in
    let is = may.next.0.1 in
    at_its_part d (push.Head (nexts.Extend j)) None f part.Mends false ((fails d may.core f is).mends may.next.0.2).0
    is may.next.0.2
    (headed_first d may.core f is may.next.1) (extend_push d f j) may
mend_push d (push.Head (nexts.OpenWhole j)) may later =
    let f = may.next.0.0 in
    let is = may.next.0.1 in
    subst (λ (i : ℕ). IsMendPush d (push.Head (nexts.OpenWhole i))) (sym may.next.3)
    (at_its_part d (push.Head (nexts.OpenWhole (length d.head.taken))) None f part.Mends false
    ((fails d may.core f is).mends may.next.0.2).0 is may.next.0.2 (headed_first d may.core f is may.next.1)
    (replace_push d f) (subst (λ (i : ℕ). MayMend d (push.Head (nexts.OpenWhole i))) may.next.3 may))
mend_push d push.Turn may later = absurd later
mend_push d (push.Head (nexts.OpenNew j)) may later = go d.head.roll refl where
  go : (o : Option Roll) → d.head.roll ≡ o → IsMendPush d (push.Head (nexts.OpenNew j))
  go (Some r) rolling =
      let f = may.next.0.0.0 in
      let is = may.next.0.0.1 in
      let at : j ≡ r.opened =
      may.next.0.1 ∙ ap (λ (o : Option Roll). option_map_or (λ (q : Roll). q.opened) o (length d.head.taken)) rolling in
      subst (λ (i : ℕ). IsMendPush d (push.Head (nexts.OpenNew i))) (sym at)
      (at_its_part d (push.Head (nexts.OpenNew r.opened)) (Some r) f part.Opens false rolling is may.next.0.0.2
      (rolls_later d may.core f is r rolling) (open_push d r f)
      (subst (λ (i : ℕ). MayMend d (push.Head (nexts.OpenNew i))) at may))
  go None none = absurd (let some = subst (λ (o : Option Roll). IsSome o) none may.next.1 in cc)
mend_push d (push.Head (nexts.OpenFirst j)) may later =
    let f = may.next.0.0.0 in
    let is = may.next.0.0.1 in
    let none = may.next.1 in
    let at : j ≡ length d.head.taken =
    may.next.0.1 ∙ ap (λ (o : Option Roll). option_map_or (λ (q : Roll). q.opened) o (length d.head.taken)) none in
    subst (λ (i : ℕ). IsMendPush d (push.Head (nexts.OpenFirst i))) (sym at)
    (at_its_part d (push.Head (nexts.OpenFirst (length d.head.taken))) None f part.Opens true none is may.next.0.0.2
    (none_first d may.core f is may.next.0.0.2 none) (open_first_push d f)
    (subst (λ (i : ℕ). MayMend d (push.Head (nexts.OpenFirst i))) at may))
mend_push d (push.Raise id) may later = go d.head.roll refl where
  go : (o : Option Roll) → d.head.roll ≡ o → IsMendPush d (push.Raise id)
  go (Some r) rolling =
      let f = may.next.0.0 in
      let is = may.next.0.1 in
      let at : id ≡ r.id =
      may.next.2 ∙ ap (λ (o : Option Roll). option_map_or (λ (q : Roll). q.id) o d.head.id) rolling in
      subst (λ (i : ℕ). IsMendPush d (push.Raise i)) (sym at)
      (at_its_part d (push.Raise r.id) (Some r) f part.Opens false rolling is may.next.0.2
      (rolls_later d may.core f is r rolling) (raise_push d r f)
      (subst (λ (i : ℕ). MayMend d (push.Raise i)) at may))
  go None none =
      let f = may.next.0.0 in
      let is = may.next.0.1 in
      let at : id ≡ d.head.id =
      may.next.2 ∙ ap (λ (o : Option Roll). option_map_or (λ (q : Roll). q.id) o d.head.id) none in
      subst (λ (i : ℕ). IsMendPush d (push.Raise i)) (sym at)
      (at_its_part d (push.Raise d.head.id) None f part.Opens true none is may.next.0.2
      (none_first d may.core f is may.next.0.2 none) (raise_first_push d f)
      (subst (λ (i : ℕ). MayMend d (push.Raise i)) at may))
mend_push d (push.Head (nexts.CloseOld j)) may later =
    let f = may.next.0.0 in
    let is = may.next.0.1 in
    let r = may.next.1 in
    subst (λ (i : ℕ). IsMendPush d (push.Head (nexts.CloseOld i))) (sym may.next.3)
    (at_its_part d (push.Head (nexts.CloseOld r.closed)) (Some r) f part.Closes false may.next.2 is may.next.0.2
    ((fails d may.core f is).closes may.next.0.2).0 (close_push d r f)
    (subst (λ (i : ℕ). MayMend d (push.Head (nexts.CloseOld i))) may.next.3 may))
mend_push d (push.Repair s j) may later =
    let f = may.next.0.0 in
    let is = may.next.0.1 in
    at_its_part d (push.Repair s j) None f part.Repairs false ((fails d may.core f is).repairs may.next.0.2).2 is
    may.next.0.2 ((fails d may.core f is).repairs may.next.0.2).0 (seal_push d f s j) may

-- ---- it is for one of the replicas that there should be

pub few_for_mend : (d : MasterData) (m : Push) → IsCore d → IsNextMend d m → IsOnReplica m
    → replica_for m < d.config.replicas
few_for_mend d (push.Head (nexts.Extend j)) core next on =
    let lt = slice_get_within d.head.taken j next.2.0 next.2.1 in
    let few = core.head.opened in
    let same = core.replicas in
    omega (arith, lt, few, same)
few_for_mend d (push.Head (nexts.OpenWhole j)) core next on = next.4
few_for_mend d push.Turn core next on = absurd on
few_for_mend d (push.Head (nexts.OpenNew j)) core next on = next.0.2
few_for_mend d (push.Head (nexts.OpenFirst j)) core next on = next.0.2
few_for_mend d (push.Raise id) core next on = absurd on
few_for_mend d (push.Head (nexts.CloseOld j)) core next on =
    let lt = (rolls d.head next.1 core.head next.2).closed in
    let at = next.3 in
    let same = core.replicas in
    omega (arith, lt, at, same)
few_for_mend d (push.Repair s j) core next on = fewer d core s j next

pub op_on : (d : MasterData) (m : Push) → IsOnReplica m
    → mend_op d m ≡ On (backup_for d m) (segment_for d m) (mend_act d m)
op_on d (push.Head n) on = refl
op_on d push.Turn on = absurd on
op_on d (push.Raise id) on = absurd on
op_on d (push.Repair s j) on = refl

-- ---- its bytes

-- the op in bytes
abbrev pub bytes_op : MasterData → Push → OpValue
bytes_op d m = op_of d.config.master (log_op_for d.config.master (backup_for d m) (segment_for d m) (mend_act d m))

module _ (d : MasterData) (core : IsCore d) (f : Failover) (is : d.failover ≡ Some f) where
  units_are : length d.head.units ≡ length (head_of d.head).units
  units_are = count_is d.config.master d.head (head_of d.head) core.image

  extend_bytes : (j : ℕ) → IsNextMend d (push.Head (nexts.Extend j)) → op_now d (push.Head (nexts.Extend j))
      ≡ Some (bytes_op d (push.Head (nexts.Extend j)))
  extend_bytes j waits =
      let from = units_of d.head j in
      let units : from ≡ waits.2.0 = ap (λ (x : Option ℕ). unwrap_or x 0) waits.2.1 in
      λ i. Some (record {
        master = d.config.master;
        segment = d.head.id;
        act = ExtendBytes ((end_is d.config.master d.head (head_of d.head) core.image from
            ∙ length_is d.config.master (head_of d.head).start.id (front (real_head d.head) from)) i)
            (part_is d.config.master d.head (head_of d.head) core.image from (length d.head.units)
            (let lt = waits.2.2 in omega (arith, units, lt)) i);
      })

  replace_bytes : (j : ℕ) → op_now d (push.Head (nexts.OpenWhole j)) ≡ Some (bytes_op d (push.Head (nexts.OpenWhole j)))
  replace_bytes j =
      let master = d.config.master in
      ap (λ (es : List Entry). Some (record { master = master; segment = d.head.id; act = OpenBytes (text_of es) }))
      core.image.image
      ∙ (λ i. Some (record {
        master = master;
        segment = d.head.id;
        act = act_for master (core.image.id i) (Open (front (real_head d.head) (sym units_are i)));
      }))

  -- a new head that is a roll's
  rolled_bytes : (r : Roll) → d.head.roll ≡ Some r → (j : ℕ) → op_now d (push.Head (nexts.OpenNew j))
      ≡ Some (bytes_op d (push.Head (nexts.OpenNew j)))
  rolled_bytes r rolling j =
      let master = d.config.master in
      let path : d ≡ record d { head = record d.head { roll = Some r } } =
      λ i. record d { head = record d.head { roll = rolling i } } in
      subst (λ (x : MasterData). op_now x (push.Head (nexts.OpenNew j))
      ≡ Some (bytes_op x (push.Head (nexts.OpenNew j)))) (sym path)
      (ap (λ (es : List Entry). Some (record { master = master; segment = r.id; act = OpenBytes (text_of es) }))
      (roll_of d core r rolling).image
      ∙ ap (λ (s : ℕ).
      Some (record { master = master; segment = r.id; act = act_for master s (Open (bare (start_of r))) }))
      (start_id r))

  -- and the first
  first_bytes : d.head.roll ≡ None → f.part ≡ part.Opens → (j : ℕ)
      → op_now d (push.Head (nexts.OpenFirst j)) ≡ Some (bytes_op d (push.Head (nexts.OpenFirst j)))
  first_bytes none opens j =
      let master = d.config.master in
      let n = (head_of d.head).start in
      let first = core.first (headless_is d core f is d.head ∙ none_first d core f is opens none) in
      let path : d ≡ record d { head = record d.head { roll = None } } =
      λ i. record d { head = record d.head { roll = none i } } in
      subst (λ (x : MasterData). op_now x (push.Head (nexts.OpenFirst j))
      ≡ Some (bytes_op x (push.Head (nexts.OpenFirst j)))) (sym path)
      (ap (λ (bs : List ℕ). Some (record { master = master; segment = d.head.id; act = OpenBytes bs }))
      (front_is master d.head (head_of d.head) core.image 0
      ∙ ap (λ (es : List Entry). text_of (start_entries master n ++ (es ++ []))) first.loaded)
      ∙ ap (λ (s : ℕ). Some (record { master = master; segment = d.head.id; act = act_for master s (Open (bare n)) }))
      core.image.id)

pub mend_bytes : (d : MasterData) (m : Push) → MayMend d m → IsOnReplica m → op_now d m ≡ Some (bytes_op d m)
mend_bytes d (push.Head (nexts.Extend j)) may on = extend_bytes d may.core may.next.0.0 may.next.0.1 j may.next
mend_bytes d (push.Head (nexts.OpenWhole j)) may on = replace_bytes d may.core may.next.0.0 may.next.0.1 j
mend_bytes d push.Turn may on = absurd on
mend_bytes d (push.Head (nexts.OpenNew j)) may on = go d.head.roll refl where
  go : (o : Option Roll) → d.head.roll ≡ o
      → op_now d (push.Head (nexts.OpenNew j)) ≡ Some (bytes_op d (push.Head (nexts.OpenNew j)))
  go (Some r) rolling = rolled_bytes d may.core may.next.0.0.0 may.next.0.0.1 r rolling j
  go None none = absurd (let some = subst (λ (o : Option Roll). IsSome o) none may.next.1 in cc)
mend_bytes d (push.Head (nexts.OpenFirst j)) may on =
    first_bytes d may.core may.next.0.0.0 may.next.0.0.1 may.next.1 may.next.0.0.2 j
mend_bytes d (push.Raise id) may on = absurd on
mend_bytes d (push.Head (nexts.CloseOld j)) may on = refl
mend_bytes d (push.Repair s j) may on =
    ap (λ (es : List Entry). Some (record { master = d.config.master; segment = s; act = SealBytes (text_of es) }))
    (sym (may.texts s (others_in d may.core s (is_other d may.core s j may.next))))
