-- What the digests list while a pass goes on, and once its commit is in force, whatever backups fail meanwhile.
use Rattle.std.proofs.Common.{◌≡◌, ◌≤◌, ◌+◌, ◌⊎◌, ℕ, suc, Bool, true, false, List, [], ◌∷◌, ◌++◌, length, refl, sym}
use Rattle.std.proofs.Common.{ap, subst, inl, inr, ◌∙◌, append_assoc, arith}
use Rattle.std.proofs.lemmas.Bool.{le-leb}
use Rattle.std.proofs.lemmas.List.{length-set, length_push}
use Rattle.std.proofs.lemmas.Option.{same_Some}
use Rattle.std.specs.Option.{option_map, option_map_or}
use Rattle.std.specs.Prelude.{Option, Some, None, IfSome, not, ◌==◌, if◌then◌else◌}
use Rattle.master.specs.cleaner.declared.pass.Pass.{Pass}
use Rattle.master.specs.cleaner.Passes.{is_ready as is_ready_pass, survivor_ids}
use Rattle.entry.specs.declared.digest.Listed.{Listed}
use Rattle.entry.specs.Limits.{ids_in}
use Rattle.master.specs.log_head.declared.head.Roll.{Roll}
use Rattle.master.specs.log_head.declared.next.Next.{Next}
use Rattle.master.specs.log_head.declared.next.Next.TheVariants as next
use Rattle.master.specs.log_head.Head.{HeadValue, IsLagging, digest_of}
use Rattle.master.specs.log_head.Steps.{fresh_roll, in_force, lost, start_after, with_closed_replica, with_new_replica}
use Rattle.master.specs.log_head.Steps.{with_all_taken, with_opened_replica, with_whole_replica}
use Rattle.master.proofs.log_head.Digests.{without_none}
use Rattle.master.proofs.log_head.Rolls.{zeros_length}
use Rattle.master.specs.log_laws.Heads.{ids_of}
use Rattle.master.specs.log_laws.Ids.{all_inserted, without}
use Rattle.master.proofs.log_laws.ListedIds.{ids_listed}
use Rattle.master.specs.master_failover.declared.push.Push.{Push as PushKind}
use Rattle.master.specs.master_failover.declared.push.Push.TheVariants as push
use Rattle.master.specs.master_failover.Mending.{IsInPart, IsNextMend, closed_more, mended_data, opening, turn_roll}
use Rattle.master.specs.master_failover.Mending.{was_headless}
use Rattle.master.specs.master_rolls.Ends.{pass_left}
use Rattle.master.specs.master_state.declared.failover.Failover.{Failover}
use Rattle.master.specs.master_state.declared.failover.Part.{Part}
use Rattle.master.specs.master_state.declared.failover.Part.TheVariants as part
use Rattle.master.specs.master_state.declared.step.Step.{Step}
use Rattle.master.specs.master_state.declared.step.Step.TheVariants.{Apply, Push, BeginRoll, Compact, BeginClean, Copy}
use Rattle.master.specs.master_state.declared.step.Step.TheVariants.{Seal}
use Rattle.master.specs.master_state.declared.step.Step.TheVariants.{Free}
use Rattle.master.specs.master_state.declared.step.StepAnswer.{StepAnswer}
use Rattle.master.specs.master_state.Budget.{is_ready, survivors_of, victims_of}
use Rattle.master.specs.master_state.Data.{MasterData}
use Rattle.master.specs.master_state.Log.{is_opened}
use Rattle.master.specs.master_state.Steps.{listed_in, place_of, start_now}
use Rattle.master.specs.World.{World}
use Rattle.master.proofs.PushKinds.{CalmPush, MendsOn, kinds}
use Rattle.driving.specs.Rolls.{Advances}
use Rattle.driving.proofs.Heads.{next_id, part_in}
use Rattle.driving.proofs.Losses.{IsLoss, begin_unlost, copy_unlost, free_lost, push_lost, seal_lost}
use Rattle.driving.proofs.Outlines.{Outline, closed_more_outline, head_after, opened_head, outline}
use Rattle.driving.proofs.Outlines.{push_outline, pushed_outline, raised_outline, repairing, sealed_anew_outline}
use Rattle.driving.proofs.Outlines.{turned_is, turned_outline}
use Rattle.driving.proofs.PassSteps.{seals_outline}
use Rattle.driving.proofs.Turns.{IsTurn}

-- ---- what a new head begins with

-- segments that are listed with their lengths have these ids
pub listed_ids_are : (d : MasterData) (ids : List ℕ) → ids_in (listed_in d.closed ids) ≡ ids
listed_ids_are d [] = refl
listed_ids_are d (s ∷ ids) = ap (λ (l : List ℕ). s ∷ l) (listed_ids_are d ids)

-- the ids of the newest log without those that a commit takes out, and with those that it takes in
abbrev pub ids_next : Bool → Option Pass → List ℕ → List ℕ
ids_next commits pass ids = if commits then all_inserted (survivors_of pass) (without (victims_of pass) ids) else ids

pub start_digest : (d : MasterData) → ids_of (start_now d)
    ≡ ids_next (is_ready d) d.pass (digest_of d.head.image) ++ d.next ∷ []
start_digest d = go (is_ready d)
  where
    listed : List Listed
    listed = listed_in d.closed (survivors_of d.pass)

    go : (ready : Bool) → ids_of (if ready then start_after d.head (victims_of d.pass) listed d.next d.safe
        else start_after d.head [] [] d.next d.safe) ≡ ids_next ready d.pass (digest_of d.head.image) ++ d.next ∷ []
    go true = ap (λ (l : List ℕ). all_inserted l (without (victims_of d.pass) (digest_of d.head.image)) ++ d.next ∷ [])
        (listed_ids_are d (survivors_of d.pass))
    go false = ap (λ (l : List ℕ). l ++ d.next ∷ []) (without_none (digest_of d.head.image))

-- the image of its opening bears that digest
pub roll_digest : (d : MasterData) → digest_of (fresh_roll d.config.master (start_now d)).image
    ≡ ids_next (is_ready d) d.pass (digest_of d.head.image) ++ d.next ∷ []
roll_digest d = ids_listed (start_now d) ∙ start_digest d

-- ---- the digests while a pass goes on

module _ (victims survivors ids : List ℕ) where
  -- the digest in force has these ids, and that of a roll those and its own
  abbrev Lists : List ℕ → List ℕ → HeadValue → Type 0
  Lists now coming h =
      (digest_of h.image ≡ now) × IfSome h.roll (λ (r : Roll). digest_of r.image ≡ coming ++ r.id ∷ [])

  -- the ids that are left once these heads came, and the pass is committed
  abbrev left_with : List ℕ → List ℕ
  left_with before = all_inserted survivors (without victims (ids ++ before))

  abbrev coming_with : Bool → List ℕ → List ℕ
  coming_with commits before = if commits then left_with before else ids ++ before

  -- The pass is open, and the digest has some more heads than at its begin. Or its commit is in force, with some more
  -- heads before it and after it.
  abbrev pub IsListed : Outline → Type 0
  IsListed o = ((before : List ℕ) × (p : Pass) × (o.pass ≡ Some p) × (p.victims ≡ victims)
      × (survivor_ids p.survivors ≡ survivors) × Lists (ids ++ before) (coming_with p.is_committing before) o.head)
      ⊎ ((before : List ℕ) × (after : List ℕ) × (o.pass ≡ None)
      × Lists (left_with before ++ (after ++ o.head.id ∷ [])) (left_with before ++ (after ++ o.head.id ∷ [])) o.head)

  -- ---- an op of the head

  -- the digest of the roll, if there is one
  rolls_with : (coming : List ℕ) (o : Option Roll) (r : Roll) → o ≡ Some r
      → IfSome o (λ (q : Roll). digest_of q.image ≡ coming ++ q.id ∷ [])
      → digest_of r.image ≡ coming ++ r.id ∷ []
  rolls_with coming o r is lists =
      subst (λ (x : Option Roll). IfSome x (λ (q : Roll). digest_of q.image ≡ coming ++ q.id ∷ [])) is lists

  opened_lists : (now coming : List ℕ) (h : HeadValue) → Lists now coming h → Lists now coming (opened_head h)
  opened_lists now coming h lists = go h.roll refl
    where
      go : (o : Option Roll) → h.roll ≡ o
          → Lists now coming (option_map_or (with_new_replica h) o (with_opened_replica h))
      go None is = lists
      go (Some r) is = (lists.0, rolls_with coming h.roll r is lists.1)

  -- a head that lists the same leaves all
  same_listed : (o : Outline) (h : HeadValue) → h.id ≡ o.head.id
      → ((now coming : List ℕ) → Lists now coming o.head → Lists now coming h)
      → IsListed o → IsListed (record o { head = h })
  same_listed o h same lists (inl (before, p, opened, v, s, held)) =
      inl (before, p, opened, v, s, lists _ _ held)
  same_listed o h same lists (inr (before, after, ended, held)) =
      inr (
        before,
        after,
        ended,
        subst
            (λ (id : ℕ). Lists (left_with before ++ (after ++ id ∷ [])) (left_with before ++ (after ++ id ∷ [])) h)
            (sym same) (lists _ _ held),
      )

  -- one more replica of the old head is closed, and with the last one the new head is in force
  closes_listed : (o : Outline) (r : Roll) → o.head.roll ≡ Some r → IsListed o → IsListed (record o {
    head = with_closed_replica o.head r;
    pass = if suc r.closed == o.head.replicas then pass_left o.pass else o.pass;
  })
  closes_listed o r is held = go (suc r.closed == o.head.replicas) held
    where
      as_listed : Bool → Type 0
      as_listed last = IsListed (record o {
        head =
            if last then in_force o.head r else record o.head { roll = Some (record r { closed = suc r.closed }) };
        pass = if last then pass_left o.pass else o.pass;
      })

      -- the last one, by whether the roll is the pass's commit
      last_of : (before : List ℕ) (p : Pass) (commits : Bool) → p.is_committing ≡ commits → o.pass ≡ Some p
          → p.victims ≡ victims → survivor_ids p.survivors ≡ survivors
          → digest_of r.image ≡ coming_with commits before ++ r.id ∷ [] → as_listed true
      last_of before p true commits opened v s digest = inr (
        before,
        [],
        ap (λ (x : Option Pass). pass_left x) opened ∙ ap (λ (b : Bool). if b then None else Some p) commits,
        (digest, tt),
      )
      last_of before p false commits opened v s digest = inl (
        before ++ r.id ∷ [],
        p,
        ap (λ (x : Option Pass). pass_left x) opened ∙ ap (λ (b : Bool). if b then None else Some p) commits,
        v,
        s,
        (digest ∙ append_assoc ids before (r.id ∷ []), tt),
      )

      go : (last : Bool) → IsListed o → as_listed last
      go false (inl (before, p, opened, v, s, lists)) =
          inl (before, p, opened, v, s, (lists.0, rolls_with _ o.head.roll r is lists.1))
      go false (inr (before, after, ended, lists)) =
          inr (before, after, ended, (lists.0, rolls_with _ o.head.roll r is lists.1))
      go true (inl (before, p, opened, v, s, lists)) =
          last_of before p p.is_committing refl opened v s (rolls_with _ o.head.roll r is lists.1)
      go true (inr (before, after, ended, lists)) = inr (
        before,
        after ++ o.head.id ∷ [],
        ap (λ (x : Option Pass). pass_left x) ended,
        (
          rolls_with _ o.head.roll r is lists.1
              ∙ append_assoc (left_with before) (after ++ o.head.id ∷ []) (r.id ∷ []),
          tt,
        ),
      )

  after_listed : (o : Outline) (push : Next) → IsListed o → IsListed (pushed_outline o push)
  after_listed o (next.OpenFirst j) held =
      same_listed o (with_opened_replica o.head) refl (λ now coming lists. lists) held
  after_listed o (next.Extend j) held =
      same_listed o (with_all_taken o.head j) refl (λ now coming lists. lists) held
  after_listed o (next.OpenWhole j) held =
      same_listed o (with_whole_replica o.head) refl (λ now coming lists. lists) held
  after_listed o (next.OpenNew j) held = go o.head.roll refl
    where
      go : (x : Option Roll) → o.head.roll ≡ x
          → IsListed (record o { head = option_map_or (with_new_replica o.head) x o.head })
      go None is = held
      go (Some r) is = same_listed o (with_new_replica o.head r) refl
          (λ now coming lists. (lists.0, rolls_with coming o.head.roll r is lists.1)) held
  after_listed o (next.CloseOld j) held = go o.head.roll refl
    where
      go : (x : Option Roll) → o.head.roll ≡ x → IsListed (record o {
        head = option_map_or (with_closed_replica o.head) x o.head;
        pass =
            option_map_or (λ (r : Roll). if suc r.closed == o.head.replicas then pass_left o.pass else o.pass) x o.pass;
      })
      go None is = held
      go (Some r) is = closes_listed o r is held

  -- ---- a roll begins, by itself or in a failover

  -- the digest of a roll that begins, by whether it is the pass's commit
  begins_lists : (o : Outline) (ready : Pass → Bool) (r : Roll)
      → digest_of r.image
      ≡ ids_next (option_map_or ready o.pass false) o.pass (digest_of o.head.image) ++ r.id ∷ []
      → IsListed o → IsListed (record o {
        head = record o.head { roll = Some r };
        pass = option_map (λ (p : Pass). record p { is_committing = ready p }) o.pass;
      })
  begins_lists o ready r digest (inl (before, p, opened, v, s, lists)) = inl (
    before,
    record p { is_committing = ready p },
    ap (option_map (λ (q : Pass). record q { is_committing = ready q })) opened,
    v,
    s,
    (
      lists.0,
      digest ∙ ap (λ (x : Option Pass). ids_next (option_map_or ready x false) x (digest_of o.head.image) ++ r.id ∷ [])
          opened ∙ by (ready p),
    ),
  ) where
    by : (commits : Bool) → ids_next commits (Some p) (digest_of o.head.image) ++ r.id ∷ []
        ≡ coming_with commits before ++ r.id ∷ []
    by true = ap (λ (l : List ℕ). all_inserted l (without p.victims (digest_of o.head.image)) ++ r.id ∷ []) s
        ∙ ap (λ (l : List ℕ). all_inserted survivors (without l (digest_of o.head.image)) ++ r.id ∷ []) v
        ∙ ap (λ (l : List ℕ). all_inserted survivors (without victims l) ++ r.id ∷ []) lists.0
    by false = ap (λ (l : List ℕ). l ++ r.id ∷ []) lists.0
  begins_lists o ready r digest (inr (before, after, ended, lists)) = inr (
    before,
    after,
    ap (option_map (λ (q : Pass). record q { is_committing = ready q })) ended,
    (
      lists.0,
      digest ∙ ap (λ (x : Option Pass). ids_next (option_map_or ready x false) x (digest_of o.head.image) ++ r.id ∷ [])
          ended ∙ ap (λ (l : List ℕ). l ++ r.id ∷ []) lists.0,
    ),
  )

  -- ---- a backup fails

  lost_listed : (o : Outline) (replica : Option ℕ) → IsListed o → IsListed (record o {
    head = lost o.head replica;
    pass = option_map (λ (p : Pass). record p { is_committing = false }) o.pass;
  })
  lost_listed o replica (inl (before, p, opened, v, s, lists)) = inl (
    before,
    record p { is_committing = false },
    ap (option_map (λ (q : Pass). record q { is_committing = false })) opened,
    v,
    s,
    (lists.0, tt),
  )
  lost_listed o replica (inr (before, after, ended, lists)) = inr (
    before,
    after,
    ap (option_map (λ (q : Pass). record q { is_committing = false })) ended,
    (lists.0, tt),
  )

  -- ---- a push of a failover

  opened_listed : (o : Outline) → IsListed o → IsListed (record o { head = opened_head o.head })
  opened_listed o held = same_listed o (opened_head o.head) (id_is o.head.roll)
      (λ now coming lists. opened_lists now coming o.head lists) held
    where
      id_is : (x : Option Roll)
          → (option_map_or (with_new_replica o.head) x (with_opened_replica o.head)).id ≡ o.head.id
      id_is None = refl
      id_is (Some r) = refl

  -- the next head's digest
  turn_lists : (d : MasterData) → digest_of (turn_roll d).image
      ≡ ids_next (is_ready d) d.pass (digest_of d.head.image) ++ (turn_roll d).id ∷ []
  turn_lists d = roll_digest d
      ∙ ap (λ (i : ℕ). ids_next (is_ready d) d.pass (digest_of d.head.image) ++ i ∷ []) (sym (next_id d))

  mend_listed : (d : MasterData) (m : PushKind) → was_headless d ≡ false → IsListed (outline d)
      → IsListed (outline (mended_data d m))
  mend_listed d (push.Head (next.Extend j)) headed held =
      subst IsListed (sym (push_outline d (next.Extend j))) (after_listed (outline d) (next.Extend j) held)
  mend_listed d (push.Head (next.OpenWhole j)) headed held =
      subst IsListed (sym (push_outline d (next.OpenWhole j))) (after_listed (outline d) (next.OpenWhole j) held)
  mend_listed d push.Turn headed held =
      subst IsListed (sym (ap (λ (o : Outline). record o { head = opened_head o.head })
      (turned_is d ∙ ap (turned_outline d) headed)))
      (opened_listed (turned_outline d false)
      (begins_lists (outline d) (is_ready_pass d.config.replicas d.closed) (turn_roll d) (turn_lists d) held))
  mend_listed d (push.Head (next.OpenNew j)) headed held = opened_listed (outline d) held
  mend_listed d (push.Head (next.OpenFirst j)) headed held = opened_listed (outline d) held
  mend_listed d (push.Raise id) headed held = subst IsListed (sym (raised_outline d)) held
  mend_listed d (push.Head (next.CloseOld j)) headed held = go d.head.roll refl
    where
      go : (o : Option Roll) → d.head.roll ≡ o → IsListed (outline (option_map_or (closed_more d j) o d))
      go None is = held
      go (Some r) is = subst IsListed (sym (closed_more_outline d j r).1) (closes_listed (outline d) r is held)
  mend_listed d (push.Repair s j) headed held = subst IsListed (sym (sealed_anew_outline d s j).1) held

  -- ---- a copy

  copy_listed : (o : Outline) (p q : Pass) → o.pass ≡ Some p → q.victims ≡ p.victims → q.survivors ≡ p.survivors
      → q.is_committing ≡ p.is_committing → IsListed o → IsListed (record o { pass = Some q })
  copy_listed o p q has v s commits (inl (before, x, opened, xv, xs, lists)) =
      let same = same_Some x p (sym opened ∙ has) in inl (
        before,
        q,
        refl,
        v ∙ ap (λ (y : Pass). y.victims) (sym same) ∙ xv,
        ap survivor_ids (s ∙ ap (λ (y : Pass). y.survivors) (sym same)) ∙ xs,
        subst (λ (b : Bool). Lists (ids ++ before) (coming_with b before) o.head)
            (sym (commits ∙ ap (λ (y : Pass). y.is_committing) (sym same))) lists,
      )
  copy_listed o p q has v s commits (inr (before, after, ended, lists)) = let never = sym ended ∙ has in absurd (cc)

-- ---- no failover began without a head in force

abbrev IsFull : HeadValue → Type 0
IsFull h = h.replicas ≤ length h.taken

abbrev pub first_of : Option Failover → Bool
first_of o = option_map_or (λ (f : Failover). f.is_first) o false

-- The head in force was open on all its backups, and it is, or the first part of a failover is under way.
abbrev pub IsHeaded : Outline → Type 0
IsHeaded o = (o.head.replicas ≡ o.config.replicas) × (first_of o.failover ≡ false)
    × (IsFull o.head ⊎ ((f : Failover) × (o.failover ≡ Some f) × (f.part ≡ part.Mends)))

closed_replicas : (h : HeadValue) (r : Roll) → (with_closed_replica h r).replicas ≡ h.replicas
closed_replicas h r = go (suc r.closed == h.replicas)
  where
    go : (last : Bool)
        → (if last then in_force h r else record h { roll = Some (record r { closed = suc r.closed }) }).replicas
        ≡ h.replicas
    go true = refl
    go false = refl

head_replicas : (h : HeadValue) (push : Next) → (head_after h push).replicas ≡ h.replicas
head_replicas h (next.OpenFirst j) = refl
head_replicas h (next.Extend j) = refl
head_replicas h (next.OpenWhole j) = refl
head_replicas h (next.OpenNew j) = go h.roll
  where
    go : (o : Option Roll) → (option_map_or (with_new_replica h) o h).replicas ≡ h.replicas
    go None = refl
    go (Some r) = refl
head_replicas h (next.CloseOld j) = go h.roll
  where
    go : (o : Option Roll) → (option_map_or (with_closed_replica h) o h).replicas ≡ h.replicas
    go None = refl
    go (Some r) = closed_replicas h r

closed_full : (h : HeadValue) (r : Roll) → IsFull h → IsFull (with_closed_replica h r)
closed_full h r full = go (suc r.closed == h.replicas)
  where
    go : (last : Bool)
        → IsFull (if last then in_force h r else record h { roll = Some (record r { closed = suc r.closed }) })
    go true = let all = zeros_length h.replicas in omega arith
    go false = full

head_full : (h : HeadValue) (push : Next) → IsFull h → IsFull (head_after h push)
head_full h (next.OpenFirst j) full = let more = length_push h.taken 0 in omega arith
head_full h (next.Extend j) full = let same = length-set h.taken j (length h.units) in omega arith
head_full h (next.OpenWhole j) full = let more = length_push h.taken (length h.units) in omega arith
head_full h (next.OpenNew j) full = go h.roll
  where
    go : (o : Option Roll) → IsFull (option_map_or (with_new_replica h) o h)
    go None = full
    go (Some r) = full
head_full h (next.CloseOld j) full = go h.roll
  where
    go : (o : Option Roll) → IsFull (option_map_or (with_closed_replica h) o h)
    go None = full
    go (Some r) = closed_full h r full

opened_replicas : (h : HeadValue) → (opened_head h).replicas ≡ h.replicas
opened_replicas h = go h.roll
  where
    go : (o : Option Roll) → (option_map_or (with_new_replica h) o (with_opened_replica h)).replicas ≡ h.replicas
    go None = refl
    go (Some r) = refl

opened_full : (h : HeadValue) → IsFull h → IsFull (opened_head h)
opened_full h full = go h.roll
  where
    go : (o : Option Roll) → IsFull (option_map_or (with_new_replica h) o (with_opened_replica h))
    go None = let more = length_push h.taken 0 in omega arith
    go (Some r) = full

-- in another part than the first, and without a failover, the head is full
full_in : (d : MasterData) (p : Part) → IsInPart d p → (p ≡ part.Mends → ⊥) → IsHeaded (outline d) → IsFull d.head
full_in d p in_part other (replicas, first, inl full) = full
full_in d p in_part other (replicas, first, inr (f, some, is)) =
    absurd (other (part_in d p part.Mends in_part (f, some, is)))

full_calm : (o : Outline) → o.failover ≡ None → IsHeaded o → IsFull o.head
full_calm o calm (replicas, first, inl full) = full
full_calm o calm (replicas, first, inr (f, some, is)) = let never = sym calm ∙ some in absurd (cc)

first_opening : (o : Option Failover) → first_of o ≡ false → first_of (option_map opening o) ≡ false
first_opening None e = e
first_opening (Some f) e = e

first_with : (p : Part) (o : Option Failover) → first_of o ≡ false
    → first_of (option_map (λ (f : Failover). record f { part = p }) o) ≡ false
first_with p None e = e
first_with p (Some f) e = e

first_or : (whole : Bool) (o : Option Failover) → first_of o ≡ false → first_of (if whole then None else o) ≡ false
first_or true o e = refl
first_or false o e = e

first_repairing : (last whole : Bool) (o : Option Failover) → first_of o ≡ false
    → first_of (if last then repairing whole o else o) ≡ false
first_repairing true true o e = refl
first_repairing true false o e = first_with part.Repairs o e
first_repairing false whole o e = e

open_headed : (d : MasterData) → IsInPart d part.Opens → IsHeaded (outline d)
    → IsHeaded (record (outline d) { head = opened_head d.head })
open_headed d in_part held = (
  opened_replicas d.head ∙ held.0,
  held.1,
  inl (opened_full d.head (full_in d part.Opens in_part (λ e. cc) held)),
)

mend_headed : (d : MasterData) (m : PushKind) → IsNextMend d m → IsHeaded (outline d)
    → IsHeaded (outline (mended_data d m))
mend_headed d (push.Head (next.Extend j)) comes (replicas, first, inl full) =
    (replicas, first, inl (head_full d.head (next.Extend j) full))
mend_headed d (push.Head (next.Extend j)) comes (replicas, first, inr mends) = (replicas, first, inr mends)
mend_headed d (push.Head (next.OpenWhole j)) comes (replicas, first, inl full) =
    (replicas, first, inl (head_full d.head (next.OpenWhole j) full))
mend_headed d (push.Head (next.OpenWhole j)) comes (replicas, first, inr mends) = (replicas, first, inr mends)
mend_headed d push.Turn comes (replicas, first, full) =
    subst IsHeaded (sym (ap (λ (o : Outline). record o { head = opened_head o.head })
    (turned_is d ∙ ap (turned_outline d) first)))
    (replicas, first_opening d.failover first, inl (whole comes.1))
  where
    whole : (was_headless d ≡ true)
        ⊎ (IsLagging (length d.head.units) d.head.taken None × (length d.head.taken ≡ d.config.replicas))
        → IsFull d.head
    whole (inl headless) = let never = sym first ∙ headless in absurd (cc)
    whole (inr both) = let all = both.1 in omega (arith, replicas)
mend_headed d (push.Head (next.OpenNew j)) comes held = open_headed d comes.0.0 held
mend_headed d (push.Head (next.OpenFirst j)) comes held = open_headed d comes.0.0 held
mend_headed d (push.Raise id) comes held = subst IsHeaded (sym (raised_outline d)) (
  held.0,
  first_or (was_headless d) _ (first_with part.Closes d.failover held.1),
  inl (full_in d part.Opens comes.0 (λ e. cc) held),
)
mend_headed d (push.Head (next.CloseOld j)) comes held = go d.head.roll
  where
    full : IsFull d.head
    full = full_in d part.Closes comes.0 (λ e. cc) held

    go : (o : Option Roll) → IsHeaded (outline (option_map_or (closed_more d j) o d))
    go None = held
    go (Some r) =
        let (whole, closed) = closed_more_outline d j r in
        subst IsHeaded (sym closed) (
          closed_replicas d.head r ∙ held.0,
          first_repairing (suc j == d.config.replicas) whole d.failover held.1,
          inl (closed_full d.head r full),
        )
mend_headed d (push.Repair s j) comes held =
    let (whole, sealed) = sealed_anew_outline d s j in
    subst IsHeaded (sym sealed)
    (held.0, first_or whole d.failover held.1, inl (full_in d part.Repairs comes.0 (λ e. cc) held))

pushed_headed : (o : Outline) (push : Next) → o.failover ≡ None → IsHeaded o → IsHeaded (pushed_outline o push)
pushed_headed o push calm held = (
  head_replicas o.head push ∙ held.0,
  held.1,
  inl (head_full o.head push (full_calm o calm held)),
)

lost_headed : (old new : World) (b : ℕ) → IsLoss old b new → IsHeaded (outline old.knows) → IsHeaded (outline new.knows)
lost_headed old new b loss held =
    let full = full_calm (outline old.knows) loss.calm held in
    let opened : is_opened old.knows.head ≡ true =
    le-leb old.knows.head.replicas (length old.knows.head.taken) full in
    subst IsHeaded (sym (ap outline loss.knows))
    (held.0, ap (λ (x : Bool). not x) opened, inr (_, refl, refl))

-- ---- all that is under way

module _ (victims survivors ids : List ℕ) where
  abbrev pub IsTurning : World → Type 0
  IsTurning w = IsHeaded (outline w.knows) × IsListed victims survivors ids (outline w.knows)

  lost_turning : (old new : World) (b : ℕ) → IsLoss old b new → IsTurning old → IsTurning new
  lost_turning old new b loss (headed, listed) = (
    lost_headed old new b loss headed,
    subst (IsListed victims survivors ids) (sym (ap outline loss.knows))
        (lost_listed victims survivors ids (outline old.knows) (place_of old.knows b) listed),
  )

  pushed_turning : (old new : World) (a : StepAnswer) → CalmPush old a new ⊎ MendsOn old a new → IsTurning old
      → IsTurning new
  pushed_turning old new a (inl push) (headed, listed) =
      let same = ap outline push.rest ∙ push_outline old.knows push.push in (
        subst IsHeaded (sym same) (pushed_headed (outline old.knows) push.push push.calm headed),
        subst (IsListed victims survivors ids) (sym same)
            (after_listed victims survivors ids (outline old.knows) push.push listed),
      )
  pushed_turning old new a (inr push) (headed, listed) = (
    subst IsHeaded (sym (ap outline push.rest)) (mend_headed old.knows push.mend push.next headed),
    subst (IsListed victims survivors ids) (sym (ap outline push.rest))
        (mend_listed victims survivors ids old.knows push.mend headed.1 listed),
  )

  pub step_turning : (s : Step) → IsTurn s → (old new : World) → Advances s old new → IsTurning old → IsTurning new
  step_turning (Apply seat command) turn old new steps held = absurd turn
  step_turning (Compact id) turn old new steps held = absurd turn
  step_turning (BeginClean ids) turn old new steps held = absurd turn
  step_turning Copy turn old new (inl (a, copies)) (headed, listed) = (
    subst IsHeaded (sym (ap outline copies.0.rest)) headed,
    subst (IsListed victims survivors ids) (sym (ap outline copies.0.rest))
        (copy_listed victims survivors ids (outline old.knows) copies.0.pass copies.0.after copies.0.opened
        (ap (λ (p : Pass). p.victims) copies.0.treats.pass) (ap (λ (p : Pass). p.survivors) copies.0.treats.pass)
        (ap (λ (p : Pass). p.is_committing) copies.0.treats.pass) listed),
  )
  step_turning Copy turn old new (inr (b, copies)) held = absurd (copy_unlost old new b copies)
  step_turning Push turn old new (inl (a, push)) held = pushed_turning old new a (kinds old a new push) held
  step_turning Push turn old new (inr (b, push)) held = lost_turning old new b (push_lost old new b push) held
  step_turning BeginRoll turn old new (inl (a, begins)) (headed, listed) =
      let d = old.knows in (
        subst IsHeaded (sym (ap outline begins.0.rest)) headed,
        subst (IsListed victims survivors ids) (sym (ap outline begins.0.rest))
            (begins_lists victims survivors ids (outline d) (is_ready_pass d.config.replicas d.closed)
            (fresh_roll d.config.master (start_now d)) (roll_digest d
            ∙ ap (λ (i : ℕ). ids_next (is_ready d) d.pass (digest_of d.head.image) ++ i ∷ []) (sym (next_id d)))
            listed),
      )
  step_turning BeginRoll turn old new (inr (b, begins)) held = absurd (begin_unlost old new b begins)
  step_turning Seal turn old new (inl (a, seal)) held =
      subst (λ (o : Outline). IsHeaded o × IsListed victims survivors ids o) (sym (seals_outline old new a seal)) held
  step_turning Seal turn old new (inr (b, seal)) held = lost_turning old new b (seal_lost old new b seal) held
  step_turning Free turn old new (inl (a, free)) held =
      subst (λ (o : Outline). IsHeaded o × IsListed victims survivors ids o) (sym (ap outline free.rest)) held
  step_turning Free turn old new (inr (b, free)) held = lost_turning old new b (free_lost old new b free) held
