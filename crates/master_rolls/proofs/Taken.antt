-- A core stays valid when the op of a push was taken, and which images the core has then.
use Rattle.std.proofs.Common.{◌≡◌, ◌⊎◌, inl, inr, ℕ, suc, Bool, true, false, List, [], ◌∷◌, ◌++◌, refl, sym, ap, subst}
use Rattle.std.proofs.Common.{◌∙◌, length, arith}
use Rattle.std.specs.Prelude.{Option, Some, None, ◌==◌, slice_set, if◌then◌else◌}
use Rattle.std.specs.Option.{option_map_or}
use Rattle.std.proofs.lemmas.Bool.{eqb-true}
use Rattle.std.proofs.lemmas.List.{length-append, length-set}
use Rattle.cleaner.specs.declared.pass.Pass.{Pass}
use Rattle.entry.specs.declared.entry.Entry.{Entry}
use Rattle.entry.specs.Bag.{IsAmong}
use Rattle.images.specs.Image.{Image}
use Rattle.images.specs.Sorted.{segment_of}
use Rattle.log_head.specs.declared.head.Roll.{Roll}
use Rattle.log_head.specs.declared.next.Next.{Next}
use Rattle.log_head.specs.declared.next.Next.TheVariants as next
use Rattle.log_head.specs.Head.{IsHeadValue}
use Rattle.log_head.specs.Log.{head_of, start_of}
use Rattle.log_head.specs.Next.{IsNextPush}
use Rattle.log_head.specs.Steps.{in_force, with_new_replica, with_closed_replica}
use Rattle.log_head.specs.log_laws.Heads.{Start, ids_of}
use Rattle.log_head.specs.log_laws.Ids.{has, all_inserted}
use Rattle.master_state.specs.declared.failover.Failover.{Failover}
use Rattle.master_state.specs.declared.ledger.Posting.{Posting}
use Rattle.master_state.specs.Budget.{victims_of, survivors_of, is_committing}
use Rattle.master_state.specs.Data.{MasterData}
use Rattle.master_state.specs.Images.{new_image_or}
use Rattle.master_state.specs.Invariant.{IsOpenPass, IsCore, AreWhole, listed_with}
use Rattle.master_state.specs.Log.{image_of}
use Rattle.master_state.specs.Steps.{roll_ended, closed_data, taken_data}
use Rattle.master_state.proofs.Posted.{counted_core}
use Rattle.master_rolls.proofs.Committed.{committed_core, committed_whole, image_gone, image_stays}
use Rattle.master_state.proofs.Imaging.{ids_in, same_roll}
use Rattle.master_state.proofs.LogIds.{open_of}
use Rattle.master_rolls.proofs.RollEnds.{HasFailover, left_as, calm_failover, rolls_of, counted_roll, old_closed}
use Rattle.master_rolls.proofs.RollEnds.{closed_images, ordinary_core, ordinary_whole}

-- ---- the last Close

-- the end of a pass leaves failovers and the ledger
left_same : (o : Option Pass) (e : MasterData) → left_as (roll_ended o e) e.failover e.abandoned e.ledger
    ≡ roll_ended o e
left_same None e = refl
left_same (Some p) e = go p.is_committing refl where
  go : (t : Bool) → p.is_committing ≡ t
      → left_as (roll_ended (Some p) e) e.failover e.abandoned e.ledger ≡ roll_ended (Some p) e
  go true test = rw test refl
  go false test = rw test refl

module _ (d : MasterData) (core : IsCore d) (r : Roll) (is : d.head.roll ≡ Some r) where
  -- an ordinary roll lists the log
  lists_all : is_committing d ≡ false → (start_of r).others ≡ ids_of (head_of d.head).start
  lists_all early =
      (rolls_of d core r is).lists
      ∙ ap (λ (b : Bool). if b then listed_with d (victims_of d.pass) (survivors_of d.pass)
      else ids_of (head_of d.head).start) early

  -- what a core keeps
  pub ended_core : (o : Option Pass) → d.pass ≡ o → (x : Option Failover) (gone : List Start) (ps : List Posting)
      → IsHeadValue (in_force d.head r) → HasFailover (left_as (roll_ended o (old_closed d core r is)) x gone ps)
      → IsCore (left_as (roll_ended o (old_closed d core r is)) x gone ps)
  ended_core None same x gone ps valid failing =
      ordinary_core d core r is (lists_all (ap (λ (o : Option Pass). option_map_or
      (λ (p : Pass). p.is_committing) o false) same)) x gone ps valid
      (ap (λ (o : Option Pass). option_map_or (λ (p : Pass). p.is_committing) o false) same) failing
  ended_core (Some p) same x gone ps valid failing = go p.is_committing refl failing where
    test : is_committing d ≡ p.is_committing
    test = ap (λ (o : Option Pass). option_map_or (λ (q : Pass). q.is_committing) o false) same

    go : (t : Bool) → p.is_committing ≡ t
        → HasFailover (left_as (roll_ended (Some p) (old_closed d core r is)) x gone ps)
        → IsCore (left_as (roll_ended (Some p) (old_closed d core r is)) x gone ps)
    go true commits fails = rw commits (committed_core d core r is p (open_of d core p same) same commits x gone ps
        valid (rw commits at fails))
    go false early fails = rw early (ordinary_core d core r is (lists_all (test ∙ early)) x gone ps valid
        (test ∙ early) (rw early at fails))

  -- no segment of the new digest lacks a replica, if none did before
  pub ended_whole : (o : Option Pass) → d.pass ≡ o → AreWhole d → AreWhole (roll_ended o (old_closed d core r is))
  ended_whole None same whole =
      ordinary_whole d core r is (lists_all (ap (λ (o : Option Pass). option_map_or
      (λ (p : Pass). p.is_committing) o false) same)) whole
  ended_whole (Some p) same whole = go p.is_committing refl where
    test : is_committing d ≡ p.is_committing
    test = ap (λ (o : Option Pass). option_map_or (λ (q : Pass). q.is_committing) o false) same

    go : (t : Bool) → p.is_committing ≡ t → AreWhole (roll_ended (Some p) (old_closed d core r is))
    go true commits = rw commits (committed_whole d core r is p (open_of d core p same) same commits whole)
    go false early = rw early (ordinary_whole d core r is (lists_all (test ∙ early)) whole)

  -- a segment has the image that it had, or was a victim of the pass that ended
  abbrev pub HasImage : MasterData → ℕ → Type 0
  HasImage e s = ((has (victims_of d.pass) s ≡ true) × (e.pass ≡ None) × (image_of e s ≡ None))
      ⊎ (image_of e s ≡ image_of d s)

  ended_images : (o : Option Pass) → d.pass ≡ o → (s : ℕ) → HasImage (roll_ended o (old_closed d core r is)) s
  ended_images None same s = inr (closed_images d core r is s)
  ended_images (Some p) same s = go p.is_committing refl where
    go : (t : Bool) → p.is_committing ≡ t → HasImage (roll_ended (Some p) (old_closed d core r is)) s
    go false early = rw early (inr (closed_images d core r is s))
    go true commits = rw commits (by_victim (has p.victims s) refl) where
      own : IsOpenPass d p
      own = open_of d core p same

      by_victim : (b : Bool) → has p.victims s ≡ b → HasImage
          (roll_ended (Some (record p { is_committing = true })) (old_closed d core r is)) s
      by_victim true victim = inl (
        ap (λ (o : Option Pass). has (victims_of o) s) same ∙ victim,
        refl,
        image_gone d core r is p own same commits s victim,
      )
      by_victim false other = inr (image_stays d core r is p own same commits s other)

  -- without a failover
  ended_calm : d.failover ≡ None → IsHeadValue (in_force d.head r) → IsCore (roll_ended d.pass (old_closed d core r is))
  ended_calm calm valid =
      subst IsCore (left_same d.pass (old_closed d core r is))
      (ended_core d.pass refl d.failover d.abandoned d.ledger valid
      (calm_failover (left_as (roll_ended d.pass (old_closed d core r is)) d.failover d.abandoned d.ledger) calm
      (ended_whole d.pass refl (core.whole calm)) (core.abandoned calm)))

  pub closed_core : d.failover ≡ None → IsHeadValue (with_closed_replica d.head r) → IsCore (closed_data d r)
  closed_core calm = go (suc r.closed == d.head.replicas) refl where
    go : (t : Bool) → (suc r.closed == d.head.replicas) ≡ t → IsHeadValue (with_closed_replica d.head r)
        → IsCore (closed_data d r)
    go true test valid = rw test (ended_calm calm (rw test at valid))
    go false test valid = rw test (counted_roll d core r is r.opened (suc r.closed) (rw test at valid) calm)

  pub closed_image_is : (s : ℕ) → HasImage (closed_data d r) s
  closed_image_is s = go (suc r.closed == d.head.replicas) refl where
    go : (t : Bool) → (suc r.closed == d.head.replicas) ≡ t → HasImage (closed_data d r) s
    go true test = rw test (ended_images d.pass refl s)
    go false test = rw test (inr (same_roll d.head d.closed r (record r { closed = suc r.closed }) is refl refl s))

  pub opened_core : d.failover ≡ None → IsHeadValue (with_new_replica d.head r)
      → IsCore (record d { head = with_new_replica d.head r })
  opened_core calm valid = counted_roll d core r is (suc r.opened) r.closed valid calm

-- ---- the op of a push was taken

module _ (d : MasterData) (core : IsCore d) where
  pub taken_core : d.failover ≡ None → (push : Next) → IsNextPush d.head (Some push)
      → IsHeadValue (taken_data d push).head → IsCore (taken_data d push)
  taken_core calm (next.OpenFirst j) is valid =
      counted_core d (d.head.taken ++ 0 ∷ []) core valid
      (let more = length-append d.head.taken (0 ∷ []) in omega arith)
  taken_core calm (next.Extend j) is valid =
      counted_core d (slice_set d.head.taken j (length d.head.units)) core valid
      (let same = length-set d.head.taken j (length d.head.units) in omega arith)
  taken_core calm (next.OpenWhole j) is valid = absurd is
  taken_core calm (next.OpenNew j) is valid =
      let e = ap (λ (o : Option Roll). option_map_or (λ (q : Roll). record d
      { head = with_new_replica d.head q }) o d) is.2 in
      subst IsCore (sym e) (opened_core d core is.1 is.2 calm (subst (λ (m : MasterData). IsHeadValue m.head) e valid))
  taken_core calm (next.CloseOld j) is valid =
      let e = ap (λ (o : Option Roll). option_map_or (closed_data d) o d) is.2 in
      subst IsCore (sym e) (closed_core d core is.1 is.2 calm (closed_head is.1
      (subst (λ (m : MasterData). IsHeadValue m.head) e valid)))
    where
      -- the head doesn't depend on what becomes of a pass
      head_left : (o : Option Pass) (g : MasterData) → (roll_ended o g).head ≡ g.head
      head_left None g = refl
      head_left (Some p) g = go p.is_committing refl where
        go : (t : Bool) → p.is_committing ≡ t → (roll_ended (Some p) g).head ≡ g.head
        go true test = rw test refl
        go false test = rw test refl

      closed_head : (r : Roll) → IsHeadValue (closed_data d r).head → IsHeadValue (with_closed_replica d.head r)
      closed_head r valid = go (suc r.closed == d.head.replicas) refl valid where
        go : (t : Bool) → (suc r.closed == d.head.replicas) ≡ t → IsHeadValue (closed_data d r).head
            → IsHeadValue (with_closed_replica d.head r)
        go true test head = subst IsHeadValue (head_after test) head where
          head_after : (suc r.closed == d.head.replicas) ≡ true → (closed_data d r).head ≡ with_closed_replica d.head r
          head_after t = rw t (head_left d.pass _)
        go false test head = subst IsHeadValue (head_after test) head where
          head_after : (suc r.closed == d.head.replicas) ≡ false → (closed_data d r).head ≡ with_closed_replica d.head r
          head_after t = rw t refl

  pub taken_images : (push : Next) → IsNextPush d.head (Some push) → (s : ℕ)
      → ((has (victims_of d.pass) s ≡ true) × ((taken_data d push).pass ≡ None)
      × (image_of (taken_data d push) s ≡ None))
      ⊎ (image_of (taken_data d push) s ≡ image_of d s)
  taken_images (next.OpenFirst j) is s = inr refl
  taken_images (next.Extend j) is s = inr refl
  taken_images (next.OpenWhole j) is s = absurd is
  taken_images (next.OpenNew j) is s = inr (
      ap (λ (o : Option Roll). image_of (option_map_or (λ (q : Roll). record d
      { head = with_new_replica d.head q }) o d) s) is.2
      ∙ same_roll d.head d.closed is.1 (record is.1 { opened = suc is.1.opened }) is.2 refl refl s)
  taken_images (next.CloseOld j) is s =
      subst (λ (e : MasterData). ((has (victims_of d.pass) s ≡ true) × (e.pass ≡ None) × (image_of e s ≡ None))
      ⊎ (image_of e s ≡ image_of d s))
      (sym (ap (λ (o : Option Roll). option_map_or (closed_data d) o d) is.2)) (closed_image_is d core is.1 is.2 s)

  -- a segment with an image is of the log, or the survivor of the open pass
  pub has_image : (s : ℕ) (image : List Entry) → image_of d s ≡ Some image
      → (s ≡ d.head.id) ⊎ (((r : Roll) × (d.head.roll ≡ Some r) × (s ≡ r.id))
      ⊎ IsAmong s (all_inserted (survivors_of d.pass) (head_of d.head).start.others))
  has_image s image is = by_head (d.head.id == s) refl is
    where
      among_closed : (cs : List Image) → segment_of cs s ≡ Some image → IsAmong s (ids_in cs)
      among_closed [] found = absurd (cc)
      among_closed (c ∷ cs) found = go (c.id == s) refl (among_closed cs)
        where
          go : (t : Bool) → (c.id == s) ≡ t → (segment_of cs s ≡ Some image → IsAmong s (ids_in cs))
              → IsAmong s (ids_in (c ∷ cs))
          go true here later = inl (eqb-true c.id s here)
          go false away later = inr (later (rw away at found))

      closed_too : segment_of d.closed s ≡ Some image → IsAmong s
          (all_inserted (survivors_of d.pass) (head_of d.head).start.others)
      closed_too found = subst (λ (ids : List ℕ). IsAmong s ids) core.closed (among_closed d.closed found)

      by_roll : (o : Option Roll) → d.head.roll ≡ o → new_image_or o s (segment_of d.closed s) ≡ Some image
          → ((r : Roll) × (d.head.roll ≡ Some r) × (s ≡ r.id))
          ⊎ IsAmong s (all_inserted (survivors_of d.pass) (head_of d.head).start.others)
      by_roll None same found = inr (closed_too found)
      by_roll (Some r) same found = go (r.id == s) refl
        where
          go : (t : Bool) → (r.id == s) ≡ t → ((r : Roll) × (d.head.roll ≡ Some r) × (s ≡ r.id))
              ⊎ IsAmong s (all_inserted (survivors_of d.pass) (head_of d.head).start.others)
          go true here = inl (r, same, sym (eqb-true r.id s here))
          go false away = inr (closed_too (rw away at found))

      by_head : (t : Bool) → (d.head.id == s) ≡ t → image_of d s ≡ Some image
          → (s ≡ d.head.id) ⊎ (((r : Roll) × (d.head.roll ≡ Some r) × (s ≡ r.id))
          ⊎ IsAmong s (all_inserted (survivors_of d.pass) (head_of d.head).start.others))
      by_head true here found = inl (sym (eqb-true d.head.id s here))
      by_head false away found = inr (by_roll d.head.roll refl (rw away at found))
