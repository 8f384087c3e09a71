-- A lost replica of a segment of the log is sealed anew. With the last one the failover has ended.
use Rattle.std.proofs.Common.{◌≡◌, ℕ, suc, ◌<◌, ◌≤◌, inl, inr, Bool, true, false, List, [], ◌∷◌, length, refl}
use Rattle.std.proofs.Common.{sym, ap, subst, ◌∙◌, arith}
use Rattle.std.specs.Prelude.{Option, Some, None, IsSome, ◌==◌, not, is_none, unwrap_or, if◌then◌else◌}
use Rattle.std.specs.List.{AllByRecursion}
use Rattle.std.proofs.lemmas.Bool.{eqb-true, eqb-false}
use Rattle.master_core.proofs.log_laws.CommitDigest.{all_in}
use Rattle.entry.specs.declared.entry.Entry.{Entry}
use Rattle.entry.specs.Bag.{IsAmong}
use Rattle.entry.specs.Text.{IsSegment, text_of}
use Rattle.images.specs.Image.{Image}
use Rattle.images.specs.Images.{AreWithin}
use Rattle.images.specs.Sorted.{segment_of, replicas_of, changed}
use Rattle.images.specs.Steps.{more_replicas}
use Rattle.log_head.specs.Log.{head_of}
use Rattle.log_head.specs.log_laws.Ids.{has, without}
use Rattle.master_core.specs.log_laws.Data.{Calm, Rolls, FailData}
use Rattle.master_core.specs.log_laws.Steps.{with_taken, mended, MayRepair}
use Rattle.master_core.specs.log_bytes.Text.{entries_for, IsWholeText}
use Rattle.master_core.specs.log_memory.Memory.{text_in}
use Rattle.master_core.specs.log_memory.Ops.{RepairsImage}
use Rattle.master_core.specs.master_failover.declared.push.Push.{Push}
use Rattle.master_core.specs.master_failover.declared.push.Push.TheVariants as push
use Rattle.master_core.specs.master_failover.Mending.{first_lost, IsNextMend}
use Rattle.master_core.proofs.master_failover.Sought.{is_other, held, fewer, older, image_is, has_image, segment_there}
use Rattle.master_core.specs.master_state.declared.failover.Failover.{Failover}
use Rattle.master_core.specs.master_state.declared.failover.Part.TheVariants as part
use Rattle.master_core.specs.master_state.declared.ledger.Posting.TheVariants as posting
use Rattle.master_core.specs.master_state.Budget.{survivors_of}
use Rattle.master_core.specs.master_state.Data.{MasterData}
use Rattle.master_core.specs.master_state.Invariant.{IsCore}
use Rattle.master_core.specs.master_state.Ledger.{took_in}
use Rattle.master_core.specs.master_state.Log.{home, placed, is_opened, is_headless, image_of, images_of, log_of}
use Rattle.master_core.specs.master_state.Log.{memory_of}
use Rattle.master_core.proofs.master_state.Imaging.{ids_in}
use Rattle.master_core.proofs.master_state.LogIds.{closed_rise}
use Rattle.master_core.proofs.master_state.Refusals.{sizes_of}
use Rattle.master.specs.Pushes.{IsMended}
use Rattle.master.specs.Placed.{closed_by, holders, IsPlaced, is_opening}
use Rattle.master.proofs.Ended.{same_model}
use Rattle.master.proofs.InForce.{real_head, none_head}
use Rattle.master.proofs.MendEnds.{IsCounted, IsLimited, MayMend, IsMendPush}
use Rattle.master.proofs.MendOps.{at_part, as_part, mend_op}
use Rattle.master.proofs.NoneLost.{none_was_lost}
use Rattle.master.proofs.Placements.{changed_from, replicas_own, homes_of}
use Rattle.master.proofs.Placing.{placed_length, core_left, core_later, left_not, left_more}
use Rattle.master.proofs.PushedPlaces.{taken_other, taken_own}

-- ---- images of which one has one more replica

more_segment : (s : ℕ) (cs : List Image) (z : ℕ) → segment_of (changed cs s more_replicas) z ≡ segment_of cs z
more_segment s [] z = refl
more_segment s (c ∷ cs) z = go (c.id == s) (c.id == z) refl (more_segment s cs z) where
  go : (t u : Bool) → (c.id == z) ≡ u → segment_of (changed cs s more_replicas) z ≡ segment_of cs z
      → segment_of ((if t then more_replicas c else c) ∷ changed cs s more_replicas) z ≡ segment_of (c ∷ cs) z
  go true true is later = rw is refl
  go true false is later = rw is later
  go false true is later = rw is refl
  go false false is later = rw is later

-- each image is a whole segment
segment_whole : (cs : List Image) (s : ℕ) → AllByRecursion (λ (c : Image). IsSegment c.segment) cs
    → IsSome (segment_of cs s) → IsSegment (unwrap_or (segment_of cs s) [])
segment_whole [] s all some = absurd (cc)
segment_whole (c ∷ cs) s all some = go (c.id == s) refl some (segment_whole cs s all.1) where
  go : (t : Bool) → (c.id == s) ≡ t → IsSome (segment_of (c ∷ cs) s)
      → (IsSome (segment_of cs s) → IsSegment (unwrap_or (segment_of cs s) []))
      → IsSegment (unwrap_or (segment_of (c ∷ cs) s) [])
  go true is some later = rw is all.0
  go false is some later = rw is (later (rw is at some))

-- none is longer than a segment
segment_short : (most : ℕ) (cs : List Image) (s : ℕ) → AreWithin most cs
    → length (text_of (unwrap_or (segment_of cs s) [])) ≤ most
segment_short most [] s all = omega arith
segment_short most (c ∷ cs) s all = go (c.id == s) refl (segment_short most cs s all.1) where
  go : (t : Bool) → (c.id == s) ≡ t → length (text_of (unwrap_or (segment_of cs s) [])) ≤ most
      → length (text_of (unwrap_or (segment_of (c ∷ cs) s) [])) ≤ most
  go true is later = rw is all.0
  go false is later = rw is later

pub are_limited : (d : MasterData) (m : Push) → IsCore d → AreWithin d.config.segment d.closed → IsNextMend d m
    → IsLimited d m
are_limited d (push.Head n) core all next = tt
are_limited d push.Turn core all next = tt
are_limited d (push.Raise id) core all next = tt
are_limited d (push.Repair s j) core all next =
    let short = segment_short d.config.segment d.closed s all in
    let most = (sizes_of d.config core.config).most_segment in
    subst (λ (o : Option (List Entry)). length (text_of (unwrap_or o [])) ≤ 8388608) (sym (image_is d core s j next))
    (omega (arith, short, most))

-- ---- the push

module _ (d0 : MasterData) (f : Failover) (s j : ℕ)
    (may : MayMend (at_part d0 None (as_part f part.Repairs false)) (push.Repair s j)) where
  abbrev d : MasterData
  d = at_part d0 None (as_part f part.Repairs false)

  abbrev b : ℕ
  b = home d0.config d0.failed s j

  few : j < d0.config.replicas
  few = fewer d may.core s j may.next

  among : IsAmong s (ids_in d0.closed)
  among = subst (λ (ids : List ℕ). IsAmong s ids) (sym may.core.closed)
      (all_in (survivors_of d0.pass) (head_of d0.head).start.others s (inl (is_other d may.core s j may.next)))

  -- who took it
  hold : holders d s ≡ placed d0.config d0.failed s j
  hold = homes_of d may.placed s among ∙ ap (placed d0.config d0.failed s) (sym (held d may.core s j may.next))

  works : has d0.failed b ≡ false
  works = core_left d may.core s j few

  repairs : MayRepair (log_of d) s b
  repairs = record {
    mode = refl;
    listed = is_other d may.core s j may.next;
    works = works;
    apart = left_not d0.failed (took_in d0.ledger s) b works
        (ap (λ (bs : List ℕ). has bs b) hold ∙ core_later d may.core s j j (omega arith) few);
    few = (let count = ap length hold ∙ placed_length d0.config d0.failed s j in let lt = few in
        omega (arith, count, lt));
  }

  -- its image is a whole segment
  image_whole : IsSegment (images_of d s)
  image_whole =
      subst (λ (o : Option (List Entry)). IsSegment (unwrap_or o [])) (sym (image_is d may.core s j may.next))
      (segment_whole d0.closed s may.core.segments
      (segment_there d0.closed s (has_image d may.core s j may.next)))

  text_is : entries_for d0.config.master s (text_in (memory_of d) s) ≡ images_of d s
  text_is = may.texts s (is_other d may.core s j may.next)

  whole : IsWholeText d0.config.master s (text_in (memory_of d) s)
  whole = record {
    segment_is = subst IsSegment (sym text_is) image_whole;
    limit = subst (λ (es : List Entry). length (text_of es) ≤ 8388608) (sym text_is) may.limited;
  }

  abbrev mid : FailData
  mid = record (log_of d) { took = with_taken (took_in d0.ledger) s b }

  repairs_image : RepairsImage (log_of d) (memory_of d)
      (mend_op d (push.Repair s j)) mid
  repairs_image = record { s = s; b = b; may = repairs; whole = whole; op = refl; gives = refl }

  -- ---- what it leaves

  abbrev sealed : MasterData
  sealed = record d { closed = changed d0.closed s more_replicas; ledger = posting.Took s b ∷ d0.ledger }

  apart : (z : ℕ) → (z ≡ s → ⊥) → with_taken (took_in d0.ledger) s b z ≡ took_in d0.ledger z
  apart z other = taken_other (took_in d0.ledger) s b z other

  sealed_image : (x : Image) → IsAmong x (changed d0.closed s more_replicas)
      → without d0.failed (with_taken (took_in d0.ledger) s b x.id) ≡ placed d0.config d0.failed x.id x.replicas
  sealed_image x m =
      let from = changed_from d0.closed s more_replicas x m in
      subst (λ (y : Image). without d0.failed (with_taken (took_in d0.ledger) s b y.id)
      ≡ placed d0.config d0.failed y.id y.replicas) (sym from.2) (go from.0 from.1 (from.0.id == s) refl)
    where
      go : (y : Image) → IsAmong y d0.closed → (t : Bool) → (y.id == s) ≡ t
          → without d0.failed (with_taken (took_in d0.ledger) s b (if t then more_replicas y else y).id)
          ≡ placed d0.config d0.failed (if t then more_replicas y else y).id (if t then more_replicas y else y).replicas
      go y own true is =
          let same = eqb-true y.id s is in
          let count : j ≡ y.replicas =
          held d may.core s j may.next ∙ ap (replicas_of d0.closed) (sym same)
          ∙ replicas_own d0.closed (closed_rise d may.core) y own in
          ap (λ (z : ℕ). without d0.failed (with_taken (took_in d0.ledger) s b z)) same
          ∙ ap (without d0.failed) (taken_own (took_in d0.ledger) s b)
          ∙ left_more d0.failed b (took_in d0.ledger s) works
          ∙ ap (λ (bs : List ℕ). b ∷ bs) hold
          ∙ (λ i. placed d0.config d0.failed (sym same i) (suc (count i)))
      go y own false is =
          ap (without d0.failed) (apart y.id (eqb-false y.id s is))
          ∙ may.placed.closed y own

  sealed_placed : (x : Option Failover) → closed_by x ≡ 0
      → (is_headless (record d { failover = x }) ≡ true → ⊥) → (is_opening x ≡ true → ⊥)
      → IsPlaced (record sealed { failover = x })
  sealed_placed x none forced opens =
      let p = may.placed in
      let lt = older d may.core s j may.next in
      record {
        none = λ is. absurd (forced is);
        head = ap (without d0.failed) (apart d0.head.id (λ same. omega (arith, same, lt))) ∙ p.head;
        counts = p.counts;
        unopened = λ is. absurd (forced is);
        whole = λ is. absurd (opens is);
        new = tt;
        shut = p.shut ∙ sym (ap (placed d0.config d0.failed d0.head.id) none);
        closed = sealed_image;
      }

  -- ---- the end of the failover

  opened : is_opened d0.head ≡ true
  opened = (may.core.failover.repairs refl).3

  calm_log : log_of (record sealed { failover = None }) ≡ mended mid
  calm_log =
      ap (λ (t : Bool). record (mended mid) {
        head = if not t then none_head d0.config.format else real_head d0.head;
        mode = if t then Calm else Rolls (head_of d0.head).start;
      }) opened

  images_same : (x : Option Failover) → (z : ℕ) → image_of (record sealed { failover = x }) z ≡ image_of d z
  images_same x z =
      ap (λ (o : Option (List Entry)). if d0.head.id == z then Some d0.head.image else o) (more_segment s d0.closed z)

  counted : (x : Option Failover)
      → (IsCore (record sealed { failover = x }) → IsMended mid (log_of (record sealed { failover = x })))
      → IsCore (record sealed { failover = x }) → IsCounted d (record sealed { failover = x }) mid
  counted x log later = record {
    log = log later;
    model = same_model d (record sealed { failover = x }) may.core later refl refl (images_same x) refl refl refl
        (omega arith);
    waiting = refl;
  }

  abbrev Does : MasterData → Type 0
  Does e = (IsCore e → IsCounted d e mid) × IsPlaced e × (IsCore e → IsMended mid (log_of e))

  calm_placed : IsPlaced (record sealed { failover = None })
  calm_placed = sealed_placed None refl (λ is. (let yes = opened in
      let never : true ≡ false = sym is ∙ ap not yes in cc)) (λ is. cc)

  -- no replica is lost any more
  calm_mended : IsCore (record sealed { failover = None }) → IsMended mid (log_of (record sealed { failover = None }))
  calm_mended later =
      inr (refl, none_was_lost (record sealed { failover = None }) mid later calm_placed refl calm_log, calm_log)

  either : (t : Bool) → Does (if t then record sealed { failover = None } else sealed)
  either true = (counted None calm_mended, calm_placed, calm_mended)
  either false = (
    counted (Some (as_part f part.Repairs false)) (λ later. inl refl),
    sealed_placed (Some (as_part f part.Repairs false)) refl (λ is. cc) (λ is. cc),
    λ later. inl refl,
  )

  pub seal_push : IsMendPush (at_part d0 None (as_part f part.Repairs false)) (push.Repair s j)
  seal_push =
      let all = either (is_none (first_lost sealed)) in
      record {
        mid = mid;
        op = inr repairs_image;
        asks = (mid, (repairs, refl, inl refl));
        does = λ later. (repairs, refl, all.2 later);
        after = λ later. inl (all.0 later);
        placed = all.1;
      }
