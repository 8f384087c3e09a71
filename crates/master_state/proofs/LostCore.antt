-- A core still has the invariant once a backup has failed and a failover began.
use Rattle.std.proofs.Common.{◌≡◌, ◌⊎◌, inl, inr, ℕ, zero, suc, ◌+◌, ◌-◌, ◌<◌, ◌≤◌, Bool, true, false, List, [], ◌∷◌}
use Rattle.std.proofs.Common.{◌++◌, length, map, filter, get_or, refl, sym, ap, subst, ◌∙◌, arith, add-one}
use Rattle.std.specs.Prelude.{Option, Some, None, IfSome, is_some, is_none, not, nat_le, nat_lt, ◌==◌, ◌||◌}
use Rattle.std.specs.Prelude.{unwrap_or, if◌then◌else◌}
use Rattle.std.specs.List.{AllByRecursion}
use Rattle.std.specs.Option.{option_map, option_map_or, option_to_list}
use Rattle.std.proofs.lemmas.Bool.{and_parts, eqb-true, eqb-false, ltb-true}
use Rattle.std.proofs.lemmas.Bool.Decides.{nat_tests}
use Rattle.std.proofs.lemmas.List.Edits.{length-remove}
use Rattle.cleaner.specs.declared.pass.Pass.{Pass as OpenPass}
use Rattle.cleaner.specs.Passes.{images_in, survivor_ids, IsPass}
use Rattle.cleaner.proofs.Ends.{pass_agrees}
use Rattle.cleaner.specs.compactor.Kept.{has_id, kept}
use Rattle.entry.specs.declared.entry.Entry.{Entry}
use Rattle.entry.specs.declared.entry.Entry.TheVariants as entry
use Rattle.entry.specs.declared.entry.Object.{Object}
use Rattle.entry.specs.declared.key.Key.{Key}
use Rattle.entry.specs.Bag.{IsAmong}
use Rattle.entry.specs.Text.{IsSegment}
use Rattle.places.specs.declared.place.Place.{Place}
use Rattle.places.specs.Map.{Places}
use Rattle.images.specs.Image.{Image}
use Rattle.images.specs.Sorted.{IsWhole, image_of, segment_of, replicas_of, changed_front, changed_at}
use Rattle.images.specs.Steps.{fewer_replicas}
use Rattle.images.proofs.Fronts.{front_more, front_same}
use Rattle.images.proofs.Replicas.{replicas_mapped}
use Rattle.log_head.specs.declared.head.Roll.{Roll}
use Rattle.log_head.specs.Head.{IsHeadValue, IsRollValue}
use Rattle.log_head.specs.Log.{head_of, start_of}
use Rattle.log_head.specs.Steps.{counts_without}
use Rattle.log_head.proofs.HeadLog.{image_lost}
use Rattle.log_head.proofs.Losses.{lost_valid}
use Rattle.log_head.specs.log_laws.Heads.{start_entries}
use Rattle.log_head.specs.log_laws.Ids.{has, all_inserted}
use Rattle.master_state.specs.declared.config.Config.{Config}
use Rattle.master_state.specs.declared.failover.Failover.{Failover}
use Rattle.master_state.specs.declared.waiting.Waiting.{Waiting}
use Rattle.master_state.specs.Budget.{head_seglets, seglets_of, whole_seglets, survivors_of}
use Rattle.master_state.specs.Data.{MasterData}
use Rattle.master_state.specs.Invariant.{AreFailed, IsFailover, IsOpenPass, IsRollOf}
use Rattle.master_state.specs.Invariant.{NameBelow, IsCore}
use Rattle.master_state.specs.Log.{find, images_of, is_headless, is_opened, log_set_ids, place_in, state_now}
use Rattle.master_state.specs.Steps.{less_by, lost_data, lost_image, lost_waiting, may_lose, opened_failover, place_of}
use Rattle.master_state.specs.Steps.{still_waits}
use Rattle.master_state.proofs.Finding.{each_among, index_of}
use Rattle.master_state.proofs.Homes.{place_in_some}
use Rattle.master_state.proofs.Imaging.{ids_in, other_id}
use Rattle.master_state.proofs.Indexing.{Shed, Indexes, index_shed, found_shed}
use Rattle.master_state.proofs.LogIds.{none_above, not_closed, no_segment}
use Rattle.master_state.proofs.Passing.{Stays, victims_then, rest_then, survivor_then, rooms_then}
use Rattle.master_state.proofs.Recounts.{IsRecount, all_mapped, ids_recounted, segment_recounted, images_recounted}
use Rattle.master_state.proofs.Recounts.{whole_recounted, seglets_recounted}
use Rattle.master_state.proofs.Refusals.{has_homes}

-- ---- numbers

pub less_by_le : (n : ℕ) (place : Option ℕ) → less_by n place ≤ n
less_by_le n None = omega arith
less_by_le n (Some p) = go (nat_lt p n) where
  go : (t : Bool) → (if t then n - 1 else n) ≤ n
  go true = omega arith
  go false = omega arith

-- fewer than so many stay fewer, if one of those is gone
less_by_lt : (n m p : ℕ) → n < m → p < m → less_by n (Some p) ≤ m - 1
less_by_lt n m p lt there = go (nat_lt p n) where
  go : (t : Bool) → (if t then n - 1 else n) ≤ m - 1
  go true = omega arith
  go false = omega arith

-- ---- images

-- a closed segment of which a replica may be lost
pub lost_recount : (c : Config) (failed : List ℕ) (b : ℕ) → IsRecount (lost_image c failed b)
lost_recount c failed b = record {
  id = λ x. go_id (is_some (place_in c failed x.id x.replicas b)) x;
  segment = λ x. go_segment (is_some (place_in c failed x.id x.replicas b)) x;
  is_whole = λ x. go_whole (is_some (place_in c failed x.id x.replicas b)) x;
} where
  go_id : (t : Bool) (x : Image) → (if t then fewer_replicas x else x).id ≡ x.id
  go_id true x = refl
  go_id false x = refl

  go_segment : (t : Bool) (x : Image) → (if t then fewer_replicas x else x).segment ≡ x.segment
  go_segment true x = refl
  go_segment false x = refl

  go_whole : (t : Bool) (x : Image) → (if t then fewer_replicas x else x).is_whole ≡ x.is_whole
  go_whole true x = refl
  go_whole false x = refl

fewer_lost : (c : Config) (failed : List ℕ) (b : ℕ) (x : Image) → (lost_image c failed b x).replicas ≤ x.replicas
fewer_lost c failed b x = go (is_some (place_in c failed x.id x.replicas b)) where
  go : (t : Bool) → (if t then fewer_replicas x else x).replicas ≤ x.replicas
  go true = omega arith
  go false = omega arith

pub replicas_lost : (c : Config) (failed : List ℕ) (b : ℕ) (cs : List Image) (s : ℕ)
    → replicas_of (map (lost_image c failed b) cs) s ≤ replicas_of cs s
replicas_lost c failed b cs s =
    subst (λ (n : ℕ). n ≤ replicas_of cs s)
    (sym (replicas_mapped (lost_image c failed b) (lost_recount c failed b).id cs s)) (go (image_of cs s))
  where
    go : (o : Option Image) → option_map_or (λ (x : Image). (lost_image c failed b x).replicas) o 0
        ≤ option_map_or (λ (x : Image). x.replicas) o 0
    go None = omega arith
    go (Some x) = fewer_lost c failed b x

-- ---- what waits

lost_waits : (c : Config) (failed : List ℕ) (b most : ℕ) (ws : List Waiting)
    → AllByRecursion (λ (w : Waiting). (w.freed < w.replicas) × (w.replicas ≤ most)) ws
    → AllByRecursion (λ (w : Waiting). (w.freed < w.replicas) × (w.replicas ≤ most))
    (filter still_waits (map (lost_waiting c failed b) ws))
lost_waits c failed b most [] all = tt
lost_waits c failed b most (w ∷ ws) all =
    go (still_waits (lost_waiting c failed b w)) refl (lost_waits c failed b most ws all.1)
  where
    go : (t : Bool) → still_waits (lost_waiting c failed b w) ≡ t
        → AllByRecursion (λ (v : Waiting). (v.freed < v.replicas) × (v.replicas ≤ most))
        (filter still_waits (map (lost_waiting c failed b) ws))
        → AllByRecursion (λ (v : Waiting). (v.freed < v.replicas) × (v.replicas ≤ most))
        (filter still_waits (map (lost_waiting c failed b) (w ∷ ws)))
    go true is later =
        let le = less_by_le w.replicas (place_in c failed w.segment w.replicas b) in
        let few = all.0.1 in
        let less = ltb-true (lost_waiting c failed b w).freed (lost_waiting c failed b w).replicas is in
        rw is ((less, omega arith), later)
    go false is later = rw is later

-- ---- kept entries

-- fewer ids keep no more
fewer_kept : (ids again : List ℕ) (held : Places) (p : Place) (e : Entry)
    → ((s : ℕ) → has_id again s ≡ true → has_id ids s ≡ true) → kept again held p e ≡ true → kept ids held p e ≡ true
fewer_kept ids again held p (entry.Header h) some is = refl
fewer_kept ids again held p (entry.Digest l) some is = refl
fewer_kept ids again held p (entry.Safe version) some is = refl
fewer_kept ids again held p (entry.Object o) some is = is
fewer_kept ids again held p (entry.Tombstone t) some is = some t.segment is

front_has : (front : List ℕ) (head : ℕ) (new : Option ℕ) (s : ℕ) → has_id (front ++ head ∷ []) s ≡ true
    → has_id (front ++ head ∷ option_to_list new) s ≡ true
front_has [] head new s is = go (head == s) is where
  go : (t : Bool) → (t || false) ≡ true → (t || has_id (option_to_list new) s) ≡ true
  go true is = refl
  go false is = absurd (cc)
front_has (z ∷ front) head new s is = go (z == s) (front_has front head new s) is where
  go : (t : Bool) → (has_id (front ++ head ∷ []) s ≡ true → has_id (front ++ head ∷ option_to_list new) s ≡ true)
      → (t || has_id (front ++ head ∷ []) s) ≡ true → (t || has_id (front ++ head ∷ option_to_list new) s) ≡ true
  go true later is = refl
  go false later is = later is

-- ---- the core

-- what lets a backup be lost
pub record Loses (d : MasterData) : Type 0 where
  pub two : d.config.format ≡ 2
  pub calm : d.failover ≡ None
  pub left : length d.failed + d.config.replicas < d.config.backups

pub loses : (d : MasterData) → may_lose d ≡ true → Loses d
loses d may =
    let parts = and_parts _ _ may in
    let front = and_parts _ _ parts.0 in record {
      two = eqb-true d.config.format 2 front.0;
      calm = none d.failover front.1;
      left = ltb-true (length d.failed + d.config.replicas) d.config.backups parts.1;
    }
  where
    none : (o : Option Failover) → is_none o ≡ true → o ≡ None
    none None is = refl
    none (Some f) is = absurd (cc)

-- which replica of the head is lost is one of them
pub lost_within : (d : MasterData) (b : ℕ) → IfSome (place_of d b) (λ (j : ℕ). j < length d.head.taken)
lost_within d b = go (place_of d b) refl where
  go : (o : Option ℕ) → place_of d b ≡ o → IfSome o (λ (j : ℕ). j < length d.head.taken)
  go None is = tt
  go (Some j) is = (place_in_some d.config d.failed d.head.id (length d.head.taken) b j is).0

module _ (d : MasterData) (b : ℕ) (core : IsCore d) (may : Loses d) (there : b < d.config.backups)
    (works : has d.failed b ≡ false) where
  abbrev e : MasterData
  e = lost_data d b

  abbrev f : Image → Image
  f = lost_image d.config d.failed b

  recount : IsRecount f
  recount = lost_recount d.config d.failed b

  head_then : IsHeadValue e.head
  head_then = lost_valid d.head (place_of d b) (lost_within d b) core.head

  closed_then : ids_in e.closed ≡ ids_in d.closed
  closed_then = ids_recounted f recount d.closed

  -- ---- images

  rolls_of : (r : Roll) → d.head.roll ≡ Some r → IsRollOf d r
  rolls_of r is = subst (λ (o : Option Roll). IfSome o (IsRollOf d)) is core.roll

  pub roll_not_closed : (r : Roll) → d.head.roll ≡ Some r → has (ids_in d.closed) r.id ≡ false
  roll_not_closed r is =
      let newer = (rolls_of r is).newer in
      not_closed d core r.id (none_above d core r.id (omega arith)) (go d.pass core.pass)
    where
      not_any : (ids : List ℕ) → ((s : ℕ) → IsAmong s ids → (r.id == s) ≡ false) → has ids r.id ≡ false
      not_any [] none = refl
      not_any (s ∷ ids) none =
          let away : (s == r.id) ≡ false = other_id s r.id (λ same.
          eqb-false r.id s (none s (inl refl)) (sym same)) in
          rw away (not_any ids (λ z m. none z (inr m)))

      go : (o : Option OpenPass) → IfSome o (IsOpenPass d) → has (survivors_of o) r.id ≡ false
      go None own = refl
      go (Some p) own =
          not_any (survivor_ids p.survivors)
          (λ s m. subst (λ (q : Option Roll). IfSome q (λ (z : Roll). (z.id == s) ≡ false)) is
          (own.survivors.each s m).not_new)

  -- an opening has no object
  no_object : (r : Roll) → IsRollOf d r → (o : Object) → IsAmong (entry.Object o) r.image → ⊥
  no_object r is o m =
      never (subst (λ (image : List Entry). IsAmong (entry.Object o) image) is.image m)
    where
      never : IsAmong (entry.Object o) (start_entries d.config.master (start_of r)) → ⊥
      never (inl is) = cc
      never (inr (inl is)) = cc
      never (inr (inr (inl is))) = cc
      never (inr (inr (inr m))) = m

  -- the images are as before, but for that of the head that a roll was opening
  pub image_then : (s : ℕ) → (images_of e s ≡ images_of d s)
      ⊎ ((r : Roll) × (d.head.roll ≡ Some r) × (r.id ≡ s) × (images_of d s ≡ r.image) × (images_of e s ≡ []))
  image_then s = by_head (d.head.id == s) refl where
    by_roll : (o : Option Roll) → d.head.roll ≡ o → (d.head.id == s) ≡ false
        → (images_of e s ≡ images_of d s)
        ⊎ ((r : Roll) × (d.head.roll ≡ Some r) × (r.id ≡ s) × (images_of d s ≡ r.image) × (images_of e s ≡ []))
    by_roll None is away = inl (rw (away, is) (images_recounted f recount d.closed s))
    by_roll (Some r) is away = go (r.id == s) refl where
      go : (t : Bool) → (r.id == s) ≡ t
          → (images_of e s ≡ images_of d s)
          ⊎ ((r : Roll) × (d.head.roll ≡ Some r) × (r.id ≡ s) × (images_of d s ≡ r.image) × (images_of e s ≡ []))
      go true here =
          let same = eqb-true r.id s here in
          let none : segment_of d.closed s ≡ None =
          no_segment d.closed s (ap (has (ids_in d.closed)) (sym same) ∙ roll_not_closed r is) in
          inr (
            r,
            is,
            same,
            rw (away, is, here) refl,
            rw away (images_recounted f recount d.closed s
                ∙ ap (λ (o : Option (List Entry)). unwrap_or o []) none),
          )
      go false other = inl (rw (away, is, other) (images_recounted f recount d.closed s))

    by_head : (t : Bool) → (d.head.id == s) ≡ t
        → (images_of e s ≡ images_of d s)
        ⊎ ((r : Roll) × (d.head.roll ≡ Some r) × (r.id ≡ s) × (images_of d s ≡ r.image) × (images_of e s ≡ []))
    by_head true here = inl (rw here refl)
    by_head false away = by_roll d.head.roll refl away

  shed : Shed (images_of d) (images_of e)
  shed s = elim (image_then s) [
    | inl same ↦ inl same
    | inr gone ↦ inr (λ o m. no_object gone.0 (rolls_of gone.0 gone.1) o
        (subst (λ (image : List Entry). IsAmong (entry.Object o) image) gone.3 m))
  ]

  segments_then : AllByRecursion (λ (c : Image). IsSegment c.segment) e.closed
  segments_then =
      all_mapped f (λ (c : Image). IsSegment c.segment) (λ (c : Image). IsSegment c.segment) d.closed
      (λ c valid. subst IsSegment (sym (recount.segment c)) valid) core.segments

  index_then : Indexes (images_of e) e.index (state_now e).contents
  index_then =
      index_shed (images_of d) (images_of e) shed (each_among e.head e.closed head_then segments_then)
      d.index (state_now d).contents (index_of d core)

  pub find_lost : (k : Key) → find e k ≡ find d k
  find_lost k =
      found_shed (images_of d) (images_of e) shed (each_among e.head e.closed head_then segments_then)
      d.index (state_now d).contents (index_of d core) k

  named_then : NameBelow (images_of e) e.next
  named_then s t m = elim (image_then s) [
    | inl same ↦ core.named s t (subst (λ (image : List Entry). IsAmong (entry.Tombstone t) image) same m)
    | inr gone ↦ absurd (subst (λ (image : List Entry). IsAmong (entry.Tombstone t) image) gone.4 m)
  ]

  -- ---- the budget

  head_counts : head_seglets e ≡ head_seglets d
  head_counts = go d.head.roll d.failover may.calm where
    go : (o : Option Roll) (g : Option Failover) → g ≡ None
        → (if is_some (option_map (λ (r : Roll). r.image) o) then seglets_of d.config d.head.image
        + whole_seglets d.config else whole_seglets d.config)
        ≡ (if is_some o || option_map_or (λ (x : Failover). is_some x.abandoned) g false then
        seglets_of d.config d.head.image + whole_seglets d.config else whole_seglets d.config)
    go None None is = refl
    go (Some r) None is = refl
    go o (Some x) is = absurd (cc)

  -- ---- the open pass

  module _ (p : OpenPass) (is : IsOpenPass d p) where
    same_in : (s : ℕ) → images_in e.closed s ≡ images_in d.closed s
    same_in s = images_recounted f recount d.closed s

    fewer_ids : (s : ℕ) → has_id (log_set_ids e) s ≡ true → has_id (log_set_ids d) s ≡ true
    fewer_ids s has =
        front_has (ids_in d.closed) d.head.id (option_map (λ (r : Roll). r.id) d.head.roll) s
        (subst (λ (ids : List ℕ). has_id (ids ++ d.head.id ∷ []) s ≡ true) closed_then has)

    stays : Stays d e p
    stays = record {
      config = refl;
      start = refl;
      roll = λ s m. tt;
      next = omega arith;
      victims = λ s m. same_in s;
      survivors = λ s m. same_in s;
      keeps = λ q x m stands keeps. fewer_kept (log_set_ids d) (log_set_ids e) d.index q x fewer_ids keeps;
    }

    pass_then : IsPass d.index.seed e.closed p
    pass_then =
        (pass_agrees d.index.seed d.closed e.closed p is.pass (λ s m. segment_recounted f recount d.closed s)
        (whole (survivor_ids p.survivors) is.pass.whole)).0
      where
        whole : (ids : List ℕ) → AllByRecursion (IsWhole d.closed) ids → AllByRecursion (IsWhole e.closed) ids
        whole [] all = tt
        whole (s ∷ ids) all = (whole_recounted f recount d.closed s all.0, whole ids all.1)

    pub lost_pass : IsOpenPass e (record p { is_committing = false })
    lost_pass =
        let pass = pass_then in
        let rooms = rooms_then d e p stays is in record {
          pass = record {
            victims = pass.victims;
            whole = pass.whole;
            numbers = pass.numbers;
            within = pass.within;
            cursor = pass.cursor;
          };
          victims = victims_then d e p stays is;
          survivors = record {
            some = is.survivors.some;
            few = is.survivors.few;
            each = survivor_then d e p stays is;
          };
          rooms = record { rooms = rooms.rooms; blank = rooms.blank };
          sealed = λ s m.
              let fewer = replicas_lost d.config d.failed b d.closed s in let few = is.sealed s m in omega arith;
          live = λ k q finds victim. subst (λ (places : List Place). IsAmong q places)
              (sym (rest_then d e p stays is)) (is.live k q (sym (find_lost k) ∙ finds) victim);
          unsealed = λ early s m.
              let fewer = replicas_lost d.config d.failed b d.closed s in
              let none = is.unsealed early s m in
              omega arith;
          spare = λ none. absurd (cc);
          commits = λ never. absurd (cc);
        }

  -- ---- the failover

  failed_then : AreFailed e
  failed_then = record {
    few = (let left = may.left in omega arith);
    there = (there, core.failed.there);
    apart = (works, core.failed.apart);
    two = λ some. may.two;
  }

  still_first : is_headless e ≡ true → is_headless d ≡ true
  still_first none = rw may.calm none

  module _ (r : Roll) (is : d.head.roll ≡ Some r) where
    value_of : IsRollValue d.head.replicas (length d.head.taken) r
    value_of =
        subst (λ (o : Option Roll). IfSome o (IsRollValue d.head.replicas (length d.head.taken))) is core.head.roll

  closed_less : (opened_failover d b).closed < d.config.replicas
  closed_less = go d.head.roll refl where
    go : (o : Option Roll) → d.head.roll ≡ o
        → less_by (option_map_or (λ (r : Roll). r.closed) o 0) (place_of d b) < d.config.replicas
    go None is =
        let le = less_by_le 0 (place_of d b) in
        let some = (has_homes d.config core.config).some in
        omega arith
    go (Some r) is =
        let le = less_by_le r.closed (place_of d b) in
        let lt = (value_of r is).closed in
        let same = core.replicas in
        omega arith

  closed_within : (opened_failover d b).closed ≤ length e.head.taken
  closed_within = go d.head.roll refl (place_of d b) (lost_within d b) where
    go : (o : Option Roll) → d.head.roll ≡ o → (q : Option ℕ) → IfSome q (λ (j : ℕ). j < length d.head.taken)
        → less_by (option_map_or (λ (r : Roll). r.closed) o 0) q ≤ length (counts_without d.head.taken q)
    go None is q within = (let le = less_by_le 0 q in omega arith)
    go (Some r) is None within =
        let lt = (value_of r is).closed in let all = (value_of r is).whole in omega arith
    go (Some r) is (Some j) within =
        let lt = (value_of r is).closed in
        let all = (value_of r is).whole in
        let less = length-remove d.head.taken j within in
        let le = less_by_lt r.closed d.head.replicas j lt (omega arith) in
        omega arith

  -- a roll begins from an open head
  first_bare : not (is_opened d.head) ≡ true → option_map (λ (r : Roll). r.image) d.head.roll ≡ None
  first_bare first = go d.head.roll refl where
    go : (o : Option Roll) → d.head.roll ≡ o → option_map (λ (r : Roll). r.image) o ≡ None
    go None is = refl
    go (Some r) is = (
        let all = (value_of r is).whole in
        let opened : nat_le d.head.replicas (length d.head.taken) ≡ true = grind (arith, nat_tests) in
        absurd (cc))

  not_committing : (o : Option OpenPass)
      → option_map_or (λ (p : OpenPass). p.is_committing) (option_map
      (λ (p : OpenPass). record p { is_committing = false }) o) false ≡ false
  not_committing None = refl
  not_committing (Some p) = refl

  failover_then : IsFailover e (opened_failover d b)
  failover_then = record {
    some = λ none. absurd (cc);
    closed = closed_less;
    mends = λ at. (refl, closed_within, not_committing d.pass);
    opens = λ at. absurd (cc);
    first = λ first. (refl, first_bare first);
    closes = λ at. absurd (cc);
    repairs = λ at. absurd (cc);
  }

  pub lost_core : IsCore e
  lost_core =
      let index = index_then in
      let head_same = head_counts in
      let closed_same = seglets_recounted f recount d.config.segment d.config.seglet d.closed in
      let budget = core.budget in record {
        config = core.config;
        replicas = core.replicas;
        history = core.history;
        head = head_then;
        image = image_lost d.config.master d.head (head_of d.head) core.image (place_of d b);
        within = core.within;
        closed = closed_then ∙ core.closed ∙ (ids_same d.pass);
        segments = segments_then;
        below = core.below;
        real = core.real;
        used = core.used;
        first = λ none.
            let was = core.first (still_first none) in
            record { others = was.others; loaded = was.loaded; units = was.units };
        next = core.next;
        roll = tt;
        pass = passes d.pass core.pass;
        named = named_then;
        replicas_few = all_mapped f (λ (c : Image). c.replicas ≤ d.config.replicas)
            (λ (c : Image). c.replicas ≤ d.config.replicas) d.closed
            (λ c few. (let fewer = fewer_lost d.config d.failed b c in omega arith)) core.replicas_few;
        waiting = lost_waits d.config d.failed b d.config.replicas d.waiting core.waiting;
        digest = core.digest;
        listed = core.digest;
        failed = failed_then;
        whole = λ calm. absurd (cc);
        failover = failover_then;
        abandoned = λ calm. absurd (cc);
        budget = omega arith;
        legal = core.legal;
        index = record { kept = index.kept; lies = index.lies; safe = core.index.safe };
      }
    where
      ids_same : (o : Option OpenPass)
          → all_inserted (survivors_of o) (head_of d.head).start.others
          ≡ all_inserted (survivors_of (option_map (λ (p : OpenPass). record p { is_committing = false }) o))
          (head_of d.head).start.others
      ids_same None = refl
      ids_same (Some p) = refl

      passes : (o : Option OpenPass) → IfSome o (IsOpenPass d)
          → IfSome (option_map (λ (p : OpenPass). record p { is_committing = false }) o) (IsOpenPass e)
      passes None is = tt
      passes (Some p) is = lost_pass p is

-- ---- for the loop over the closed segments

-- the next image is as it was
pub all_front : (c : Config) (failed : List ℕ) (b most : ℕ) (cs : List Image) (n : ℕ) (other : Image)
    → AllByRecursion (λ (x : Image). x.replicas ≤ most) cs → n < length cs
    → (get_or (changed_front cs n (lost_image c failed b)) n other).replicas ≤ most
all_front c failed b most [] n other all lt = absurd (omega arith)
all_front c failed b most (x ∷ cs) zero other all lt = all.0
all_front c failed b most (x ∷ cs) (suc n) other all lt =
    all_front c failed b most cs n other all.1 (omega arith)

pub lost_as : (c : Config) (failed : List ℕ) (b : ℕ) (x : Image) (t : Bool)
    → is_some (place_in c failed x.id x.replicas b) ≡ t → lost_image c failed b x ≡ (if t then fewer_replicas x else x)
lost_as c failed b x t is = ap (λ (u : Bool). if u then fewer_replicas x else x) is

-- the loop over the closed segments: one more has lost a replica, or has none there
pub next_front : (c : Config) (failed : List ℕ) (b : ℕ) (xs ys : List Image) (n : ℕ) (d : Image) (id replicas : ℕ)
    (place : Option ℕ) → n < length xs → ys ≡ changed_front xs n (lost_image c failed b) → id ≡ (get_or ys n d).id
    → replicas ≡ (get_or ys n d).replicas → place ≡ place_in c failed id replicas b → (t : Bool) → is_some place ≡ t
    → (if t then changed_at ys n fewer_replicas else ys) ≡ changed_front xs (n + 1) (lost_image c failed b)
next_front c failed b xs ys n d id replicas place lt is own_id own_replicas own t some = rw add-one (go t tested) where
  tested : is_some (place_in c failed (get_or ys n d).id (get_or ys n d).replicas b) ≡ t
  tested =
      (λ i. is_some (place_in c failed (sym own_id i) (sym own_replicas i) b))
      ∙ ap (λ (o : Option ℕ). is_some o) (sym own) ∙ some

  go : (u : Bool) → is_some (place_in c failed (get_or ys n d).id (get_or ys n d).replicas b) ≡ u
      → (if u then changed_at ys n fewer_replicas else ys) ≡ changed_front xs (suc n) (lost_image c failed b)
  go true there =
      front_more (lost_image c failed b) fewer_replicas xs ys n d lt is (lost_as c failed b (get_or ys n d) true there)
  go false away = front_same (lost_image c failed b) xs ys n d lt is (lost_as c failed b (get_or ys n d) false away)

-- ---- the count of closed replicas

pub none_less : (place : Option ℕ) → less_by 0 place ≡ 0
none_less None = refl
none_less (Some p) = go (nat_lt p 0) where
  go : (t : Bool) → (if t then 0 - 1 else 0) ≡ 0
  go true = refl
  go false = refl
