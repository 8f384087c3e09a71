-- What a core becomes when a segment is compacted: the images, the seglets, and what the index leads to.
use Rattle.std.proofs.Common.{◌≡◌, ℕ, ◌+◌, ◌≤◌, ◌<◌, Bool, true, false, List, [], ◌∷◌, ◌++◌, length, refl, sym, ap}
use Rattle.std.proofs.Common.{subst, ◌∙◌, inl, inr, arith}
use Rattle.std.specs.Prelude.{Option, Some, None, IfSome, IsSome, is_some, unwrap_or, not, ◌==◌, ◌||◌, if◌then◌else◌}
use Rattle.std.specs.List.{AllByRecursion}
use Rattle.std.specs.Option.{option_map, option_map_or, option_to_list}
use Rattle.std.proofs.lemmas.Bool.{eqb-true, not-false, or_parts}
use Rattle.std.proofs.Math.Bool.{or-false}
use Rattle.cleaner.specs.declared.pass.Pass.{Pass as OpenPass}
use Rattle.cleaner.specs.Passes.{survivor_ids}
use Rattle.entry.specs.declared.entry.Entry.{Entry}
use Rattle.entry.specs.declared.entry.Entry.TheVariants as entry
use Rattle.entry.specs.Bag.{IsAmong}
use Rattle.entry.specs.Format.{spelling}
use Rattle.entry.specs.Text.{text_of, IsSegment}
use Rattle.entry.proofs.ListLemmas.{all_weaker}
use Rattle.log_head.specs.declared.head.Roll.{Roll}
use Rattle.log_head.specs.Head.{digest_of}
use Rattle.log_head.specs.Log.{head_of}
use Rattle.log_head.proofs.Digests.{has_any}
use Rattle.log_head.proofs.RollLog.{digest_is}
use Rattle.log_head.specs.log_laws.Heads.{ids_of}
use Rattle.log_head.specs.log_laws.Ids.{has, all_inserted}
use Rattle.images.specs.Image.{Image}
use Rattle.images.specs.Images.{AreWithin}
use Rattle.images.specs.Sorted.{AreRising, segment_of, replicas_of, changed}
use Rattle.images.specs.Steps.{replaced_by}
use Rattle.images.proofs.Replicas.{replicas_kept}
use Rattle.compactor.specs.Kept.{has_id, kept, kept_from}
use Rattle.compactor.specs.Laws.{compacted_images}
use Rattle.tally.specs.declared.tallies.Tally.{Tally}
use Rattle.tally.specs.Rows.{AreRight}
use Rattle.tally.proofs.Rights.{compact_is_right}
use Rattle.cleaner.specs.declared.fault.PassFault.TheVariants.{IsHead, NotInLog, PassOpen}
use Rattle.master_state.specs.declared.step.Refusal.TheVariants.{Pass}
use Rattle.master_state.specs.Budget.{used_seglets, victims_of, survivors_of}
use Rattle.master_state.specs.Causes.{is_head, compact_refusal, step_refusal}
use Rattle.master_state.specs.Data.{MasterData}
use Rattle.master_state.specs.Images.{new_image_or, images_among}
use Rattle.master_state.specs.Invariant.{IsCore, IsRollOf, IsOpenPass, NameBelow, IsIndex, AreWhole, AreTallied}
use Rattle.master_state.specs.Log.{images_of, log_set_ids}
use Rattle.master_state.specs.Steps.{kept_now, compacted_data}
use Rattle.master_state.proofs.Imaging.{same_id, ids_in}
use Rattle.master_state.proofs.Passing.{has_among, lacking_same}
use Rattle.master_state.proofs.Rising.{has_more, has_all}
use Rattle.compactor.proofs.KeptEntries.{kept_length, kept_segment}
use Rattle.master_state.proofs.Refusals.{passes, sizes_of}
use Rattle.master_state.proofs.Calm.{calm_parts, no_failover, passes_first}
use Rattle.master_space.proofs.Replacing.{same_ids, changed_there, changed_here, changed_each, changed_count, each_one}
use Rattle.master_space.proofs.Replacing.{closed_each}

-- ---- the tests

-- What the tests of a compaction say: the segment is in the digest in force, is neither head, and is no victim.
pub record IsAdmitted (d : MasterData) (id : ℕ) : Type 0 where
  pub step : step_refusal d ≡ None
  pub older : is_head d.head id ≡ false
  pub listed : has_id (digest_of d.head.image) id ≡ true
  pub spared : has_id (victims_of d.pass) id ≡ false

pub admitted : (d : MasterData) (id : ℕ) → compact_refusal d id ≡ None → IsAdmitted d id
admitted d id e =
    let a = passes_first (step_refusal d) _ e in
    let h = passes (is_head d.head id) (Pass (IsHead id)) _ a.1 in
    let l = passes (not (has_id (digest_of d.head.image) id)) (Pass (NotInLog id)) _ h.1 in
    let v = passes (has_id (victims_of d.pass) id) (Pass PassOpen) None l.1 in
    record { step = a.0; older = h.0; listed = not-false _ l.0; spared = v.0 }

closed_listed : (cs : List Image) (s : ℕ) → has (ids_in cs) s ≡ is_some (segment_of cs s)
closed_listed [] s = refl
closed_listed (c ∷ cs) s = go (c.id == s) refl (closed_listed cs s) where
  go : (t : Bool) → (c.id == s) ≡ t → has (ids_in cs) s ≡ is_some (segment_of cs s)
      → has (ids_in (c ∷ cs)) s ≡ is_some (segment_of (c ∷ cs) s)
  go true test later = rw test refl
  go false test later = rw test later

others_have : (o : Option OpenPass) (ids : List ℕ) (id : ℕ) → has_id (survivors_of o) id ≡ false
    → has (all_inserted (survivors_of o) ids) id ≡ has ids id
others_have o ids id away =
    has_all (survivors_of o) ids id
    ∙ ap (λ (b : Bool). b || has ids id) (sym (has_any (survivors_of o) id) ∙ away)

-- whether a segment is listed
module _ (d : MasterData) (core : IsCore d) (id : ℕ) where
  listed_in : has_id (digest_of d.head.image) id ≡ has (ids_of (head_of d.head).start) id
  listed_in =
      has_any (digest_of d.head.image) id
      ∙ ap (λ (ids : List ℕ). has ids id) (digest_is d.config.master d.head (head_of d.head) core.image)

  -- a survivor isn't
  survivor_unlisted : has_id (survivors_of d.pass) id ≡ true → has_id (digest_of d.head.image) id ≡ false
  survivor_unlisted = go d.pass core.pass where
    go : (o : Option OpenPass) → IfSome o (IsOpenPass d) → has_id (survivors_of o) id ≡ true
        → has_id (digest_of d.head.image) id ≡ false
    go None is has = absurd (cc)
    go (Some p) is has =
        let ids = survivor_ids p.survivors in
        listed_in ∙ (is.survivors.each id (has_among ids id (sym (has_any ids id) ∙ has))).outside

  -- any other segment but a head is if there is an image
  module _ (older : is_head d.head id ≡ false) (away : has_id (survivors_of d.pass) id ≡ false) where
    listed_by : has_id (digest_of d.head.image) id ≡ is_some (segment_of d.closed id)
    listed_by =
        let own = ap (λ (z : ℕ). z == id) core.image.id
        ∙ (or_parts (d.head.id == id) (option_map_or (λ (r : Roll). r.id == id) d.head.roll false) older).0 in
        listed_in ∙ has_more (head_of d.head).start.others (head_of d.head).start.id id
        ∙ ap (λ (b : Bool). has (head_of d.head).start.others id || b) own
        ∙ or-false (has (head_of d.head).start.others id)
        ∙ sym (others_have d.pass (head_of d.head).start.others id away)
        ∙ ap (λ (ids : List ℕ). has ids id) (sym core.closed) ∙ closed_listed d.closed id

    -- by what was got
    listed_got : (got : Option (List Entry)) (t : Bool)
        → got ≡ segment_of d.closed id → is_some got ≡ t
        → has_id (digest_of d.head.image) id ≡ t
    listed_got got t is some = listed_by ∙ ap is_some (sym is) ∙ some

-- what the tests answer
module _ (d : MasterData) (core : IsCore d) (id : ℕ) (step : step_refusal d ≡ None)
    (older : is_head d.head id ≡ false) where
  pub survivor_refused : has_id (survivors_of d.pass) id ≡ true → compact_refusal d id ≡ Some (Pass (NotInLog id))
  survivor_refused has = let unlisted = survivor_unlisted d core id has in rw (step, older, unlisted) refl

  module _ (away : has_id (survivors_of d.pass) id ≡ false) (got : Option (List Entry))
      (is : got ≡ segment_of d.closed id) where
    pub not_listed_refused : is_some got ≡ false → compact_refusal d id ≡ Some (Pass (NotInLog id))
    not_listed_refused none =
        let unlisted = listed_got d core id older away got false is none in rw (step, older, unlisted) refl

    pub victim_refused : is_some got ≡ true → has_id (victims_of d.pass) id ≡ true
        → compact_refusal d id ≡ Some (Pass PassOpen)
    victim_refused some victim =
        let listed = listed_got d core id older away got true is some in rw (step, older, listed, victim) refl

    pub listed_passed : is_some got ≡ true → has_id (victims_of d.pass) id ≡ false → compact_refusal d id ≡ None
    listed_passed some spared =
        let listed = listed_got d core id older away got true is some in rw (step, older, listed, spared) refl

-- ---- the data after it

module _ (d : MasterData) (core : IsCore d) (id : ℕ) (is : IsAdmitted d id) where
  abbrev e : MasterData
  e = compacted_data d id

  abbrev old : List Entry
  old = images_of d id

  -- neither head has the id
  not_head : (d.head.id == id) ≡ false
  not_head = (or_parts (d.head.id == id) (option_map_or (λ (r : Roll). r.id == id) d.head.roll false) is.older).0

  not_new : option_map_or (λ (r : Roll). r.id == id) d.head.roll false ≡ false
  not_new = (or_parts (d.head.id == id) (option_map_or (λ (r : Roll). r.id == id) d.head.roll false) is.older).1

  -- what is found of this id is a closed segment
  new_image : (o : Option Roll) (other : Option (List Entry)) → option_map_or (λ (r : Roll). r.id == id) o false ≡ false
      → new_image_or o id other ≡ other
  new_image None other away = refl
  new_image (Some r) other away = rw away refl

  closed_only : (cs : List Image) → images_among d.head cs id ≡ unwrap_or (segment_of cs id) []
  closed_only cs =
      let away = not_head in
      rw away (ap (λ (o : Option (List Entry)). unwrap_or o []) (new_image d.head.roll (segment_of cs id) not_new))

  pub in_digest : IsAmong id (ids_of (head_of d.head).start)
  in_digest = has_among (ids_of (head_of d.head).start) id (sym (listed_in d core id) ∙ is.listed)

  pub no_survivor : has_id (survivors_of d.pass) id ≡ false
  no_survivor = go (has_id (survivors_of d.pass) id) refl where
    go : (t : Bool) → has_id (survivors_of d.pass) id ≡ t → t ≡ false
    go true has = let unlisted = survivor_unlisted d core id has in let listed = is.listed in absurd (cc)
    go false away = refl

  there : (es : List Entry) × (segment_of d.closed id ≡ Some es)
  there = go (segment_of d.closed id) (sym (listed_by d core id is.older no_survivor) ∙ is.listed) where
    go : (o : Option (List Entry)) → is_some o ≡ true → (es : List Entry) × (o ≡ Some es)
    go None some = absurd (cc)
    go (Some es) some = (es, refl)

  old_is : images_of d id ≡ there.0
  old_is = closed_only d.closed ∙ ap (λ (o : Option (List Entry)). unwrap_or o []) there.1

  pub old_there : segment_of d.closed id ≡ Some (images_of d id)
  old_there = there.1 ∙ ap Some (sym old_is)

  pub old_segment : IsSegment (images_of d id)
  old_segment = closed_each IsSegment d.closed id (images_of d id) core.segments old_there

  -- ---- images

  abbrev then_images : ℕ → List Entry
  then_images = compacted_images (log_set_ids d) d.index (images_of d) id

  image_here : images_of e id ≡ kept_now d id
  image_here =
      closed_only (changed d.closed id (replaced_by (kept_now d id)))
      ∙ ap (λ (o : Option (List Entry)). unwrap_or o [])
      (changed_here id (kept_now d id) d.closed (subst (λ (o : Option (List Entry)). IsSome o) (sym old_there) refl))

  image_beside : (s : ℕ) → (id ≡ s → ⊥) → images_of e s ≡ images_of d s
  image_beside s other =
      ap (λ (o : Option (List Entry)). unwrap_or (if d.head.id == s then Some d.head.image
      else new_image_or d.head.roll s o) [])
      (changed_there id (kept_now d id) d.closed s other)

  pub images_then : (s : ℕ) → images_of (compacted_data d id) s
      ≡ compacted_images (log_set_ids d) d.index (images_of d) id s
  images_then s = go (s == id) refl where
    go : (t : Bool) → (s == id) ≡ t → images_of e s ≡ then_images s
    go true here = let same : s ≡ id = eqb-true s id here in rw here (ap (images_of e) same ∙ image_here)
    go false away =
        let other : id ≡ s → ⊥ = (λ same. (
        let test : (s == id) ≡ true = ap (λ (z : ℕ). z == id) (sym same) ∙ same_id id in cc)) in
        rw away (image_beside s other)

  -- ---- what is counted

  ids_then : log_set_ids (compacted_data d id) ≡ log_set_ids d
  ids_then =
      ap (λ (ids : List ℕ). ids ++ d.head.id ∷ option_to_list (option_map (λ (r : Roll). r.id) d.head.roll))
      (same_ids id (kept_now d id) d.closed)

  pub compacted_tallies : (rows : List Tally) → AreTallied d rows → AreTallied (compacted_data d id) rows
  compacted_tallies rows right =
      subst (λ (ids : List ℕ). AreRight ids e.index (images_of e) rows) (sym ids_then)
      (compact_is_right (log_set_ids d) d.index (images_of d) (images_of e) id rows old_segment image_here
      (λ s other. image_beside s (λ same. other (sym same))) right)

  -- ---- the closed segments

  closed_then : ids_in e.closed ≡ all_inserted (survivors_of d.pass) (head_of d.head).start.others
  closed_then = same_ids id (kept_now d id) d.closed ∙ core.closed

  -- each keeps its replicas
  pub replicas_then : (s : ℕ) → replicas_of (changed d.closed id (replaced_by (kept_now d id))) s
      ≡ replicas_of d.closed s
  replicas_then s = replicas_kept d.closed id s (replaced_by (kept_now d id)) (λ c. refl) (λ c. refl)

  few_then : AllByRecursion (λ (c : Image). c.replicas ≤ d.config.replicas) e.closed
  few_then = go d.closed core.replicas_few where
    go : (cs : List Image) → AllByRecursion (λ (c : Image). c.replicas ≤ d.config.replicas) cs
        → AllByRecursion (λ (c : Image). c.replicas ≤ d.config.replicas)
        (changed cs id (replaced_by (kept_now d id)))
    go [] all = tt
    go (c ∷ cs) all = first (c.id == id) (go cs all.1) where
      first : (t : Bool)
          → AllByRecursion (λ (x : Image). x.replicas ≤ d.config.replicas) (changed cs id (replaced_by (kept_now d id)))
          → AllByRecursion (λ (x : Image). x.replicas ≤ d.config.replicas)
          ((if t then replaced_by (kept_now d id) c else c) ∷ changed cs id (replaced_by (kept_now d id)))
      first true later = (all.0, later)
      first false later = (all.0, later)

  whole_then : AreWhole e
  whole_then =
      lacking_same d.config.replicas d.closed e.closed (head_of d.head).start.others (λ s m. replicas_then s)
      ∙ core.whole (calm_parts d is.step).1

  segments_then : AllByRecursion (λ (c : Image). IsSegment c.segment) e.closed
  segments_then = changed_each id (kept_now d id) IsSegment d.closed core.segments
      (kept_segment (log_set_ids d) d.index id old old_segment)

  pub shorter : length (text_of (kept_now d id)) ≤ length (text_of (images_of d id))
  shorter = kept_length (log_set_ids d) d.index id 0 (images_of d id)

  -- no more is counted
  pub used_less : AreRising d.closed → AreWithin d.config.segment d.closed
      → used_seglets (compacted_data d id) ≤ used_seglets d
  used_less rising within =
      let sizes = sizes_of d.config core.config in
      let least = sizes.least_seglet in
      let one = all_weaker (λ (c : Image). c.id ≡ id → old ≡ c.segment)
      (λ (c : Image). c.id ≡ id → length (text_of (kept_now d id)) ≤ length (text_of c.segment))
      (λ c same own. subst (λ (es : List Entry). length (text_of (kept_now d id)) ≤ length (text_of es))
      (same own) shorter)
      d.closed (each_one d.closed id old rising old_there) in
      let le = changed_count id (kept_now d id) d.config.segment d.config.seglet
      (omega arith) sizes.multiple d.closed one within in
      omega arith

  -- ---- what tombstones name

  kept_among : (at : ℕ) (es : List Entry) (x : Entry) → IsAmong x
      (kept_from (log_set_ids d) d.index id at es) → IsAmong x es
  kept_among at [] x m = m
  kept_among at (y ∷ es) x m =
      go (kept (log_set_ids d) d.index (record { segment = id; at = at }) y)
      (kept_among (at + length (spelling y)) es x) m
    where
      go : (t : Bool) → (IsAmong x (kept_from (log_set_ids d) d.index id (at + length (spelling y)) es) → IsAmong x es)
          → IsAmong x (if t then y ∷ kept_from (log_set_ids d) d.index id (at + length (spelling y)) es
          else kept_from (log_set_ids d) d.index id (at + length (spelling y)) es)
          → IsAmong x (y ∷ es)
      go true later (inl own) = inl own
      go true later (inr m) = inr (later m)
      go false later m = inr (later m)

  named_then : NameBelow (images_of (compacted_data d id)) d.next
  named_then s t m = go (s == id) refl (subst (λ (es : List Entry). IsAmong (entry.Tombstone t) es)
      (images_then s) m) where
        go : (b : Bool) → (s == id) ≡ b → IsAmong (entry.Tombstone t) (if b then kept_now d id else images_of d s)
            → t.segment < d.next
        go true here m = core.named id t (kept_among 0 (images_of d id) (entry.Tombstone t) m)
        go false away m = core.named s t m

  -- what is left to be shown is the index, and that an open pass goes on
  pub compacted_core : AreRising d.closed → AreWithin d.config.segment d.closed → IsIndex (compacted_data d id)
      → IfSome d.pass (IsOpenPass (compacted_data d id)) → IsCore (compacted_data d id)
  compacted_core rising within index pass = record {
    config = core.config;
    replicas = core.replicas;
    history = core.history;
    head = core.head;
    image = core.image;
    within = core.within;
    closed = closed_then;
    segments = segments_then;
    below = core.below;
    real = core.real;
    used = core.used;
    first = core.first;
    next = core.next;
    roll = go d.head.roll core.roll;
    pass = pass;
    named = named_then;
    replicas_few = few_then;
    waiting = core.waiting;
    digest = core.digest;
    listed = core.listed;
    failed = (let f = core.failed in record { few = f.few; there = f.there; apart = f.apart; two = f.two });
    whole = λ calm. whole_then;
    failover = no_failover d e (calm_parts d is.step).1;
    abandoned = core.abandoned;
    budget = (let less = used_less rising within in let budget = core.budget in omega arith);
    legal = core.legal;
    index = index;
  } where
    go : (o : Option Roll) → IfSome o (IsRollOf d) → IfSome o (IsRollOf (compacted_data d id))
    go None rolls = tt
    go (Some r) rolls = record {
      image = rolls.image;
      lists = rolls.lists;
      within = rolls.within;
      newer = rolls.newer;
      used = rolls.used;
    }
