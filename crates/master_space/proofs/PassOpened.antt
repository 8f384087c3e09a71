-- A core stays valid when a pass has begun.
use Rattle.std.proofs.Common.{◌≡◌, ℕ, zero, suc, ◌+◌, ◌*◌, ◌-◌, ◌<◌, ◌≤◌, Bool, true, false, List, [], ◌∷◌, ◌++◌, map}
use Rattle.std.proofs.Common.{drop, length, refl, sym, ap, subst, ◌∙◌, inl, inr, arith}
use Rattle.std.specs.Prelude.{Option, Some, None, IfSome, nat_lt, ◌⊎◌, ◌^◌}
use Rattle.std.specs.List.{AllByRecursion, range_with_len}
use Rattle.std.specs.Option.{option_map_or}
use Rattle.std.proofs.lemmas.Bool.{and_parts, leb-true, le-ltb, lt-ltb}
use Rattle.std.proofs.lemmas.List.{append-nil, map-append}
use Rattle.std.proofs.lemmas.List.FromFn.{length-range_with_len}
use Rattle.std.proofs.lemmas.List.Sums.{sum_by-append}
use Rattle.entry.specs.declared.key.Key.{Key}
use Rattle.entry.specs.declared.entry.Entry.{Entry}
use Rattle.entry.specs.declared.entry.Entry.TheVariants as entry
use Rattle.entry.specs.Bag.{IsAmong}
use Rattle.entry.specs.declared.entry.Role.TheVariants as role
use Rattle.entry.specs.Format.{IsHeader, IsEntry}
use Rattle.entry.specs.Meaning.{object_at}
use Rattle.entry.specs.Text.{text_of, IsSegment}
use Rattle.entry.proofs.ListLemmas.{all_among, all_weaker}
use Rattle.segment.proofs.UnitLemmas.{length-survivor}
use Rattle.master_state.specs.log_laws.Intact.{survivor_entries}
use Rattle.master_state.proofs.log_laws.KeptEntries.{has_is}
use Rattle.cleaner.specs.declared.pass.Cursor.{Cursor}
use Rattle.cleaner.specs.declared.pass.Pass.{Pass}
use Rattle.cleaner.specs.Passes.{images_in, places_of, rest_of, IsCursorAt}
use Rattle.compactor.specs.Places.{LiesAt}
use Rattle.places.specs.declared.place.Place.{Place}
use Rattle.images.specs.Image.{Image}
use Rattle.images.specs.Sorted.{replicas_of}
use Rattle.images.specs.Images.{ImagesValue, AreWithin, count_of, free_seglets as free_images}
use Rattle.master_state.specs.log_laws.Data.{FailData}
use Rattle.master_state.specs.log_laws.Steps.{id_taken}
use Rattle.master_state.specs.log_memory.Steps.{ids_taken, MayBeginClean}
use Rattle.log_head.specs.declared.head.Roll.{Roll}
use Rattle.log_head.specs.Log.{head_of}
use Rattle.log_head.specs.log_laws.Heads.{ids_of}
use Rattle.log_head.specs.log_laws.Ids.{has, inserted, all_inserted}
use Rattle.master_state.specs.declared.ledger.Posting.TheVariants.{Survivors}
use Rattle.master_state.specs.declared.step.StepAnswer.TheVariants.{Begun}
use Rattle.master_state.specs.Budget.{newest_digest, most_segments, whole_seglets, used_seglets, free_seglets}
use Rattle.master_state.specs.Budget.{victims_of, survivors_of, is_committing}
use Rattle.master_state.specs.Causes.{survivors_for, clean_refusal}
use Rattle.master_state.specs.Data.{MasterData}
use Rattle.master_state.specs.Images.{survivor_images}
use Rattle.master_state.specs.Invariant.{IsCore, IsRollOf, IsOpenPass, IsSpare, IsSurvivor, IsIndex, NameBelow}
use Rattle.master_state.specs.Invariant.{AreImagesOf, listed_now}
use Rattle.master_state.specs.Ledger.{forgotten, posted}
use Rattle.master_state.specs.Log.{is_headless, log_of, memory_of, images_of, find, state_now}
use Rattle.master_state.specs.Steps.{fresh_pass, next_survivors, BeginsPass}
use Rattle.master_state.proofs.Finding.{index_again}
use Rattle.master_state.proofs.Indexing.{found_lies}
use Rattle.master_state.proofs.Refusals.{sizes_of}
use Rattle.master_state.proofs.Passing.{lacking_same}
use Rattle.master_state.proofs.Calm.{calm_parts, no_failover}
use Rattle.master_state.proofs.FreeVictims.{MayBegin}
use Rattle.master_space.proofs.NewImages.{new_ids, new_count}
use Rattle.master_space.proofs.PassBegun.{count, ids, id_within, new_or_not, in_new, images_other, images_new, grow}
use Rattle.master_space.proofs.PassBegun.{victim_out, victim_images, closed_then, pass, e, rest_then, rest_before}
use Rattle.master_space.proofs.PassBegun.{is_pass, rooms, image_new, image_other}
use Rattle.master_state.proofs.PassIds.{others, closed_ids, start_below, others_below, all_below, not_has}
use Rattle.master_state.proofs.PassIds.{not_opening_later, victims_listed}
use Rattle.master_space.proofs.PlaceRows.{lying_place}

-- one more id that is above the first and below the others comes between them
inserted_between : (front behind : List ℕ) (s : ℕ) → AllByRecursion (λ (z : ℕ). z < s) front
    → AllByRecursion (λ (z : ℕ). s < z) behind → inserted s (front ++ behind) ≡ front ++ s ∷ behind
inserted_between [] [] s below above = refl
inserted_between [] (z ∷ behind) s below above = (let test = lt-ltb s z above.0 in rw test refl)
inserted_between (z ∷ front) behind s below above =
    let lt = below.0 in
    let not : nat_lt s z ≡ false = le-ltb s z (omega arith) in
    rw not (ap (λ (xs : List ℕ). z ∷ xs) (inserted_between front behind s below.1 above))

above_first : (low first n : ℕ) → low < first → AllByRecursion (λ (z : ℕ). low < z) (range_with_len first n)
above_first low first zero lt = tt
above_first low first (suc n) lt = (lt, above_first low (first + 1) n (omega arith))

-- ids from one on that is above all others come last
all_inserted_last : (front : List ℕ) (first n : ℕ) → AllByRecursion (λ (z : ℕ). z < first) front
    → all_inserted (range_with_len first n) front ≡ front ++ range_with_len first n
all_inserted_last front first zero below = sym (append-nil front)
all_inserted_last front first (suc n) below =
    ap (inserted first) (all_inserted_last front (first + 1) n (all_below first (first + 1) front (omega arith) below))
    ∙ inserted_between front (range_with_len (first + 1) n) first below (above_first first (first + 1) n (omega arith))

all_both : (P : Image → Type 0) (xs ys : List Image) → AllByRecursion P xs → AllByRecursion P ys
    → AllByRecursion P (xs ++ ys)
all_both P [] ys first later = later
all_both P (x ∷ xs) ys first later = (first.0, all_both P xs ys first.1 later)

-- what the rule of a pass says
rules_of : (d : MasterData) (victims : List ℕ) → MayBegin d victims
    → (survivors_for d victims * whole_seglets d.config + whole_seglets d.config ≤ free_seglets d)
    × (length (newest_digest d.head) - length victims + survivors_for d victims + 1 ≤ most_segments d.config)
rules_of d victims may =
    let both = and_parts _ _ may.rule in
    let memory = leb-true _ _ both.0 in
    let places = leb-true _ _ both.1 in
    (more (survivors_for d victims) (whole_seglets d.config) memory, places)
  where
    more : (m w : ℕ) → (m + 1) * w ≤ free_seglets d → m * w + w ≤ free_seglets d
    more m w le = omega arith

-- ids that are taken are the next ones, and nobody took them
ids_are_taken : (n : ℕ) (l : FailData)
    → ids_taken n l ≡ record l { next = l.next + n; took = forgotten l.next n l.took }
ids_are_taken zero l = λ i. record l { next = same i } where
  same : l.next ≡ l.next + 0
  same = omega arith
ids_are_taken (suc n) l = ap id_taken (ids_are_taken n l) ∙ (λ i. record l {
  next = more i;
  took = forgotten l.next (suc n) l.took;
}) where
  more : suc (l.next + n) ≡ l.next + suc n
  more = omega arith

module _ (d : MasterData) (core : IsCore d) (victims : List ℕ) (may : MayBegin d victims) (cursor : Cursor)
    (begins : rest_of (images_in (closed_then d core victims may))
    (fresh_pass victims (next_survivors d victims) cursor)
    ≡ places_of (images_in (closed_then d core victims may)) victims)
    (within : cursor.victim ≤ length victims)
    (at : IsCursorAt d.index.seed (images_in (closed_then d core victims may)) (drop cursor.victim victims) cursor)
    (short : AreWithin d.config.segment d.closed) where
  abbrev after : MasterData
  after = e d core victims may cursor begins within at

  abbrev own : Pass
  own = pass d core victims may cursor begins within at

  -- ---- the closed segments

  abbrev new : List ℕ
  new = ids d core victims may

  ids_then : map (λ (c : Image). c.id) after.closed ≡ all_inserted (survivors_of after.pass) (others d core)
  ids_then =
      map-append (λ (c : Image). c.id) d.closed (survivor_images d.config new)
      ∙ (λ i. closed_ids d core may.victims.none i ++ new_ids d.config new i)
      ∙ sym (all_inserted_last (others d core) d.next (count d core victims may)
      (all_below d.head.id d.next (others d core) (omega (arith, core.used)) (others_below d core)))

  master_fits : IsHeader (record { master = d.config.master; segment = (head_of d.head).start.id; role = role.Head })
  master_fits = (subst (λ (es : List Entry). AllByRecursion IsEntry es) core.image.image core.head.segment.each).0

  new_segments : (zs : List ℕ) → ((s : ℕ) → IsAmong s zs → s ≤ 2 ^ 62)
      → AllByRecursion (λ (c : Image). IsSegment c.segment) (survivor_images d.config zs)
  new_segments [] few = tt
  new_segments (z ∷ zs) few = (
    record {
      each = (record { master = master_fits.master; segment = (let le = few z (inl refl) in omega arith) }, tt);
      order = refl;
    },
    new_segments zs (λ s m. few s (inr m)),
  )

  segments_then : AllByRecursion (λ (c : Image). IsSegment c.segment) after.closed
  segments_then =
      all_both (λ (c : Image). IsSegment c.segment) d.closed (survivor_images d.config new) core.segments
      (new_segments new (λ s m.
      (let within = (id_within d core victims may s m).1 in let le = may.next in omega arith)))

  -- ---- replicas

  -- no backup holds a survivor yet
  none_holds : (s : ℕ) → IsAmong s new → replicas_of after.closed s ≡ 0
  none_holds s m = ap (λ (o : Option Image). option_map_or (λ (x : Image). x.replicas) o 0)
      (image_new d core victims may s m)

  new_few : (zs : List ℕ) → AllByRecursion (λ (c : Image). c.replicas ≤ d.config.replicas)
      (survivor_images d.config zs)
  new_few [] = tt
  new_few (z ∷ zs) = (omega arith, new_few zs)

  -- the segments of the digest keep theirs
  listed_same : (s : ℕ) → IsAmong s (others d core) → replicas_of after.closed s ≡ replicas_of d.closed s
  listed_same s m = ap (λ (o : Option Image). option_map_or (λ (x : Image). x.replicas) o 0)
      (image_other d core victims may s (λ own. (
      let lt = all_among (λ (z : ℕ). z < d.head.id) (others d core) s (others_below d core) m in
      let le = (id_within d core victims may s own).0 in
      let used = core.used in
      omega arith)))

  -- ---- what is counted

  counted_then : used_seglets after ≡ used_seglets d + count d core victims may * whole_seglets d.config
  counted_then =
      let more = sum_by-append (count_of d.config.segment d.config.seglet) d.closed (survivor_images d.config new) in
      let own = new_count d.config new in
      let size = ap (λ (n : ℕ). n * whole_seglets d.config) (length-range_with_len d.next (count d core victims may)) in
      omega (arith, more, own, size)

  -- with the survivors' seglets one whole segment is free
  rules : (count d core victims may * whole_seglets d.config + whole_seglets d.config ≤ free_seglets d)
      × (length (newest_digest d.head) - length victims + count d core victims may + 1 ≤ most_segments d.config)
  rules = rules_of d victims may

  budget_then : used_seglets after ≤ d.config.seglets
  budget_then = let enough = rules.0 in let was = core.budget in omega (arith, counted_then)

  spare : IsSpare after (length victims) (count d core victims may)
  spare = record {
    free = (let enough = rules.0 in let was = core.budget in omega (arith, counted_then));
    listed = (let few = rules.1 in omega arith);
  }

  -- ---- the index

  index_then : IsIndex after
  index_then =
      let i = index_again d core d.head after.closed (grow d core victims may) core.head segments_then in
      record { kept = i.kept; lies = i.lies; safe = core.index.safe }

  live : (k : Key) (q : Place) → find after k ≡ Some q → IsAmong q.segment victims
      → IsAmong q (rest_of (images_in after.closed) own)
  live k q is m =
      let there = found_lies (images_of after) k (find after k) ((state_now d).contents k) (index_then.lies k) q is in
      let image : images_of after q.segment ≡ images_in d.closed q.segment =
      images_other d core victims may q.segment (victim_out d core victims may q.segment m)
      ∙ victim_images d core victims may q.segment m in
      subst (λ (ps : List Place). IsAmong q ps) (sym (rest_then d core victims may cursor begins within at))
      (lying_place (images_in d.closed) victims q (object_at k there.0) m
      (subst (λ (es : List Entry). LiesAt es q.at (object_at k there.0)) image there.2) refl)

  -- ---- the pass

  survivor_then : (s : ℕ) → IsAmong s new → IsSurvivor after s
  survivor_then s m =
      let parts = id_within d core victims may s m in
      let le = parts.0 in
      let lt = parts.1 in
      let header = ap (λ (es : List Entry). length (text_of es)) (in_new d core victims may s m)
      ∙ length-survivor d.config.master s in
      let least = (sizes_of d.config core.config).least_segment in
      record {
        outside = not_has (ids_of (head_of d.head).start) s
            (all_below d.next s (ids_of (head_of d.head).start) le (start_below d core));
        not_new = not_opening_later d core s le;
        used = lt;
        begins = ([], in_new d core victims may s m ∙ sym (append-nil (survivor_entries d.config.master s)));
        within = omega arith;
      }

  pass_then : IsOpenPass after own
  pass_then = record {
    pass = is_pass d core victims may cursor begins within at;
    victims = record {
      some = may.victims.some;
      few = may.victims.few;
      apart = may.victims.apart;
      older = all_weaker (λ (s : ℕ). IsAmong s (others d core)) (λ (s : ℕ). has (others d core) s ≡ true)
          (λ s m. has_is (others d core) s m) victims (victims_listed d core victims may.victims);
    };
    survivors = record { some = omega arith; few = may.few; each = survivor_then };
    rooms = rooms d core victims may cursor begins within at short;
    sealed = λ s m. (let none = none_holds s m in omega arith);
    live = live;
    unsealed = λ more s m. none_holds s m;
    spare = λ none not. spare;
    commits = λ is. absurd (cc);
  }

  named_then : NameBelow (images_of after) (d.next + count d core victims may)
  named_then s t m = go (new_or_not d core victims may s) where
    go : IsAmong s new ⊎ (IsAmong s new → ⊥) → t.segment < d.next + count d core victims may
    go (inl own) =
        never (subst (λ (es : List Entry). IsAmong (entry.Tombstone t) es) (images_new d core victims may s own) m)
      where
        never : IsAmong (entry.Tombstone t) (survivor_entries d.config.master s)
            → t.segment < d.next + count d core victims may
        never (inl is) = absurd (cc)
        never (inr none) = absurd none
    go (inr out) =
        let lt = core.named s t (subst (λ (es : List Entry). IsAmong (entry.Tombstone t) es)
        (images_other d core victims may s out) m) in
        omega arith

  -- ---- the core

  committing_not : is_committing d ≡ false
  committing_not = ap (λ (o : Option Pass). option_map_or (λ (p : Pass). p.is_committing) o false) may.victims.none

  roll_then : (o : Option Roll) → IfSome o (IsRollOf d) → IfSome o (IsRollOf after)
  roll_then None rolls = tt
  roll_then (Some r) rolls = record {
    image = rolls.image;
    lists = rolls.lists ∙ lists_same;
    within = rolls.within;
    newer = rolls.newer;
    used = (let lt = rolls.used in omega arith);
  } where
    lists_same : listed_now d ≡ ids_of (head_of d.head).start
    lists_same = let none = may.victims.none in rw none refl

  pub opened_core : IsCore after
  opened_core = record {
    config = core.config;
    replicas = core.replicas;
    history = core.history;
    head = core.head;
    image = core.image;
    within = core.within;
    closed = ids_then;
    segments = segments_then;
    below = core.below;
    real = core.real;
    used = (let lt = core.used in omega arith);
    first = core.first;
    next = (let le = may.next in omega arith);
    roll = roll_then d.head.roll core.roll;
    pass = pass_then;
    named = named_then;
    replicas_few = all_both (λ (c : Image). c.replicas ≤ d.config.replicas) d.closed (survivor_images d.config new)
        core.replicas_few (new_few new);
    waiting = core.waiting;
    digest = core.digest;
    listed = core.listed;
    failed = (let f = core.failed in record { few = f.few; there = f.there; apart = f.apart; two = f.two });
    whole = λ calm. lacking_same d.config.replicas d.closed after.closed (others d core) listed_same ∙ core.whole calm;
    failover = no_failover d after (calm_parts d may.step).1;
    abandoned = core.abandoned;
    budget = budget_then;
    legal = core.legal;
    index = index_then;
  }

  -- with the pass posted
  pub begins_pass : clean_refusal d victims ≡ None → BeginsPass d victims (Begun (next_survivors d victims))
      (posted after (Survivors d.next (survivors_for d victims)))
  begins_pass passed = record {
    passed = passed;
    told = refl;
    cursor = cursor;
    begins = rest_before d core victims may cursor begins within at;
    log = sym (ids_are_taken (survivors_for d victims) (log_of d));
    rest = refl;
  }

-- the model's rule
pub may_clean_now : (d : MasterData) (core : IsCore d) (victims : List ℕ) → MayBegin d victims
    → MayBeginClean (log_of d) (memory_of d) victims
may_clean_now d core victims may = record {
  none = ap (λ (o : Option Pass). record { victims = victims_of o; survivors = survivors_of o }) may.victims.none;
  no_commit = ap (λ (o : Option Pass). option_map_or (λ (p : Pass). p.is_committing) o false) may.victims.none;
  some = λ none. (let some = may.victims.some in let zero = ap length none in omega arith);
  older = λ s m. in_force_lists s (all_among (λ (z : ℕ). IsAmong z (others d core)) victims s
      (victims_listed d core victims may.victims) m);
} where
  -- a head that lists other segments is in force
  in_force_lists : (s : ℕ) → IsAmong s (others d core) → IsAmong s (log_of d).head.start.others
  in_force_lists s m = go (is_headless d) refl where
    go : (t : Bool) → is_headless d ≡ t → IsAmong s (log_of d).head.start.others
    go true none = absurd (subst (λ (ids : List ℕ). IsAmong s ids) (core.first none).others m)
    go false some = rw some m

-- the survivors' seglets are free
pub survivors_free : (d : MasterData) → IsCore d → (victims : List ℕ) → MayBegin d victims → (v w : ImagesValue)
    → AreImagesOf d.config w
    → d.closed ≡ w.images → v ≡ record w { room = v.room }
    → survivors_for d victims * whole_seglets d.config ≤ free_images v
survivors_free d core victims may v w are images same =
    let enough = (rules_of d victims may).0 in
    let was = core.budget in
    let segment : v.segment ≡ d.config.segment = ap (λ (x : ImagesValue). x.segment) same ∙ are.segment in
    let seglet : v.seglet ≡ d.config.seglet = ap (λ (x : ImagesValue). x.seglet) same ∙ are.seglet in
    let seglets : v.seglets ≡ d.config.seglets = ap (λ (x : ImagesValue). x.seglets) same ∙ are.seglets in
    let closed : v.images ≡ d.closed = ap (λ (x : ImagesValue). x.images) same ∙ sym images in
    rw (segment, seglet, seglets, closed) (omega arith)
