-- A core stays valid when its open pass has treated one more entry.
use Rattle.std.proofs.Common.{◌≡◌, ℕ, ◌<◌, Bool, true, false, List, [], ◌∷◌, ◌++◌, length, refl, sym, ap, subst, ◌∙◌}
use Rattle.std.proofs.Common.{◌+◌, ◌≤◌, map, inl, inr, append_assoc, arith}
use Rattle.std.specs.Prelude.{Option, Some, None, IfSome, unwrap_or, ◌==◌, ◌||◌, if◌then◌else◌}
use Rattle.std.specs.List.{AllByRecursion}
use Rattle.std.specs.Option.{option_map, option_map_or, option_to_list}
use Rattle.std.proofs.lemmas.Bool.{eqb-true, and_parts}
use Rattle.std.proofs.lemmas.List.{append-nil}
use Rattle.entry.specs.declared.key.Key.{Key}
use Rattle.entry.specs.declared.entry.Entry.{Entry}
use Rattle.entry.specs.declared.entry.Entry.TheVariants as entry
use Rattle.entry.specs.Bag.{IsAmong}
use Rattle.entry.specs.Format.{spelling, IsEntry}
use Rattle.entry.specs.Text.{text_of, is_data, IsSegment}
use Rattle.entry.proofs.BagLemmas.{among_push}
use Rattle.entry.proofs.ListLemmas.{all_among}
use Rattle.master_state.specs.log_laws.Intact.{BeginAsSurvivor, survivor_entries}
use Rattle.cleaner.specs.declared.pass.Copied.{Copied}
use Rattle.cleaner.specs.declared.pass.Pass.{Pass}
use Rattle.cleaner.specs.KeptLengths.{HasRoomsIn}
use Rattle.cleaner.specs.Passes.{images_in, survivor_ids, images_with, held_with, copy_place, rest_of, is_at_end}
use Rattle.cleaner.specs.Passes.{copied_as, next_len, IsPass, CopiesOne}
use Rattle.cleaner.proofs.Lacking.{copied_replicas}
use Rattle.cleaner.proofs.Images.{with_other, len_is, is_victim}
use Rattle.cleaner.proofs.Leaving.{left_rooms}
use Rattle.cleaner.proofs.SurvivorIds.{id_among}
use Rattle.compactor.specs.Kept.{kept}
use Rattle.compactor.specs.Places.{LiesAt, IsAtPlace}
use Rattle.places.specs.declared.place.Place.{Place}
use Rattle.places.specs.Map.{Places}
use Rattle.images.specs.Image.{Image}
use Rattle.images.specs.Sorted.{AreRising, IsWhole, segment_of}
use Rattle.log_head.specs.declared.head.Roll.{Roll}
use Rattle.log_head.specs.Log.{head_of}
use Rattle.log_head.specs.log_laws.Heads.{ids_of}
use Rattle.log_head.specs.log_laws.Ids.{has, all_inserted}
use Rattle.tally.specs.declared.tallies.Tally.{Tally}
use Rattle.tally.specs.Rows.{AreRight}
use Rattle.master_space.specs.Counting.{next_victim, IsCopyCounted}
use Rattle.master_state.specs.Budget.{victims_of, survivors_of, used_seglets}
use Rattle.master_state.specs.Data.{MasterData}
use Rattle.master_state.specs.Images.{images_among, new_image_or}
use Rattle.master_state.specs.Invariant.{IsCore, IsIndex, IsRollOf, IsSurvivor, IsOpenPass, NameBelow}
use Rattle.master_state.specs.Invariant.{listed_with, AreTallied}
use Rattle.master_state.specs.Log.{log_set_ids, images_of, find, state_now}
use Rattle.master_state.proofs.Calm.{no_failover}
use Rattle.master_space.proofs.CopiedImages.{tail_of, ids_same, segments_then, replicas_then, count_same, own_then}
use Rattle.master_space.proofs.CopiedLengths.{victim_is}
use Rattle.master_space.proofs.CopiedPlaces.{index_treated, found_treated}
use Rattle.master_space.proofs.CopiedTallies.{copied_right}
use Rattle.master_state.proofs.Finding.{each_of, each_among, index_of}
use Rattle.master_state.proofs.Imaging.{same_id, other_id}
use Rattle.master_state.proofs.Indexing.{Grow}
use Rattle.master_state.proofs.PassIds.{IsNotNew, closed_only}
use Rattle.master_state.proofs.Passing.{victim_below, lacking_same}
use Rattle.master_space.proofs.PlaceRows.{lies_among}

-- the last of some ids isn't this one, if none is
last_other : (ids : List ℕ) (z s : ℕ) → has (ids ++ z ∷ []) s ≡ false → (z == s) ≡ false
last_other [] z s is = go (z == s) is where
  go : (t : Bool) → (t || false) ≡ false → t ≡ false
  go true is = absurd (cc)
  go false is = refl
last_other (x ∷ ids) z s is = go (x == s) is (last_other ids z s) where
  go : (t : Bool) → (t || has (ids ++ z ∷ []) s) ≡ false → (has (ids ++ z ∷ []) s ≡ false → (z == s) ≡ false)
      → (z == s) ≡ false
  go true is rest = absurd (cc)
  go false is rest = rest is

-- what becomes of an object's place leaves the seed
with_seed : (b : Bool) (p to : Place) (e : Entry) (held : Places) → (held_with b p to e held).seed ≡ held.seed
with_seed false p to e held = refl
with_seed true p to (entry.Header h) held = refl
with_seed true p to (entry.Digest ids) held = refl
with_seed true p to (entry.Safe version) held = refl
with_seed true p to (entry.Object o) held = refl
with_seed true p to (entry.Tombstone t) held = refl

module _ (d : MasterData) (core : IsCore d) (p : Pass) (opened : d.pass ≡ Some p) (more : is_at_end p ≡ false)
    (rising : AreRising d.closed) (calm : d.failover ≡ None) where
  pub open_pass : IsOpenPass d p
  open_pass = subst (λ (o : Option Pass). IfSome o (IsOpenPass d)) opened core.pass

  -- ---- the victims are no heads

  victim_not_head : (s : ℕ) → IsAmong s p.victims → (d.head.id == s) ≡ false
  victim_not_head s m = let lt = victim_below d core p open_pass s m in other_id d.head.id s (λ same. omega arith)

  victim_not_new : (s : ℕ) → IsAmong s p.victims → IsNotNew d.head.roll s
  victim_not_new s m = go d.head.roll core.roll where
    go : (o : Option Roll) → IfSome o (IsRollOf d) → IsNotNew o s
    go None rolls = tt
    go (Some r) rolls =
        let newer = rolls.newer in let lt = victim_below d core p open_pass s m in other_id r.id s (λ same. omega arith)

  victim_image : (s : ℕ) → IsAmong s p.victims → images_of d s ≡ images_in d.closed s
  victim_image s m = closed_only d s (victim_not_head s m) (victim_not_new s m) d.closed

  -- ---- one entry

  -- it goes to this survivor, if it is kept
  module _ (target : ℕ) (member : IsAmong target (survivor_ids p.survivors)) (place : Place) (x : Entry)
      (victim : IsAmong place.segment p.victims) (stands_in : IsAtPlace (images_in d.closed) place x)
      (valid : IsEntry x) (of_data : is_data x ≡ true) where
    abbrev survivor : IsSurvivor d target
    survivor = open_pass.survivors.each target member

    whole : IsWhole d.closed target
    whole = all_among (IsWhole d.closed) (survivor_ids p.survivors) target open_pass.pass.whole member

    not_head : (d.head.id == target) ≡ false
    not_head =
        ap (λ (z : ℕ). z == target) (sym core.image.id)
        ∙ last_other (head_of d.head).start.others (head_of d.head).start.id target survivor.outside

    abbrev b : Bool
    b = kept (log_set_ids d) d.index place x

    abbrev pub closed : List Image
    closed = images_with b target x d.closed

    abbrev to : Place
    to = copy_place target d.closed

    abbrev pub held : Places
    held = held_with b place to x d.index

    abbrev later : ℕ → List Entry
    later = images_among d.head closed

    stands : IsAtPlace (images_of d) place x
    stands = subst (λ (es : List Entry). LiesAt es place.at x) (sym (victim_image place.segment victim)) stands_in

    own : later target ≡ images_of d target ++ tail_of b x
    own =
        closed_only d target not_head survivor.not_new closed
        ∙ own_then d.closed target x b whole
        ∙ ap (λ (es : List Entry). es ++ tail_of b x) (sym (closed_only d target not_head survivor.not_new d.closed))

    other_found : (s : ℕ) → (s == target) ≡ false → segment_of closed s ≡ segment_of d.closed s
    other_found s away =
        with_other d.closed target x b s (λ same. (
        let test : (s == target) ≡ true = ap (λ (z : ℕ). z == target) same ∙ same_id target in cc))

    other : (s : ℕ) → (s == target) ≡ false → later s ≡ images_of d s
    other s away =
        ap (λ (o : Option (List Entry)). unwrap_or (if d.head.id == s then Some d.head.image
        else new_image_or d.head.roll s o) [])
        (other_found s away)

    grow : Grow (images_of d) later
    grow s = go (s == target) refl where
      go : (t : Bool) → (s == target) ≡ t → (es : List Entry) × (later s ≡ images_of d s ++ es)
      go true here =
          let same = eqb-true s target here in
          (tail_of b x, ap later same ∙ own ∙ ap (λ (z : ℕ). images_of d z ++ tail_of b x) (sym same))
      go false away = ([], other s away ∙ sym (append-nil (images_of d s)))

    segments : AllByRecursion (λ (c : Image). IsSegment c.segment) closed
    segments = segments_then d.closed target x b valid of_data core.segments

    each_later : (s : ℕ) → AllByRecursion IsEntry (later s)
    each_later = each_among d.head closed core.head segments

    copy_stands : b ≡ true → IsAtPlace later to x
    copy_stands is = record {
      before = images_of d target;
      after = [];
      split = own ∙ ap (λ (t : Bool). images_of d target ++ tail_of t x) is;
      offset = len_is d.closed target
          ∙ ap (λ (es : List Entry). length (text_of es)) (sym
          (closed_only d target not_head survivor.not_new d.closed));
    }

    -- ---- what is counted

    pub copied_tallied : (old new : List Tally) → AreTallied d old
        → IsCopyCounted (copied_as b x) place.segment target (length (spelling x)) old new
        → AreRight (log_set_ids d) held later new
    copied_tallied old new right counted =
        let len = len_is d.closed target
        ∙ ap (λ (es : List Entry). length (text_of es)) (sym
        (closed_only d target not_head survivor.not_new d.closed)) in
        copied_right (log_set_ids d) d.index (images_of d) later grow (each_of d core) each_later
        (state_now d).contents (index_of d core) place to len (λ s away. other s (other_id s target away)) old new right
        b x refl of_data stands own counted

    -- ---- the core

    module _ (q : Pass) (same : q ≡ record p { cursor = q.cursor; filling = q.filling }) (rest : List Place)
        (first : rest_of (images_in d.closed) p ≡ place ∷ rest) (left : rest_of (images_in closed) q ≡ rest)
        (at : target ≡ p.survivors.first + q.filling)
        (is_pass : IsPass d.index.seed closed q)
        (rooms : HasRoomsIn d.config.segment (log_set_ids d) q closed held) where
      abbrev p' : Pass
      p' = record p { cursor = q.cursor; filling = q.filling }

      abbrev e : MasterData
      e = record d {
        closed = closed;
        index = held;
        pass = Some (record p { cursor = q.cursor; filling = q.filling });
      }

      ids_then : log_set_ids e ≡ log_set_ids d
      ids_then =
          ap (λ (ids : List ℕ). ids ++ d.head.id ∷ option_to_list (option_map (λ (r : Roll). r.id) d.head.roll))
          (ids_same d.closed target x b)

      used_same : used_seglets e ≡ used_seglets d
      used_same =
          let count = count_same d.closed target x d.config.segment d.config.seglet b rising whole in
          omega (arith, count)

      index_then : IsIndex e
      index_then =
          let i = index_treated (images_of d) later grow (each_of d core) each_later (log_set_ids d) d.index
          (state_now d).contents
          (index_of d core) place to b x refl stands copy_stands in
          record { kept = i.kept; lies = i.lies; safe = core.index.safe }

      live : (k : Key) (r : Place) → find e k ≡ Some r → IsAmong r.segment p.victims
          → IsAmong r (rest_of (images_in closed) p')
      live k r is m =
          let lt = (is_victim d.closed p.survivors.first p.victims r.segment open_pass.pass.victims m).1 in
          let there = found_treated (images_of d) later grow (each_of d core) each_later (log_set_ids d) d.index
          (state_now d).contents
          (index_of d core) place to b x k r refl stands copy_stands
          (λ here. (let there = ap (λ (z : Place). z.segment) here in omega arith)) is in
          subst (λ (ps : List Place). IsAmong r ps) (sym left ∙ ap (rest_of (images_in closed)) same)
          (go there.1 (subst (λ (ps : List Place). IsAmong r ps) first (open_pass.live k r there.0 m)))
        where
          go : (r ≡ place → ⊥) → IsAmong r (place ∷ rest) → IsAmong r rest
          go away (inl here) = absurd (away (sym here))
          go away (inr behind) = behind

      begins_then : BeginAsSurvivor d.config.master target (images_in closed target)
      begins_then =
          let was = survivor.begins in (
            was.0 ++ tail_of b x,
            own_then d.closed target x b whole ∙ ap (λ (es : List Entry). es ++ tail_of b x) was.1
                ∙ append_assoc (survivor_entries d.config.master target) was.0 (tail_of b x),
          )

      within_then : length (text_of (images_in closed target)) ≤ d.config.segment
      within_then =
          let first_same = ap (λ (z : Pass). z.survivors.first) same in
          subst (λ (s : ℕ). length (text_of (images_in closed s)) ≤ d.config.segment)
          (ap (λ (n : ℕ). n + q.filling) first_same ∙ sym at) rooms.rooms.within

      survivor_then : (s : ℕ) → IsAmong s (survivor_ids p.survivors) → IsSurvivor e s
      survivor_then s m = go (s == target) refl where
        was : IsSurvivor d s
        was = open_pass.survivors.each s m

        go : (t : Bool) → (s == target) ≡ t → IsSurvivor e s
        go true here =
            let own_id : target ≡ s = sym (eqb-true s target here) in record {
              outside = was.outside;
              not_new = was.not_new;
              used = was.used;
              begins = subst (λ (z : ℕ). BeginAsSurvivor d.config.master z (images_in closed z)) own_id begins_then;
              within = subst (λ (z : ℕ). length (text_of (images_in closed z)) ≤ d.config.segment) own_id within_then;
            }
        go false away =
            let stays : images_in closed s ≡ images_in d.closed s = ap (λ (o : Option (List Entry)). unwrap_or o [])
            (other_found s away) in record {
              outside = was.outside;
              not_new = was.not_new;
              used = was.used;
              begins = subst (λ (es : List Entry). BeginAsSurvivor d.config.master s es) (sym stays) was.begins;
              within = subst (λ (es : List Entry). length (text_of es) ≤ d.config.segment) (sym stays) was.within;
            }

      not_ready : is_at_end p ≡ true → ⊥
      not_ready ended = cc

      pass_then : IsOpenPass e p'
      pass_then = record {
        pass = subst (λ (seed : List ℕ). IsPass seed closed p') (sym (with_seed b place to x d.index))
            (subst (IsPass d.index.seed closed) same is_pass);
        victims = (let v = open_pass.victims in record {
          some = v.some;
          few = v.few;
          apart = v.apart;
          older = v.older;
        });
        survivors = record {
          some = open_pass.survivors.some;
          few = open_pass.survivors.few;
          each = survivor_then;
        };
        rooms = subst (λ (ids : List ℕ). HasRoomsIn d.config.segment ids p' closed held) (sym ids_then)
            (subst (λ (z : Pass). HasRoomsIn d.config.segment (log_set_ids d) z closed held) same rooms);
        sealed = λ s m. subst (λ (n : ℕ). n ≤ d.config.replicas) (sym (copied_replicas d.closed target x b s))
            (open_pass.sealed s m);
        live = live;
        unsealed = λ early s m. copied_replicas d.closed target x b s ∙ open_pass.unsealed more s m;
        spare = λ none early. (let s = open_pass.spare none early in let free = s.free in let listed = s.listed in
            record { free = omega (arith, used_same); listed = listed });
        commits = λ commits. absurd (not_ready (and_parts _ _ (open_pass.commits commits).1).0);
      }

      named_then : NameBelow (images_of e) d.next
      named_then s t m = go (s == target) refl where
        fresh : IsAmong (entry.Tombstone t) (images_of d target ++ tail_of b x) → t.segment < d.next
        fresh among = by b among where
          by : (c : Bool) → IsAmong (entry.Tombstone t) (images_of d target ++ tail_of c x) → t.segment < d.next
          by false among =
              core.named target t (subst (λ (es : List Entry). IsAmong (entry.Tombstone t) es)
              (append-nil (images_of d target)) among)
          by true among = elim (among_push (entry.Tombstone t)
              (images_of d target) x among) as (λ _. t.segment < d.next) [
                | inl before ↦ core.named target t before
                | inr last ↦ core.named place.segment t (lies_among (images_of d place.segment) place.at
                    (entry.Tombstone t)
                    (subst (λ (y : Entry). IsAtPlace (images_of d) place y) last stands))
              ]

        go : (u : Bool) → (s == target) ≡ u → t.segment < d.next
        go true here =
            fresh (subst (λ (es : List Entry). IsAmong (entry.Tombstone t) es)
            (ap later (eqb-true s target here) ∙ own) m)
        go false away = core.named s t (subst (λ (es : List Entry). IsAmong (entry.Tombstone t) es) (other s away) m)

      roll_then : (o : Option Roll) → IfSome o (IsRollOf d) → IfSome o (IsRollOf e)
      roll_then None rolls = tt
      roll_then (Some r) rolls = record {
        image = rolls.image;
        lists = rolls.lists ∙ ap listed opened;
        within = rolls.within;
        newer = rolls.newer;
        used = rolls.used;
      } where
        listed : Option Pass → List ℕ
        listed o =
            if option_map_or (λ (z : Pass). z.is_committing) o false then listed_with d (victims_of o) (survivors_of o)
            else ids_of (head_of d.head).start

      pub core_then : IsCore (record d { closed = closed; index = held; pass = Some q })
      core_then =
          subst (λ (z : Pass). IsCore (record d { closed = closed; index = held; pass = Some z })) (sym same) (record {
            config = core.config;
            replicas = core.replicas;
            history = core.history;
            head = core.head;
            image = core.image;
            within = core.within;
            closed = ids_same d.closed target x b ∙ core.closed
                ∙ ap (λ (o : Option Pass). all_inserted (survivors_of o) (head_of d.head).start.others) opened;
            segments = segments;
            below = core.below;
            real = core.real;
            used = core.used;
            first = core.first;
            next = core.next;
            roll = roll_then d.head.roll core.roll;
            pass = pass_then;
            named = named_then;
            replicas_few = replicas_then d.closed target x d.config.replicas b core.replicas_few;
            waiting = core.waiting;
            digest = core.digest;
            listed = core.listed;
            failed = (let f = core.failed in record { few = f.few; there = f.there; apart = f.apart; two = f.two });
            whole = λ calm. lacking_same d.config.replicas d.closed closed (head_of d.head).start.others
                (λ s m. copied_replicas d.closed target x b s) ∙ core.whole calm;
            failover = no_failover d e calm;
            abandoned = core.abandoned;
            budget = (let was = core.budget in omega (arith, used_same));
            legal = core.legal;
            index = index_then;
          })

-- by what one copy does
pub copied_core : (d : MasterData) → IsCore d → (p q : Pass) (copied : Copied) (closed_after : List Image)
    (held_after : Places)
    → d.pass ≡ Some p → is_at_end p ≡ false → AreRising d.closed
    → d.failover ≡ None → CopiesOne d.config.segment (log_set_ids d) p d.closed d.index copied q closed_after held_after
    → IsPass held_after.seed closed_after q
    → IsCore (record d { closed = closed_after; index = held_after; pass = Some q })
copied_core d core p q copied closed_after held_after opened more rising calm one valid =
    let is_open = open_pass d core p opened more rising calm in
    let target = p.survivors.first + q.filling in
    let rooms = left_rooms d.config.segment (log_set_ids d) p q d.closed closed_after d.index held_after copied
    is_open.pass one is_open.rooms in
    let seed : held_after.seed ≡ d.index.seed =
    ap (λ (hs : Places). hs.seed) one.index
    ∙ with_seed (kept (log_set_ids d) d.index one.place one.entry) one.place (copy_place target d.closed) one.entry
    d.index in
    subst (λ (y : List Image × Places). IsCore (record d { closed = y.0; index = y.1; pass = Some q }))
    (λ i. (sym one.survivor i, sym one.index i))
    (core_then d core p opened more rising calm target
    (id_among p.survivors.first p.survivors.count q.filling one.within) one.place one.entry one.victim one.stands
    one.valid one.of_data q one.pass one.later one.first
    (subst (λ (cs : List Image). rest_of (images_in cs) q ≡ one.later) one.survivor one.rest) refl
    (subst (λ (y : List Image × List ℕ). IsPass y.1 y.0 q) (λ i. (one.survivor i, seed i)) valid)
    (subst (λ (y : List Image × Places). HasRoomsIn d.config.segment (log_set_ids d) q y.0 y.1)
    (λ i. (one.survivor i, one.index i)) rooms))

-- and its tallies stay right
module _ (d : MasterData) (core : IsCore d) (p q : Pass) (copied : Copied) (closed_after : List Image)
    (held_after : Places) (old new : List Tally) (opened : d.pass ≡ Some p) (more : is_at_end p ≡ false)
    (rising : AreRising d.closed) (calm : d.failover ≡ None)
    (one : CopiesOne d.config.segment (log_set_ids d) p d.closed d.index copied q closed_after held_after) where
  is_open : IsOpenPass d p
  is_open = open_pass d core p opened more rising calm

  abbrev goal_id : ℕ
  goal_id = p.survivors.first + q.filling

  abbrev is_kept : Bool
  is_kept = kept (log_set_ids d) d.index one.place one.entry

  member : IsAmong goal_id (survivor_ids p.survivors)
  member = id_among p.survivors.first p.survivors.count q.filling one.within

  at : q.survivors.first + q.filling ≡ goal_id
  at = ap (λ (z : Pass). z.survivors.first + q.filling) one.pass

  counted_one : IsCopyCounted copied (next_victim p) (q.survivors.first + q.filling) (next_len p) old new
      → IsCopyCounted (copied_as is_kept one.entry) one.place.segment goal_id (length (spelling one.entry)) old new
  counted_one counted =
      let victim = victim_is d.index.seed d.closed p is_open.pass more one.place one.later one.first in
      subst (λ (y : Copied × ℕ × ℕ × ℕ). IsCopyCounted y.0 y.1 y.2 y.3 old new)
      (λ i. (one.told i, victim i, at i, one.size i)) counted

  ids_after : log_set_ids d ≡ log_set_ids (record d { closed = closed_after; index = held_after; pass = Some q })
  ids_after =
      ap (λ (ids : List ℕ). ids ++ d.head.id ∷ option_to_list (option_map (λ (r : Roll). r.id) d.head.roll))
      (sym (ids_same d.closed goal_id one.entry is_kept)
      ∙ ap (λ (cs : List Image). map (λ (c : Image). c.id) cs) (sym one.survivor))

  pub copied_tallies : IsCopyCounted copied (next_victim p) (q.survivors.first + q.filling) (next_len p) old new
      → AreTallied d old → AreTallied (record d { closed = closed_after; index = held_after; pass = Some q }) new
  copied_tallies counted right =
      subst (λ (y : List ℕ × Places × (ℕ → List Entry)). AreRight y.0 y.1 y.2 new)
      (λ i. (ids_after i, sym one.index i, images_among d.head (sym one.survivor i)))
      (copied_tallied d core p opened more rising calm goal_id member one.place one.entry one.victim one.stands
      one.valid one.of_data old new right (counted_one counted))
