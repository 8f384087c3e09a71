-- A core stays valid while a roll goes on, and when the roll ends.
use Rattle.std.proofs.Common.{◌≡◌, ℕ, ◌+◌, ◌<◌, ◌≤◌, Bool, true, false, List, [], ◌∷◌, ◌++◌, length, refl, sym, ap}
use Rattle.std.proofs.Common.{subst, ◌∙◌, ◌⊎◌, inl, inr, append_assoc, arith}
use Rattle.std.specs.Prelude.{Option, Some, None, IfSome, IsSome, IsSomeAnd, ◌==◌, ◌||◌, unwrap_or, sum_by, nat_lt}
use Rattle.std.specs.Prelude.{is_none, is_some, not, if◌then◌else◌}
use Rattle.std.proofs.lemmas.Bool.{le-leb}
use Rattle.std.specs.List.{AllByRecursion}
use Rattle.std.specs.Option.{option_map, option_map_or, option_to_list}
use Rattle.cleaner.specs.declared.pass.Pass.{Pass}
use Rattle.cleaner.specs.KeptLengths.{HasRoomsIn}
use Rattle.cleaner.specs.Passes.{images_in, survivor_ids, IsPass, AreVictims as AreOlder}
use Rattle.cleaner.specs.Seals.{first_lacking}
use Rattle.cleaner.proofs.Lacking.{none_is_lacking}
use Rattle.cleaner.proofs.Ends.{rest_same, cursor_agrees, rest_segment}
use Rattle.cleaner.proofs.RoomLaws.{rooms_stay}
use Rattle.master_state.specs.log_laws.Intact.{BeginAsSurvivor}
use Rattle.cleaner.specs.compactor.Kept.{has_id}
use Rattle.cleaner.specs.compactor.Places.{keys_in}
use Rattle.entry.specs.declared.entry.Entry.{Entry}
use Rattle.entry.specs.declared.entry.Entry.TheVariants as entry
use Rattle.entry.specs.Bag.{IsAmong}
use Rattle.entry.specs.Format.{IsEntry}
use Rattle.entry.specs.Text.{text_of, IsSegment}
use Rattle.entry.proofs.BagLemmas.{among_either}
use Rattle.entry.proofs.ListLemmas.{all_among, all_from_among}
use Rattle.places.specs.declared.place.Place.{Place}
use Rattle.places.specs.Map.{found, AreKept}
use Rattle.images.specs.Images.{count_of}
use Rattle.images.specs.Sorted.{IsWhole, image_of, segment_of, replicas_of, added}
use Rattle.images.proofs.Adding.{image_found, segment_found, all_added, sum_added}
use Rattle.images.proofs.Replicas.{replicas_added}
use Rattle.log_head.specs.declared.head.Roll.{Roll}
use Rattle.log_head.specs.Head.{IsHeadValue, IsRollValue, digest_of}
use Rattle.log_head.specs.Log.{head_of, start_of}
use Rattle.log_head.specs.Steps.{in_force}
use Rattle.log_head.proofs.Digests.{has_any}
use Rattle.log_head.proofs.RollLog.{head_in_force, image_in_force}
use Rattle.log_head.proofs.Rolls.{rolls}
use Rattle.log_head.specs.log_laws.Heads.{Start, Head, ids_of}
use Rattle.log_head.specs.log_laws.Ids.{has, inserted, all_inserted}
use Rattle.log_head.specs.log_laws.Rising.{AreBelow}
use Rattle.log_head.specs.log_laws.HeadSteps.{new_head}
use Rattle.log_head.proofs.log_laws.IdLists.{no_units_length}
use Rattle.master_state.specs.declared.failover.Failover.{Failover}
use Rattle.master_state.specs.declared.ledger.Posting.{Posting}
use Rattle.master_state.specs.declared.waiting.Waiting.{Waiting}
use Rattle.master_state.specs.Budget.{newest_digest, most_segments, whole_seglets, seglets_of, used_seglets}
use Rattle.master_state.specs.Budget.{has_abandoned, survivors_of, is_committing}
use Rattle.master_state.specs.Data.{MasterData}
use Rattle.images.specs.Image.{Image, closed_image}
use Rattle.master_state.specs.Index.{LiesFound}
use Rattle.master_state.specs.Invariant.{AreVictims, IsSurvivor, IsSpare, IsRollOf, IsOpenPass, IsIndex, IsCore}
use Rattle.master_state.specs.Invariant.{NameBelow, AreWhole, IsFailover}
use Rattle.master_state.specs.Log.{image_of as image_now, images_of, log_set_ids, state_now, is_opened, is_headless}
use Rattle.master_state.proofs.Imaging.{ids_in, same_id, other_id, same_roll, closed_same}
use Rattle.master_state.proofs.LogIds.{absent, no_segment, no_head, start_rises, others_below, older_image, apart}
use Rattle.master_state.proofs.Passing.{victim_below}
use Rattle.master_rolls.proofs.Placed.{closed_each, no_more}
use Rattle.master_state.proofs.Rising.{all_below, all_top, has_more, has_put}

-- ---- one more closed segment

pub added_ids : (y : Image) (xs : List Image) → ids_in (added y xs) ≡ inserted y.id (ids_in xs)
added_ids y [] = refl
added_ids y (x ∷ xs) = go (nat_lt y.id x.id) refl (added_ids y xs) where
  go : (t : Bool) → nat_lt y.id x.id ≡ t → ids_in (added y xs) ≡ inserted y.id (ids_in xs)
      → ids_in (added y (x ∷ xs)) ≡ inserted y.id (ids_in (x ∷ xs))
  go true is later = rw is refl
  go false is later = rw is (ap (λ (ids : List ℕ). x.id ∷ ids) later)

shuffle : (a b c : Bool) → ((a || b) || c) ≡ ((b || a) || c)
shuffle true true c = refl
shuffle true false c = refl
shuffle false true c = refl
shuffle false false c = refl

-- ---- a failover that is open when a roll ends

-- What is known of the failover of a core, if one is open, once a roll has ended.
pub record HasFailover (e : MasterData) : Type 0 where
  pub bare : IfSome e.failover (λ (g : Failover). (g.is_first ≡ false) × (g.abandoned ≡ None))
  pub whole : e.failover ≡ None → AreWhole e
  pub failover : IfSome e.failover (IsFailover e)
  pub abandoned : e.failover ≡ None → e.abandoned ≡ []

-- whatever becomes of a failover and its heads, and whatever the ledger has
abbrev pub left_as : MasterData → Option Failover → List Start → List Posting → MasterData
left_as e x gone ps = record e { failover = x; abandoned = gone; ledger = ps }

-- no failover is open
pub calm_failover : (e : MasterData) → e.failover ≡ None → AreWhole e → e.abandoned ≡ [] → HasFailover e
calm_failover e calm whole gone = record {
  bare = subst (λ (o : Option Failover). IfSome o (λ (g : Failover). (g.is_first ≡ false) × (g.abandoned ≡ None)))
      (sym calm) tt;
  whole = λ none. whole;
  failover = subst (λ (o : Option Failover). IfSome o (IsFailover e)) (sym calm) tt;
  abandoned = λ none. gone;
}

none_abandoned : (x : Option Failover) → IfSome x (λ (g : Failover). (g.is_first ≡ false) × (g.abandoned ≡ None))
    → option_map_or (λ (g : Failover). is_some g.abandoned) x false ≡ false
none_abandoned None bare = refl
none_abandoned (Some g) bare = ap is_some bare.1

none_first : (x : Option Failover) (b : Bool) → b ≡ true
    → IfSome x (λ (g : Failover). (g.is_first ≡ false) × (g.abandoned ≡ None))
    → option_map_or (λ (g : Failover). g.is_first) x (not b) ≡ false
none_first None b opened bare = ap not opened
none_first (Some g) b opened bare = bare.0

-- none is found
pub none_found : (o : Option (ℕ × ℕ)) → is_none o ≡ true → o ≡ None
none_found None test = refl
none_found (Some x) test = absurd (cc)

-- no more lack a replica, once a segment has all
pub one_more_whole : (replicas id : ℕ) (image : List Entry) (cs : List Image) (ids : List ℕ) → image_of cs id ≡ None
    → first_lacking replicas cs ids ≡ None
    → (s : ℕ) → IsAmong s ids ⊎ (s ≡ id)
    → replicas ≤ replicas_of (added (closed_image id image replicas) cs) s
one_more_whole replicas id image cs ids none whole s m = go (id == s) refl where
  found : replicas_of (added (closed_image id image replicas) cs) s
      ≡ (if id == s then replicas else replicas_of cs s)
  found = replicas_added (closed_image id image replicas) cs s none

  there : IsAmong s ids ⊎ (s ≡ id) → (id == s) ≡ false → replicas ≤ replicas_of cs s
  there (inl among) other = (none_is_lacking replicas cs ids).0 whole s among
  there (inr same) other = (let own : (id == s) ≡ true = ap (λ (n : ℕ). id == n) same ∙ same_id id in absurd (cc))

  go : (t : Bool) → (id == s) ≡ t → replicas ≤ replicas_of (added (closed_image id image replicas) cs) s
  go true is = (let own : replicas_of (added (closed_image id image replicas) cs) s ≡ replicas = found ∙ rw is refl in
      omega arith)
  go false is =
      let own : replicas_of (added (closed_image id image replicas) cs) s ≡ replicas_of cs s = found ∙ rw is refl in
      let le = there m is in
      omega arith

-- ---- a roll that is under way

module _ (d : MasterData) (core : IsCore d) (r : Roll) (is : d.head.roll ≡ Some r) where
  pub rolls_of : IsRollOf d r
  rolls_of = subst (λ (o : Option Roll). IfSome o (IsRollOf d)) is core.roll

  pub values : IsRollValue d.head.replicas (length d.head.taken) r
  values = rolls d.head r core.head is

  -- its digest is the newest one
  newest_few : length (digest_of r.image) ≤ most_segments d.config
  newest_few = subst (λ (o : Option Roll). length (option_map_or (λ (q : Roll). digest_of q.image) o
      (digest_of d.head.image)) ≤ most_segments d.config) is core.listed

  -- the old head counts its length
  rolling_used : used_seglets d
      ≡ seglets_of d.config d.head.image + whole_seglets d.config
      + sum_by (count_of d.config.segment d.config.seglet) d.closed
  rolling_used = ap (λ (o : Option Roll). (if is_some o || has_abandoned d
      then seglets_of d.config d.head.image + whole_seglets d.config else whole_seglets d.config)
      + sum_by (count_of d.config.segment d.config.seglet) d.closed) is

  pub apart_ids : d.head.id ≡ r.id → ⊥
  apart_ids same = let lt = rolls_of.newer in omega arith

  -- what was opened or closed is counted
  module _ (opened closed : ℕ) (valid : IsHeadValue (record d.head
      { roll = Some (record r { opened = opened; closed = closed }) })) where
    abbrev e : MasterData
    e = record d { head = record d.head { roll = Some (record r { opened = opened; closed = closed }) } }

    images_same : images_of e ≡ images_of d
    images_same = λ i s. unwrap_or (same_roll d.head d.closed r
        (record r { opened = opened; closed = closed }) is refl refl s i) []

    passes_then : (o : Option Pass) → IfSome o (IsOpenPass (record d { head = record d.head { roll = Some r } }))
        → IfSome o (IsOpenPass e)
    passes_then None all = tt
    passes_then (Some p) all = record {
      pass = all.pass;
      victims = (let own = all.victims in record {
        some = own.some;
        few = own.few;
        apart = own.apart;
        older = own.older;
      });
      survivors = (let own = all.survivors in record {
        some = own.some;
        few = own.few;
        each = λ s m. (let one = own.each s m in record {
          outside = one.outside;
          not_new = one.not_new;
          used = one.used;
          begins = one.begins;
          within = one.within;
        });
      });
      rooms = all.rooms;
      sealed = all.sealed;
      live = λ k q finds victim. all.live k q (ap (λ (images : ℕ → List Entry). found (keys_in images) k d.index)
          (λ i s. unwrap_or (sym (same_roll (record d.head { roll = Some r }) d.closed r
          (record r { opened = opened; closed = closed }) refl refl refl s) i) []) ∙ finds) victim;
      unsealed = all.unsealed;
      spare = λ none early. (let own = all.spare none early in record { free = own.free; listed = own.listed });
      commits = all.commits;
    }

    pub counted_roll : d.failover ≡ None → IsCore e
    counted_roll calm = record {
      config = core.config;
      replicas = core.replicas;
      history = core.history;
      head = valid;
      image = (let own = core.image in record {
        id = own.id;
        lens = own.lens;
        image = own.image;
        base = own.base;
        ends = own.ends;
        taken = own.taken;
      });
      within = core.within;
      closed = core.closed;
      segments = core.segments;
      below = core.below;
      real = core.real;
      used = core.used;
      first = λ is. (let was = core.first is in record { others = was.others; loaded = was.loaded; units = was.units });
      next = core.next;
      roll = record {
        image = rolls_of.image;
        lists = rolls_of.lists;
        within = rolls_of.within;
        newer = rolls_of.newer;
        used = rolls_of.used;
      };
      pass = passes_then d.pass (subst (λ (o : Option Roll). IfSome d.pass
          (IsOpenPass (record d { head = record d.head { roll = o } }))) is core.pass);
      named = subst (λ (images : ℕ → List Entry). NameBelow images d.next) (sym images_same) core.named;
      replicas_few = core.replicas_few;
      waiting = core.waiting;
      digest = core.digest;
      listed = newest_few;
      failed = (let f = core.failed in record { few = f.few; there = f.there; apart = f.apart; two = f.two });
      whole = core.whole;
      failover = subst (λ (o : Option Failover). IfSome o (IsFailover e)) (sym calm) tt;
      abandoned = core.abandoned;
      budget = (let same = rolling_used in let budget = core.budget in omega arith);
      legal = core.legal;
      index = record {
        kept = subst (λ (images : ℕ → List Entry). AreKept (keys_in images) d.index) (sym images_same) core.index.kept;
        lies = λ k. subst (λ (images : ℕ → List Entry). LiesFound images k (found (keys_in images) k d.index)
            ((state_now d).contents k))
            (sym images_same) (core.index.lies k);
        safe = core.index.safe;
      };
    }

  -- ---- the last Close

  pub head_then : head_of (in_force d.head r) ≡ new_head d.head.replicas (start_of r)
  head_then = head_in_force d.config.master d.head r rolls_of.image values.segment

  pub id_then : (start_of r).id ≡ r.id
  id_then = ap (λ (l : Head). l.start.id) (sym head_then)
      ∙ (image_in_force d.config.master d.head r rolls_of.image values.segment).id

  below_then : AreBelow (start_of r)
  below_then =
      all_below (start_of r).others (start_of r).id
      (start_rises d.config.master (start_of r) [] (subst (λ (image : List Entry). AllByRecursion IsEntry image)
      rolls_of.image values.segment.each))

  -- the old head is closed, and the new one is in force
  abbrev pub old_closed : MasterData
  old_closed = record d {
    head = in_force d.head r;
    closed = added (closed_image d.head.id d.head.image d.config.replicas) d.closed;
  }

  no_old : image_of d.closed d.head.id ≡ None
  no_old = absent d.closed d.head.id (no_head d core)

  -- no image has changed
  pub closed_images : (s : ℕ) → image_now old_closed s ≡ image_now d s
  closed_images s =
      closed_same d.head d.closed r d.config.replicas is apart_ids (no_segment d.closed d.head.id (no_head d core)) s

  pub closed_ids : ids_in old_closed.closed ≡ all_inserted (survivors_of d.pass) (ids_of (head_of d.head).start)
  closed_ids =
      added_ids (closed_image d.head.id d.head.image d.config.replicas) d.closed
      ∙ ap (inserted d.head.id) core.closed
      ∙ all_top d.head.id (survivors_of d.pass) (head_of d.head).start.others (others_below d core)
      ∙ (λ i. all_inserted (survivors_of d.pass) ((head_of d.head).start.others ++ sym core.image.id i ∷ []))

  pub closed_segments : AllByRecursion (λ (c : Image). IsSegment c.segment) old_closed.closed
  closed_segments =
      all_added (λ (c : Image). IsSegment c.segment) (closed_image d.head.id d.head.image d.config.replicas) d.closed
      core.segments core.head.segment

  -- no seglet more or less is counted
  pub closed_sum : whole_seglets d.config + sum_by (count_of d.config.segment d.config.seglet) old_closed.closed
      ≡ used_seglets d
  closed_sum =
      let total = sum_added (count_of d.config.segment d.config.seglet)
      (closed_image d.head.id d.head.image d.config.replicas) d.closed in
      let counted = rolling_used in
      omega arith

  pub closed_few : AllByRecursion (λ (c : Image). c.replicas ≤ d.config.replicas) old_closed.closed
  closed_few =
      all_added (λ (c : Image). c.replicas ≤ d.config.replicas)
      (closed_image d.head.id d.head.image d.config.replicas) d.closed core.replicas_few (omega arith)

  -- how many replicas the others have, and the old head all
  pub closed_replicas : (s : ℕ) → (d.head.id ≡ s → ⊥) → replicas_of old_closed.closed s ≡ replicas_of d.closed s
  closed_replicas s other =
      let away = other_id d.head.id s other in
      replicas_added (closed_image d.head.id d.head.image d.config.replicas) d.closed s no_old ∙ (rw away refl)

  -- no segment of the log lacks a replica, if none did
  pub log_whole : AreWhole d → (s : ℕ) → IsAmong s (ids_of (head_of d.head).start)
      → d.config.replicas ≤ replicas_of old_closed.closed s
  log_whole whole s m =
      one_more_whole d.config.replicas d.head.id d.head.image d.closed (head_of d.head).start.others no_old whole s
      (elim (among_either s (head_of d.head).start.others ((head_of d.head).start.id ∷ []) m) [
        | inl among ↦ inl among
        | inr (inl same) ↦ inr (sym same ∙ core.image.id)
        | inr (inr never) ↦ absurd never
      ])

  -- the images of the others
  pub same_in : (s : ℕ) → (d.head.id ≡ s → ⊥) → images_in old_closed.closed s ≡ images_in d.closed s
  same_in s other =
      let away = other_id d.head.id s other in
      ap (λ (o : Option (List Entry)). unwrap_or o [])
      (segment_found (closed_image d.head.id d.head.image d.config.replicas) d.closed s no_old
      ∙ ap (λ (b : Bool). if b then Some d.head.image else segment_of d.closed s) away)

  -- the new head has all its replicas, and nothing beside its opening
  pub all_opened : is_opened (in_force d.head r) ≡ true
  all_opened = (let same = no_units_length d.head.replicas in le-leb _ _ (omega arith))

  pub nothing_loaded : (head_of (in_force d.head r)).loaded ≡ []
  nothing_loaded = ap (λ (l : Head). l.loaded) head_then

  -- the log has the same segments
  pub same_set : (z : ℕ) → has_id (log_set_ids old_closed) z ≡ has_id (log_set_ids d) z
  same_set z =
      has_any (log_set_ids old_closed) z
      ∙ has_more (ids_in old_closed.closed) r.id z
      ∙ ap (λ (ids : List ℕ). has ids z || (r.id == z))
      (added_ids (closed_image d.head.id d.head.image d.config.replicas) d.closed)
      ∙ ap (λ (b : Bool). b || (r.id == z)) (has_put d.head.id (ids_in d.closed) z)
      ∙ shuffle (d.head.id == z) (has (ids_in d.closed) z) (r.id == z)
      ∙ ap (λ (b : Bool). b || (r.id == z)) (sym (has_more (ids_in d.closed) d.head.id z))
      ∙ sym (has_more (ids_in d.closed ++ d.head.id ∷ []) r.id z)
      ∙ ap (λ (ids : List ℕ). has ids z) (append_assoc (ids_in d.closed) (d.head.id ∷ []) (r.id ∷ []))
      ∙ ap (λ (n : Option Roll). has (ids_in d.closed ++ d.head.id ∷ option_to_list
      (option_map (λ (p : Roll). p.id) n)) z) (sym is)
      ∙ sym (has_any (log_set_ids d) z)

  -- ---- whatever becomes of a pass, and of a failover

  module _ (cs : List Image) (o : Option Pass) (waits : List Waiting) (x : Option Failover) (gone : List Start)
      (ps : List Posting) where
    abbrev f : MasterData
    f = record d {
      head = in_force d.head r;
      closed = cs;
      pass = o;
      waiting = waits;
      failover = x;
      abandoned = gone;
      ledger = ps;
    }

    pub ended_used : IfSome x (λ (g : Failover). (g.is_first ≡ false) × (g.abandoned ≡ None))
        → used_seglets f ≡ whole_seglets d.config + sum_by (count_of d.config.segment d.config.seglet) cs
    ended_used bare = ap (λ (b : Bool). (if b then seglets_of d.config r.image + whole_seglets d.config
        else whole_seglets d.config) + sum_by (count_of d.config.segment d.config.seglet) cs) (none_abandoned x bare)

    in_force_now : IfSome x (λ (g : Failover). (g.is_first ≡ false) × (g.abandoned ≡ None)) → is_headless f ≡ false
    in_force_now bare = none_first x (is_opened (in_force d.head r)) all_opened bare

    pub ended : IsHeadValue (in_force d.head r) → HasFailover f
        → ids_in cs ≡ all_inserted (survivors_of o) (start_of r).others
        → AllByRecursion (λ (c : Image). IsSegment c.segment) cs
        → AllByRecursion (λ (c : Image). c.replicas ≤ d.config.replicas) cs
        → AllByRecursion (λ (w : Waiting). (w.freed < w.replicas) × (w.replicas ≤ d.config.replicas)) waits
        → whole_seglets d.config + sum_by (count_of d.config.segment d.config.seglet) cs ≤ d.config.seglets
        → IfSome o (IsOpenPass f)
        → NameBelow (images_of f) d.next → IsIndex f → IsCore f
    ended valid failing ids segments few waiting budget pass named index = record {
      config = core.config;
      replicas = core.replicas;
      history = core.history;
      head = valid;
      image = image_in_force d.config.master d.head r rolls_of.image values.segment;
      within = rolls_of.within;
      closed = ids ∙ (λ i. all_inserted (survivors_of o) (sym head_then i).start.others);
      segments = segments;
      below = subst (λ (l : Head). AreBelow l.start) (sym head_then) below_then;
      real = (let newer = rolls_of.newer in omega arith);
      used = rolls_of.used;
      first = λ is. absurd (let forced = in_force_now failing.bare in cc);
      next = core.next;
      roll = tt;
      pass = pass;
      named = named;
      replicas_few = few;
      waiting = waiting;
      digest = newest_few;
      listed = newest_few;
      failed = (let f = core.failed in record { few = f.few; there = f.there; apart = f.apart; two = f.two });
      whole = failing.whole;
      failover = failing.failover;
      abandoned = failing.abandoned;
      budget = (let same = ended_used failing.bare in omega arith);
      legal = core.legal;
      index = index;
    }

  -- ---- an ordinary roll

  module _ (lists : (start_of r).others ≡ ids_of (head_of d.head).start) where
    images_then : images_of old_closed ≡ images_of d
    images_then = λ i s. unwrap_or (closed_images s i) []

    -- each segment that its digest lists has all replicas, if those before had
    pub ordinary_whole : AreWhole d → AreWhole old_closed
    ordinary_whole whole =
        (none_is_lacking d.config.replicas old_closed.closed (head_of old_closed.head).start.others).1
        (λ s m. log_whole whole s (subst (λ (ids : List ℕ). IsAmong s ids)
        (ap (λ (l : Head). l.start.others) head_then ∙ lists) m))

    module _ (x : Option Failover) (gone : List Start) (ps : List Posting) (p : Pass) (own : IsOpenPass d p)
        (out : (s : ℕ) → IsAmong s (survivor_ids p.survivors) → d.head.id ≡ s → ⊥) where
      abbrev g : MasterData
      g = left_as old_closed x gone ps

      same_at : (s : ℕ) → IsAmong s p.victims → images_in old_closed.closed s ≡ images_in d.closed s
      same_at s m = same_in s (λ same. (let lt = victim_below d core p own s m in omega arith))

      pass_kept : IsPass d.index.seed old_closed.closed p
      pass_kept = record {
        victims = each p.victims own.pass.victims;
        whole = all_from_among (IsWhole old_closed.closed) (survivor_ids p.survivors) (λ s m.
            subst (λ (o : Option Image). IsSomeAnd o (λ (image : Image). image.is_whole ≡ true))
            (sym (found_same s (out s m)))
            (all_among (IsWhole d.closed) (survivor_ids p.survivors) s own.pass.whole m));
        numbers = own.pass.numbers;
        within = own.pass.within;
        cursor = cursor_agrees d.index.seed (images_in d.closed) (images_in old_closed.closed) p same_at
            own.pass.cursor;
      } where
        found_same : (s : ℕ) → (d.head.id ≡ s → ⊥) → image_of old_closed.closed s ≡ image_of d.closed s
        found_same s other =
            let away = other_id d.head.id s other in
            image_found (closed_image d.head.id d.head.image d.config.replicas) d.closed s no_old
            ∙ ap (λ (b : Bool). if b then Some (closed_image d.head.id d.head.image d.config.replicas)
            else image_of d.closed s) away

        there : (s : ℕ) → IsSome (segment_of d.closed s) → IsSome (segment_of old_closed.closed s)
        there s some =
            subst IsSome (sym (segment_found (closed_image d.head.id d.head.image d.config.replicas) d.closed s no_old))
            (by_test (d.head.id == s))
          where
            by_test : (t : Bool) → IsSome (if t then Some d.head.image else segment_of d.closed s)
            by_test true = refl
            by_test false = some

        each : (vs : List ℕ) → AreOlder d.closed p.survivors.first vs
            → AreOlder old_closed.closed p.survivors.first vs
        each [] all = tt
        each (v ∷ vs) all = ((there v all.0.0, all.0.1), each vs all.1)

      victims_kept : AreVictims g p.victims
      victims_kept = record {
        some = own.victims.some;
        few = own.victims.few;
        apart = own.victims.apart;
        older = subst (λ (ids : List ℕ). AllByRecursion (λ (s : ℕ). has ids s ≡ true) p.victims) (sym others_then)
            (each p.victims own.victims.older);
      } where
        others_then : (head_of old_closed.head).start.others ≡ ids_of (head_of d.head).start
        others_then = ap (λ (l : Head). l.start.others) head_then ∙ lists

        each : (vs : List ℕ) → AllByRecursion (λ (s : ℕ). has (head_of d.head).start.others s ≡ true) vs
            → AllByRecursion (λ (s : ℕ). has (ids_of (head_of d.head).start) s ≡ true) vs
        each [] all = tt
        each (v ∷ vs) all = (
          has_more (head_of d.head).start.others (head_of d.head).start.id v
              ∙ (rw all.0 refl),
          each vs all.1,
        )

      survivor_kept : (s : ℕ) → IsAmong s (survivor_ids p.survivors) → IsSurvivor g s
      survivor_kept s m =
          let one = own.survivors.each s m in record {
            outside = subst (λ (n : Start). has (ids_of n) s ≡ false)
                (sym (ap (λ (l : Head). l.start) head_then)) (
                has_more (start_of r).others (start_of r).id s
                ∙ (λ i. has (lists i) s || (id_then i == s))
                ∙ (λ i. one.outside i || new one.not_new i));
            not_new = tt;
            used = one.used;
            begins = subst (λ (es : List Entry). BeginAsSurvivor d.config.master s es)
                (sym (same_in s (out s m))) one.begins;
            within = subst (λ (es : List Entry). length (text_of es) ≤ d.config.segment)
                (sym (same_in s (out s m))) one.within;
          }
        where
          new : IfSome d.head.roll (λ (q : Roll). (q.id == s) ≡ false) → (r.id == s) ≡ false
          new not = subst (λ (n : Option Roll). IfSome n (λ (q : Roll). (q.id == s) ≡ false)) is not

      rooms_kept : HasRoomsIn d.config.segment (log_set_ids old_closed) p old_closed.closed d.index
      rooms_kept =
          rooms_stay d.config.segment (log_set_ids d) (log_set_ids old_closed) p d.closed old_closed.closed
          d.index d.index same_at (λ s m. same_in s (out s m))
          (no_more (log_set_ids d) (log_set_ids old_closed) d.index (images_in d.closed)
          (closed_each d.closed core.segments) p d.next
          (λ q t m stands. (let lt = victim_below d core p own q.segment (rest_segment (images_in d.closed) p q m) in
          core.named q.segment t (subst (λ (image : List Entry). IsAmong (entry.Tombstone t) image)
          (sym (older_image d core q.segment lt)) stands)))
          (λ z lt test. sym (same_set z) ∙ test))
          own.rooms

      spare_kept : IfSome x (λ (f : Failover). (f.is_first ≡ false) × (f.abandoned ≡ None))
          → d.failed ≡ [] → p.is_committing ≡ false → IsSpare g (length p.victims) p.survivors.count
      spare_kept bare none early =
          let spare = own.spare none early in
          let free = spare.free in
          let listed = spare.listed in
          let used = ended_used old_closed.closed d.pass d.waiting x gone ps bare in
          let same = closed_sum in
          let digest : length (newest_digest d.head) ≡ length (digest_of r.image) =
          ap (λ (n : Option Roll). length (option_map_or (λ (q : Roll). digest_of q.image) n
          (digest_of d.head.image))) is in
          record { free = omega arith; listed = omega arith }

      pub pass_goes_on : IfSome x (λ (f : Failover). (f.is_first ≡ false) × (f.abandoned ≡ None))
          → p.is_committing ≡ false → IsOpenPass g p
      pass_goes_on bare early = record {
        pass = pass_kept;
        victims = victims_kept;
        survivors = record { some = own.survivors.some; few = own.survivors.few; each = survivor_kept };
        rooms = rooms_kept;
        sealed = λ s m. (let same = closed_replicas s (out s m) in let few = own.sealed s m in omega arith);
        live = λ k q finds victim. subst (λ (places : List Place). IsAmong q places)
            (sym (rest_same (images_in d.closed) (images_in old_closed.closed) p same_at))
            (own.live k q (ap (λ (images : ℕ → List Entry). found (keys_in images) k d.index)
            (sym images_then) ∙ finds) victim);
        unsealed = λ more s m. closed_replicas s (out s m) ∙ own.unsealed more s m;
        spare = spare_kept bare;
        commits = λ test. (let never : false ≡ true = sym early ∙ test in absurd (cc));
      }

    pub ordinary_core : (x : Option Failover) (gone : List Start) (ps : List Posting) → IsHeadValue (in_force d.head r)
        → is_committing d ≡ false → HasFailover (left_as old_closed x gone ps) → IsCore (left_as old_closed x gone ps)
    ordinary_core x gone ps valid early failing =
        ended old_closed.closed d.pass d.waiting x gone ps valid failing
        (closed_ids ∙ ap (all_inserted (survivors_of d.pass)) (sym lists)) closed_segments closed_few core.waiting
        (let same = closed_sum in let budget = core.budget in omega arith)
        (passes d.pass core.pass (apart d core) early)
        (subst (λ (images : ℕ → List Entry). NameBelow images d.next) (sym images_then) core.named)
        (record {
          kept = subst (λ (images : ℕ → List Entry). AreKept (keys_in images) d.index)
              (sym images_then) core.index.kept;
          lies = λ k. subst (λ (images : ℕ → List Entry). LiesFound images k (found (keys_in images) k d.index)
              ((state_now d).contents k))
              (sym images_then) (core.index.lies k);
          safe = core.index.safe;
        })
      where
        passes : (o : Option Pass) → IfSome o (IsOpenPass d)
            → ((s : ℕ) → IsAmong s (survivors_of o) → (has (head_of d.head).start.others s ≡ false)
            × (d.head.id ≡ s → ⊥))
            → option_map_or (λ (p : Pass). p.is_committing) o false ≡ false
            → IfSome o (IsOpenPass (left_as old_closed x gone ps))
        passes None all out not = tt
        passes (Some p) all out not = pass_goes_on x gone ps p all (λ s m. (out s m).1) failing.bare not
