-- An object is loaded to a core, and the loading ends.
use Rattle.std.proofs.Common.{◌≡◌, ◌⊎◌, ℕ, zero, suc, ◌+◌, ◌<◌, ◌≤◌, inl, inr, Bool, true, false, ◌==◌, List, [], ◌∷◌}
use Rattle.std.proofs.Common.{◌++◌, length, map, filter}
use Rattle.std.proofs.Common.{refl, sym, ap, subst, ◌∙◌, arith}
use Rattle.std.specs.Prelude.{◌&&◌, Option, Some, None, IfSome, is_none, not, nat_le, sum_by, slice_get, if◌then◌else◌}
use Rattle.std.specs.Option.{option_map, option_map_or}
use Rattle.std.specs.List.{AllByRecursion}
use Rattle.std.proofs.lemmas.Bool.{and_parts, not-false, eqb-true, leb-true}
use Rattle.std.proofs.lemmas.List.{append-nil}
use Rattle.std.proofs.lemmas.Option.{same_Some}
use Rattle.master_state.specs.cleaner.declared.pass.Pass.{Pass as OpenPass}
use Rattle.master_state.specs.cleaner.Passes.{is_ready as is_ready_pass}
use Rattle.master_state.specs.cleaner.Seals.{first_lacking}
use Rattle.master_state.specs.compactor.Places.{IsAtPlace, keys_in}
use Rattle.entry.specs.declared.key.Key.{Key}
use Rattle.entry.specs.declared.entry.Object.{Object}
use Rattle.entry.specs.declared.entry.Entry.{Entry}
use Rattle.entry.specs.declared.entry.Entry.TheVariants as entry
use Rattle.entry.specs.Bag.{IsAmong}
use Rattle.entry.specs.Format.{IsEntry}
use Rattle.entry.specs.Meaning.{versioned}
use Rattle.entry.specs.Tablet.{have_key}
use Rattle.entry.specs.Text.{text_of}
use Rattle.entry.proofs.BagLemmas.{among_either}
use Rattle.places.specs.declared.place.Place.{Place}
use Rattle.places.specs.Map.{Places, found}
use Rattle.images.specs.Images.{count_of}
use Rattle.log_head.specs.declared.head.Roll.{Roll}
use Rattle.log_head.specs.declared.head.UnitEnd.{UnitEnd}
use Rattle.log_head.specs.Head.{HeadValue, IsHeadValue, is_open, digest_of}
use Rattle.log_head.specs.Log.{head_of, settled_head, units_from, IsImageOf}
use Rattle.log_head.specs.declared.next.Next.{Next}
use Rattle.log_head.specs.declared.next.Next.TheVariants as next
use Rattle.log_head.specs.Steps.{with_unit_end, settled, with_new_replica, with_closed_replica, old_image}
use Rattle.log_head.proofs.Rolls.{zeros_length}
use Rattle.log_head.proofs.RollLog.{digest_is}
use Rattle.log_head.proofs.SettledLog.{settled_is, image_settled}
use Rattle.master_state.specs.log_laws.Data.{Calm}
use Rattle.master_state.specs.log_laws.Steps.{adopted}
use Rattle.master_state.specs.log_memory.Loading.{with_object}
use Rattle.log_head.specs.log_laws.Heads.{Head, fewest, ids_of}
use Rattle.log_head.specs.log_laws.Ids.{all_inserted}
use Rattle.log_head.specs.log_laws.Rising.{AreBelow, IsWhole}
use Rattle.log_head.proofs.log_laws.Counts.{fewest_below}
use Rattle.versioned_map.specs.declared.command.Record.{Record}
use Rattle.versioned_map.specs.History.{commands_of, IsLegal}
use Rattle.versioned_map.specs.Versioned.{State, after, with_contents}
use Rattle.master_commands.specs.declared.change.Change.TheVariants as change
use Rattle.master_state.specs.declared.step.Refusal.TheVariants.{TooBig, NoTablet, Full, Rolling}
use Rattle.master_state.specs.declared.failover.Failover.{Failover}
use Rattle.master_state.specs.declared.waiting.Waiting.{Waiting}
use Rattle.master_state.specs.Budget.{used_seglets, newest_digest, is_working, may_roll, survivors_of}
use Rattle.master_state.specs.Causes.{has_room, is_pushed, is_done}
use Rattle.master_state.specs.Data.{MasterData}
use Rattle.master_state.specs.Images.{images_among, with_closed}
use Rattle.master_state.specs.Index.{LiesFound}
use Rattle.master_state.specs.Invariant.{IsIndex, IsFirst, IsRollOf, IsOpenPass, IsFailover, NameBelow, IsCore}
use Rattle.master_state.specs.Live.{object_bytes, with_bytes}
use Rattle.master_state.specs.Loading.{IsBare, loaded_unit, is_object_too_big, load_refusal, IsNewObject, origin_with}
use Rattle.master_state.specs.Loading.{Loads, MayLoadNow, settled_data}
use Rattle.master_state.specs.Steps.{rolling_data, closed_data, roll_ended, taken_data, ledger_after, pushed_data}
use Rattle.master_state.specs.Steps.{still_waits, lost_waiting, lost_data}
use Rattle.master_state.specs.Log.{opening_of, is_headless, mode_of, log_of, state_now, images_of, find}
use Rattle.master_commands.proofs.Adding.{head_appended, within_then, counts_then}
use Rattle.master_commands.proofs.HeadsInForce.{open_headed, open_calm, mode_same, force_unit, force_settled}
use Rattle.master_state.proofs.Finding.{each_among, index_of}
use Rattle.master_state.proofs.Imaging.{same_id, head_images, appended_grow, appended_own, appended_other}
use Rattle.master_state.proofs.Indexing.{Grow, Indexes}
use Rattle.master_commands.proofs.Indexed.{IsMovedBy, absent_grown, KeepsOthers, put_stands, set_index, put_at_place}
use Rattle.master_state.proofs.Refusals.{passes, open_parts, working_parts}

-- ---- the tests

-- What holds of an object that no test refuses.
pub record IsAdmitted (d : MasterData) (o : Object) : Type 0 where
  pub key : have_key d.config.tablets o.key ≡ true
  pub works : is_working d ≡ true
  pub room : length (text_of d.head.image) + length (text_of (loaded_unit o)) ≤ d.config.segment

pub is_admitted : (d : MasterData) (o : Object) → load_refusal d o ≡ None → IsAdmitted d o
is_admitted d o passed =
    let big = passes (is_object_too_big o d.config.segment) TooBig _ passed in
    let key = passes (not (have_key d.config.tablets o.key)) NoTablet _ big.1 in
    let full = passes (is_working d && (not (has_room d (loaded_unit o)) && not (may_roll d 2))) Full _ key.1 in
    let due = passes (not (is_working d && has_room d (loaded_unit o))) Rolling None full.1 in
    let both = and_parts (is_working d) (has_room d (loaded_unit o)) (not-false _ due.0) in
    record { key = not-false _ key.0; works = both.0; room = leb-true _ d.config.segment both.1 }

-- ---- an object

-- a core without history has the opening's state
pub bare_state : (d : MasterData) → d.history ≡ [] → state_now d ≡ opening_of d
bare_state d bare = ap (λ (h : List Record). after (opening_of d) (commands_of h)) bare

-- the object's key isn't found once the object is appended
pub absent_then : (d : MasterData) → IsCore d → IsBare d → (o : Object) → IsNewObject d o
    → IsHeadValue (with_unit_end d.head 0 (loaded_unit o))
    → found (keys_in (images_among (with_unit_end d.head 0 (loaded_unit o)) d.closed)) o.key d.index ≡ None
absent_then d core bare o is_new head =
    let h = with_unit_end d.head 0 (loaded_unit o) in
    let index : Indexes (images_of d) d.index (opening_of d).contents =
    subst (λ (s : State). Indexes (images_of d) d.index s.contents) (bare_state d bare.history) (index_of d core) in
    absent_grown (images_of d) (images_among h d.closed) (appended_grow d.head h d.closed
    (loaded_unit o) refl refl refl)
    (each_among h d.closed head core.segments) d.index (opening_of d).contents index o.key is_new.absent

module _ (d : MasterData) (core : IsCore d) (bare : IsBare d) (o : Object) (is_new : IsNewObject d o)
    (passed : load_refusal d o ≡ None)
    (new : Places) (head : IsHeadValue (with_unit_end d.head 0 (loaded_unit o)))
    (moved : IsMovedBy (keys_in (images_among (with_unit_end d.head 0 (loaded_unit o)) d.closed)) d.index
    (change.Create o.version) o.key
    (record { segment = d.head.id; at = length (text_of d.head.image) }) new) where
  abbrev unit : List Entry
  unit = loaded_unit o

  abbrev place : Place
  place = record { segment = d.head.id; at = length (text_of d.head.image) }

  abbrev pub loaded : MasterData
  loaded = record d {
    head = with_unit_end d.head 0 unit;
    index = new;
    origin = origin_with d.origin o;
    live = with_bytes d.live (object_bytes o.key o.value);
  }

  admitted : IsAdmitted d o
  admitted = is_admitted d o passed

  -- ---- the log

  head_then : (head_of loaded.head ≡ record (head_of d.head)
      { units = (head_of d.head).units ++ record { number = 0; entries = unit } ∷ [] })
      × IsImageOf d.config.master loaded.head (head_of loaded.head)
  head_then = head_appended d.config.master d.head 0 unit core.image head

  opened : is_open d.head ≡ true
  opened = (working_parts d admitted.works).0

  calm : d.failover ≡ None
  calm = (working_parts d admitted.works).1

  log_then : log_of loaded ≡ with_object (log_of d) o
  log_then =
      let force = force_unit d loaded 0 unit refl refl head_then.0 (inr (open_headed d opened calm)) in
      let mode = mode_same d loaded refl refl refl refl (ap (λ (l : Head). l.start) head_then.0) in
      λ i. record (log_of d) { opening = opening_of loaded; head = force i; mode = mode i }

  pub may_load : MayLoadNow d o
  may_load = (
    record { calm = open_calm d opened calm; key = admitted.key; absent = is_new.absent; low = is_new.low },
    record { opened = opened; segment = head.segment; limit = head.limit },
  )

  first_then : is_headless loaded ≡ true → IsFirst loaded.head
  first_then not = (let never : true ≡ false = sym not ∙ open_headed d opened calm in absurd (cc))

  -- ---- the index

  grow : Grow (images_of d) (images_of loaded)
  grow = appended_grow d.head loaded.head d.closed unit refl refl refl

  each : (s : ℕ) → AllByRecursion IsEntry (images_of loaded s)
  each = each_among loaded.head d.closed head core.segments

  own : images_of loaded d.head.id ≡ images_of d d.head.id ++ unit
  own = head_images loaded.head d.closed ∙ ap (λ (es : List Entry). es ++ unit) (sym (head_images d.head d.closed))

  index_before : Indexes (images_of d) d.index (opening_of d).contents
  index_before = subst (λ (s : State). Indexes (images_of d) d.index s.contents)
      (bare_state d bare.history) (index_of d core)

  at_end : length (text_of d.head.image) ≡ length (text_of (images_of d d.head.id ++ []))
  at_end = ap (λ (es : List Entry). length (text_of es))
      (sym (append-nil (images_of d d.head.id) ∙ head_images d.head d.closed))

  stands : IsAtPlace (images_of loaded) place (entry.Object o)
  stands =
      put_stands (images_of d) (images_of loaded) grow each place 0 d.index new (opening_of d).contents 0 index_before
      [] o at_end own

  index_on : Indexes (images_of loaded) new (with_contents (opening_of d).contents o.key (Some (versioned o)))
  index_on =
      set_index (images_of d) (images_of loaded) grow each place 0 d.index new (opening_of d).contents 0 index_before
      o.key (versioned o) stands moved

  others_on : KeepsOthers (images_of d) (images_of loaded) grow each place 0 d.index new
      (opening_of d).contents 0 index_before
  others_on =
      put_at_place (images_of d) (images_of loaded) grow each place 0 d.index new (opening_of d).contents 0 index_before
      o.key (versioned o) stands moved

  index_then : IsIndex loaded
  index_then = record {
    kept = index_on.kept;
    lies = λ k. subst (λ (s : State). LiesFound (images_of loaded) k (find loaded k) (s.contents k))
        (sym (bare_state loaded bare.history)) (index_on.lies k);
    safe = core.index.safe ∙ ap (λ (s : State). s.safe) (bare_state d bare.history)
        ∙ sym (ap (λ (s : State). s.safe) (bare_state loaded bare.history));
  }

  not_there : (q : Place) → (q.segment == d.head.id) ≡ false → (q ≡ place) → ⊥
  not_there q away same = let here : (q.segment == d.head.id) ≡ true = ap (λ (r : Place). r.segment == d.head.id) same
      ∙ same_id d.head.id in cc

  found_then : (k : Key) (q : Place) → find loaded k ≡ Some q → (find d k ≡ Some q) ⊎ (q.segment ≡ d.head.id)
  found_then k q finds = go (q.segment == d.head.id) refl where
    go : (t : Bool) → (q.segment == d.head.id) ≡ t → (find d k ≡ Some q) ⊎ (q.segment ≡ d.head.id)
    go true here = inr (eqb-true q.segment d.head.id here)
    go false away = inl (others_on.found_on k q (λ same. not_there q away same) finds)

  -- ---- the rest

  named_then : NameBelow (images_of loaded) loaded.next
  named_then s t m = go (d.head.id == s) refl where
    by_unit : IsAmong (entry.Tombstone t) (images_of d s ++ unit) → t.segment < d.next
    by_unit m =
        elim (among_either (entry.Tombstone t) (images_of d s) unit m) as (λ _. t.segment < d.next) [
          | inl old ↦ core.named s t old
          | inr (inl is) ↦ absurd (cc)
          | inr (inr never) ↦ absurd never
        ]

    go : (b : Bool) → (d.head.id == s) ≡ b → t.segment < d.next
    go true here =
        by_unit (subst (λ (es : List Entry). IsAmong (entry.Tombstone t) es)
        (appended_own d.head loaded.head d.closed unit s refl refl here) m)
    go false away =
        core.named s t (subst (λ (es : List Entry). IsAmong (entry.Tombstone t) es)
        (appended_other d.head loaded.head d.closed s refl refl away) m)

  none : d.head.roll ≡ None
  none = (open_parts d.head opened).1

  used_then : used_seglets loaded ≡ used_seglets d
  used_then =
      ap (λ (n : ℕ). n + sum_by (count_of d.config.segment d.config.seglet) d.closed)
      (counts_then d 0 unit (λ some. admitted.works))

  digest_then : digest_of loaded.head.image ≡ digest_of d.head.image
  digest_then =
      digest_is d.config.master loaded.head (head_of loaded.head) head_then.1
      ∙ ap (λ (l : Head). ids_of l.start) head_then.0
      ∙ sym (digest_is d.config.master d.head (head_of d.head) core.image)

  newest_then : newest_digest loaded.head ≡ newest_digest d.head
  newest_then = λ i. option_map_or (λ (r : Roll). digest_of r.image) d.head.roll (digest_then i)

  pub loaded_core : IsCore loaded
  loaded_core = record {
    config = core.config;
    replicas = core.replicas;
    history = core.history;
    head = head;
    image = head_then.1;
    within = within_then d.head 0 d.config.segment unit core.within (λ some. admitted.room);
    closed = core.closed ∙ sym (ap (λ (l : Head). all_inserted (survivors_of d.pass) l.start.others) head_then.0);
    segments = core.segments;
    below = subst (λ (l : Head). AreBelow l.start) (sym head_then.0) core.below;
    real = core.real;
    used = core.used;
    first = first_then;
    next = core.next;
    roll = subst (λ (r : Option Roll). IfSome r (IsRollOf loaded)) (sym none) tt;
    pass = subst (λ (p : Option OpenPass). IfSome p (IsOpenPass loaded)) (sym bare.pass) tt;
    named = named_then;
    replicas_few = core.replicas_few;
    waiting = core.waiting;
    digest = (let same = ap (λ (ids : List ℕ). length ids) digest_then in let few = core.digest in omega arith);
    listed = (let same = ap (λ (ids : List ℕ). length ids) newest_then in let few = core.listed in omega arith);
    failed = (let f = core.failed in record { few = f.few; there = f.there; apart = f.apart; two = f.two });
    whole = λ still. subst (λ (l : Head). first_lacking d.config.replicas d.closed l.start.others ≡ None)
        (sym head_then.0) (core.whole still);
    failover = subst (λ (f : Option Failover). IfSome f (IsFailover loaded)) (sym calm) tt;
    abandoned = core.abandoned;
    budget = subst (λ (n : ℕ). n ≤ d.config.seglets) (sym used_then) core.budget;
    legal = subst (λ (h : List Record). IsLegal (opening_of loaded) h) (sym bare.history) refl;
    index = index_then;
  }

  pub loads : Loads d o loaded
  loads = record { passed = passed; log = log_then; found = found_then; rest = refl }

  pub loaded_bare : IsBare loaded
  loaded_bare = record { history = bare.history; pass = bare.pass; waiting = bare.waiting }

-- ---- the end

pub pushed_open : (h : HeadValue) → is_pushed h ≡ true → (is_open h ≡ true)
    × (fewest (length h.units) h.taken ≡ length h.units)
pushed_open h pushed =
    let both = and_parts (is_open h) (fewest (length h.units) h.taken == length h.units) pushed in
    (both.0, eqb-true (fewest (length h.units) h.taken) (length h.units) both.1)

-- a unit for each end
unit_count : (bytes : List ℕ) (from : ℕ) (ends : List UnitEnd) → length (units_from bytes from ends) ≡ length ends
unit_count bytes from [] = refl
unit_count bytes from (e ∷ es) = ap suc (unit_count bytes e.end es)

-- each count is at most this one
all_at : (units j n : ℕ) (ns : List ℕ) → AllByRecursion (λ m. m ≤ units) ns → slice_get ns j ≡ Some n → n ≤ units
all_at units j n [] all is = absurd (cc)
all_at units zero n (m ∷ ns) all is = let same = same_Some m n is in let here = all.0 in omega arith
all_at units (suc j) n (m ∷ ns) all is = all_at units j n ns all.1 is

-- nothing waits to be pushed just if no failover is open, and each replica is open with all units
pub done_parts : (d : MasterData) → is_done d ≡ true → (d.failover ≡ None) × (is_pushed d.head ≡ true)
done_parts d done =
    let parts = and_parts (is_none d.failover) (is_pushed d.head) done in (none d.failover parts.0, parts.1)
  where
    none : (o : Option Failover) → is_none o ≡ true → o ≡ None
    none None is = refl
    none (Some f) is = absurd (cc)

module _ (d : MasterData) (core : IsCore d) (done : is_done d ≡ true) where
  calm_done : d.failover ≡ None
  calm_done = (done_parts d done).0

  pushed : (is_open d.head ≡ true) × (fewest (length d.head.units) d.head.taken ≡ length d.head.units)
  pushed = pushed_open d.head (done_parts d done).1

  open_then : (length d.head.taken ≡ d.head.replicas) × (d.head.roll ≡ None)
  open_then = open_parts d.head pushed.0

  pub pushed_whole : IsWhole d.config.replicas (head_of d.head)
  pushed_whole = record {
    opened = open_then.0 ∙ core.replicas;
    all = λ j n is.
        let least = pushed.1 in
        let low = fewest_below (length d.head.units) n j d.head.taken is in
        let high = all_at (length d.head.units) j n d.head.taken core.head.taken is in
        let count = unit_count (text_of d.head.image) d.head.base d.head.units in
        omega arith;
  }

  pub pushed_calm : mode_of d ≡ Calm
  pushed_calm = open_calm d pushed.0 calm_done

  module _ (bare : IsBare d) (head : IsHeadValue (settled d.head)) where
    -- before that is posted
    abbrev ended : MasterData
    ended = record d { head = settled d.head }

    -- it is as open as it was
    headless_same_then : is_headless ended ≡ is_headless d
    headless_same_then =
        ap (λ (n : ℕ). option_map_or (λ (f : Failover). f.is_first) d.failover (not (nat_le d.head.replicas n)))
        (zeros_length (length d.head.taken))

    head_settled : head_of (settled d.head) ≡ settled_head d.config.replicas (head_of d.head)
    head_settled =
        settled_is d.config.master d.head (head_of d.head) core.image core.head.segment open_then.0
        ∙ ap (λ (n : ℕ). settled_head n (head_of d.head)) core.replicas

    pub settled_core : IsCore (record d { head = settled d.head })
    settled_core = record {
      config = core.config;
      replicas = core.replicas;
      history = core.history;
      head = head;
      image = image_settled d.config.master d.head (head_of d.head) core.image core.head.segment open_then.0;
      within = core.within;
      closed = core.closed;
      segments = core.segments;
      below = core.below;
      real = core.real;
      used = core.used;
      first = λ not.
          let never : true ≡ false = sym not ∙ headless_same_then ∙ open_headed d pushed.0 calm_done in absurd (cc);
      next = core.next;
      roll = subst (λ (r : Option Roll). IfSome r (IsRollOf ended)) (sym open_then.1) tt;
      pass = subst (λ (p : Option OpenPass). IfSome p (IsOpenPass ended)) (sym bare.pass) tt;
      named = core.named;
      replicas_few = core.replicas_few;
      waiting = core.waiting;
      digest = core.digest;
      listed = core.listed;
      failed = (let f = core.failed in record { few = f.few; there = f.there; apart = f.apart; two = f.two });
      whole = core.whole;
      failover = subst (λ (f : Option Failover). IfSome f (IsFailover ended)) (sym calm_done) tt;
      abandoned = core.abandoned;
      budget = core.budget;
      legal = core.legal;
      index = record { kept = core.index.kept; lies = core.index.lies; safe = core.index.safe };
    }

    still_open : is_open (settled d.head) ≡ true
    still_open =
        ap (λ (n : ℕ). (n == d.head.replicas) && is_none d.head.roll) (zeros_length (length d.head.taken))
        ∙ pushed.0

    mode_settled : mode_of ended ≡ mode_of d
    mode_settled = open_calm ended still_open calm_done ∙ sym pushed_calm

    pub settled_log : log_of (settled_data d) ≡ adopted (log_of d) (opening_of d)
    settled_log =
        let force = force_settled d ended d.config.replicas refl headless_same_then head_settled in
        let mode = mode_settled in
        λ i. record (log_of d) {
          history = bare.history i;
          head = force i;
          counts = λ b. 0;
          mode = mode i;
        }

-- ---- what goes on

pub rolling_bare : (d : MasterData) → IsBare d → IsBare (rolling_data d)
rolling_bare d is = record {
  history = is.history;
  pass = ap (λ (o : Option OpenPass). option_map (λ (p : OpenPass). record p
      { is_committing = is_ready_pass d.config.replicas d.closed p }) o) is.pass;
  waiting = is.waiting;
}

taken_bare : (d : MasterData) → IsBare d → (push : Next) → IsBare (taken_data d push)
taken_bare d is (next.OpenFirst j) = record { history = is.history; pass = is.pass; waiting = is.waiting }
taken_bare d is (next.Extend j) = record { history = is.history; pass = is.pass; waiting = is.waiting }
taken_bare d is (next.OpenWhole j) = record { history = is.history; pass = is.pass; waiting = is.waiting }
taken_bare d is (next.OpenNew j) = go d.head.roll where
  go : (o : Option Roll) → IsBare (option_map_or (λ (r : Roll). record d { head = with_new_replica d.head r }) o d)
  go None = is
  go (Some r) = record { history = is.history; pass = is.pass; waiting = is.waiting }
taken_bare d is (next.CloseOld j) = go d.head.roll where
  closing : (b : Bool) (p : Option OpenPass) (e : MasterData) → p ≡ None → IsBare e
      → IsBare (if b then roll_ended p e else e)
  closing true None e none bare = bare
  closing true (Some p) e none bare = absurd (cc)
  closing false p e none bare = bare

  go : (o : Option Roll) → IsBare (option_map_or (closed_data d) o d)
  go None = is
  go (Some r) =
      closing (suc r.closed == d.head.replicas) d.pass
      (record d {
        head = with_closed_replica d.head r;
        closed = with_closed d.closed d.head.id d.config.replicas (old_image d.head r);
      })
      is.pass (record { history = is.history; pass = is.pass; waiting = is.waiting })

-- the op of a push is posted before it is counted
pub pushed_bare : (d : MasterData) → IsBare d → (push : Next) → IsBare (pushed_data d push)
pushed_bare d is push =
    taken_bare (record d { ledger = ledger_after d push })
    (record { history = is.history; pass = is.pass; waiting = is.waiting }) push

-- a backup fails
pub lost_bare : (d : MasterData) → IsBare d → (b : ℕ) → IsBare (lost_data d b)
lost_bare d is b = record {
  history = is.history;
  pass = ap (λ (o : Option OpenPass). option_map (λ (p : OpenPass). record p { is_committing = false }) o) is.pass;
  waiting = ap (λ (ws : List Waiting). filter still_waits (map (lost_waiting d.config d.failed b) ws)) is.waiting;
}
