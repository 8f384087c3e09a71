-- What holds of the model's memory after a step holds of a master's, if this has the same images and the same pass.
use Rattle.std.proofs.Common.{◌≡◌, ℕ, ◌≤◌, inl, inr, Bool, List, [], ◌∷◌, ◌++◌, map, refl, sym, ap, subst, ◌∙◌, arith}
use Rattle.std.specs.Prelude.{Option, Some, None, IfSome, IsSome}
use Rattle.std.specs.Option.{option_map, option_map_or}
use Rattle.std.proofs.lemmas.Option.{same_Some}
use Rattle.master_core.specs.cleaner.declared.pass.Pass.{Pass as OpenPass}
use Rattle.master_core.specs.cleaner.Passes.{images_in, rest_of}
use Rattle.master_core.proofs.cleaner.Ends.{rest_same}
use Rattle.entry.specs.declared.key.Key.{Key}
use Rattle.entry.specs.declared.entry.Object.{Object}
use Rattle.entry.specs.declared.entry.Tombstone.{Tombstone}
use Rattle.entry.specs.declared.entry.Entry.{Entry}
use Rattle.entry.specs.declared.entry.Entry.TheVariants as entry
use Rattle.entry.specs.Bag.{IsAmong}
use Rattle.entry.specs.Meaning.{Versioned, object_at}
use Rattle.places.specs.declared.place.Place.{Place}
use Rattle.master_core.specs.compactor.Places.{IsAtPlace}
use Rattle.replica.specs.Picture.{FleetState}
use Rattle.master_core.specs.log_laws.Memory.{Place as EntryPlace, Index, Images, Pass, IsAt, StandsAt, SegmentHas}
use Rattle.master_core.specs.log_laws.Memory.{new_ids}
use Rattle.master_core.specs.log_laws.Tracked.{IsTracked}
use Rattle.master_core.specs.log_laws.Data.{FailData, new_of}
use Rattle.master_core.specs.log_laws.Log.{Texts}
use Rattle.master_core.specs.log_laws.Steps.{ids_now}
use Rattle.master_core.specs.log_memory.Covered.{map_of}
use Rattle.master_core.specs.log_memory.Fleet.{HoldsAll}
use Rattle.master_core.specs.log_memory.Memory.{Spot, FailMemory, log_ids, log_set_of}
use Rattle.master_core.specs.log_memory.Same.{IsFoundInBoth, IsSameMemory}
use Rattle.master_core.specs.master_state.Budget.{victims_of, survivors_of, is_committing}
use Rattle.master_core.specs.master_state.Data.{MasterData}
use Rattle.master_core.specs.master_state.Index.{LiesFound}
use Rattle.master_core.specs.master_state.Invariant.{IsCore, IsOpenPass}
use Rattle.master_core.specs.master_state.Log.{log_of, state_now, image_of, images_of, find, position_of, entry_place}
use Rattle.master_core.specs.master_state.Log.{rest_now}
use Rattle.master_core.specs.master_state.Log.{memory_of}
use Rattle.master_core.proofs.master_state.Finding.{each_of, found_place}
use Rattle.master_core.proofs.master_state.LogIds.{older_image}
use Rattle.master.proofs.KeptByEntries.{stands_by_entries}
use Rattle.master.proofs.Lasting.{Lasts, all_lasts}
use Rattle.master.proofs.LogSets.{among_at_place, entry_imaged, imaged, counts_imaged, given_up_none}
use Rattle.master.proofs.Victims.{victim_below}

-- ---- lists

pub among_map : {X Y : Type 0} (f : X → Y) (xs : List X) (x : X) → IsAmong x xs → IsAmong (f x) (map f xs)
among_map f [] x i = absurd i
among_map f (y ∷ ys) x (inl same) = inl (ap f same)
among_map f (y ∷ ys) x (inr later) = inr (among_map f ys x later)

pub map_among : {X Y : Type 0} (f : X → Y) (xs : List X) (y : Y) → IsAmong y (map f xs) → (x : X)
    × IsAmong x xs × (f x ≡ y)
map_among f [] y i = absurd i
map_among f (x ∷ xs) y (inl same) = (x, inl refl, same)
map_among f (x ∷ xs) y (inr later) = let rest = map_among f xs y later in (rest.0, inr rest.1, rest.2)

pub nothing_mapped : {X Y : Type 0} (f : X → Y) (xs : List X) → map f xs ≡ [] → xs ≡ []
nothing_mapped f [] is = refl
nothing_mapped f (x ∷ xs) is = absurd (cc)

-- ---- what a step shows

-- The model's memory after a step is the master's, but for the places in it.
pub record IsModel (e : MasterData) (m : FailMemory) : Type 0 where
  pub pass : (memory_of e).pass ≡ m.pass
  pub images : (s : ℕ) → IsSome (image_of e s) → images_of e s ≡ m.images s
  -- what is found in a victim isn't found in a survivor by the model
  pub behind : (k : Key) (q : Place) (r : EntryPlace) → find e k ≡ Some q → m.index k ≡ Some r
      → IsAmong q.segment m.pass.victims → IsAmong r.segment m.pass.survivors → ⊥
  pub carried : (p : EntryPlace) (t : Tombstone) → IsAmong p.segment m.pass.victims
      → StandsAt m.images p (entry.Tombstone t) → IsAmong t.segment (log_ids (log_of e) m) → IsAmong p m.rest
      → IsAmong p (memory_of e).rest
  pub done : m.rest ≡ [] → (memory_of e).rest ≡ []
  pub commits : is_committing e ≡ m.commits
  pub waiting : (w : Spot) → IsAmong w (memory_of e).waiting → IsAmong w m.waiting

module _ (e : MasterData) (core : IsCore e) where
  -- what the index finds in a victim is to come
  live_of : (o : Option OpenPass) → e.pass ≡ o → IfSome o (IsOpenPass e) → (k : Key) (q : Place) → find e k ≡ Some q
      → IsAmong q.segment (victims_of o) → IsAmong q (option_map_or (rest_of (images_in e.closed)) o [])
  live_of None is pass k q found victim = absurd victim
  live_of (Some p) is pass k q found victim = pass.live k q found victim

  live : (k : Key) (p : EntryPlace) → (memory_of e).index k ≡ Some p → IsAmong p.segment (victims_of e.pass)
      → IsAmong p (memory_of e).rest
  live k p named victim = go (find e k) refl named where
    go : (f : Option Place) → find e k ≡ f → option_map (entry_place e) f ≡ Some p → IsAmong p (memory_of e).rest
    go None is named = absurd (cc)
    go (Some q) is named =
        let same : entry_place e q ≡ p = same_Some (entry_place e q) p named in
        let there = live_of e.pass refl core.pass k q is
        (subst (λ (z : ℕ). IsAmong z (victims_of e.pass)) (sym (ap (λ (r : EntryPlace). r.segment) same)) victim) in
        subst (λ (r : EntryPlace). IsAmong r (memory_of e).rest) same (among_map (entry_place e) (rest_now e) q there)

  unindexed : (k : Key) → (state_now e).contents k ≡ None → (memory_of e).index k ≡ None
  unindexed k has = go (find e k) ((state_now e).contents k) refl has (core.index.lies k) where
    go : (q : Option Place) (x : Option Versioned) → find e k ≡ q → x ≡ None → LiesFound (images_of e) k q x
        → option_map (entry_place e) (find e k) ≡ None
    go None x is none lies = ap (option_map (entry_place e)) is
    go (Some q) None is none lies = absurd lies
    go (Some q) (Some x) is none lies = absurd (cc)

module _ {Holds : FailData → FailMemory → FleetState → Type 0} (lasts : Lasts Holds) (e : MasterData) (core : IsCore e)
    (m : FailMemory) (f : FleetState)
    (i : Holds (log_of e) m f) (is : IsModel e m) where
  texts : Texts
  texts = (lasts.tracked (log_of e) m f i).0

  tracked : IsTracked (log_set_of (log_of e) m texts) m.pass m.index (map_of (log_of e))
  unfolding texts
  tracked = (lasts.tracked (log_of e) m f i).1

  ids_are : log_ids (log_of e) (memory_of e) ≡ log_ids (log_of e) m
  ids_are = ap (λ (x : Pass). ids_now (log_of e).head.start ++
      (new_ids (new_of (log_of e).mode) ++ x.survivors)) is.pass

  still_imaged : (s : ℕ) → IsAmong s (log_ids (log_of e) m) → IsSome (image_of e s)
  still_imaged s counts =
      counts_imaged e core s (subst (λ (ids : List ℕ). IsAmong s ids) (sym ids_are) counts)

  fewer : (s : ℕ) (x : Entry) → IsAmong x (images_of e s) → IsAmong x (m.images s)
  fewer s x among =
      subst (λ (es : List Entry). IsAmong x es) (is.images s (entry_imaged e s x among)) among

  module _ (k : Key) (x : Versioned) (has : (state_now e).contents k ≡ Some x) where
    abbrev object : Object
    object = record { key = k; version = x.version; value = x.value }

    abbrev place : (q : Place) × (find e k ≡ Some q) × IsAtPlace (images_of e) q (object_at k x)
    place = found_place e core k x has

    among : IsAmong (object_at k x) (images_of e place.0.segment)
    among = among_at_place e place.0 (object_at k x) place.2

    some : IsSome (image_of e place.0.segment)
    some = entry_imaged e place.0.segment (object_at k x) among

    -- it counts, since some segment of the log set has an object
    counts : IsAmong place.0.segment (log_ids (log_of e) m)
    counts = elim ((imaged e core place.0.segment).0 some) as (λ _. IsAmong place.0.segment (log_ids (log_of e) m)) [
      | inl there ↦ subst (λ (ids : List ℕ). IsAmong place.0.segment ids) ids_are there
      | inr lost ↦ (let was = (tracked.found k x has) in
          absurd (subst (λ (ids : List ℕ). IsAmong was.place.segment ids)
          (sym ids_are ∙ given_up_none e core place.0.segment lost) was.counts))
    ]

    image_is : images_of e place.0.segment ≡ m.images place.0.segment
    image_is = is.images place.0.segment some

    there : SegmentHas (log_set_of (log_of e) m texts) place.0.segment (object_at k x)
    there = record {
      counts = counts;
      among = inl (subst (λ (es : List Entry). IsAmong (object_at k x) es) image_is among);
    }

    -- both find it in one segment
    found : IsFoundInBoth m (memory_of e) k x
    found =
        let was = tracked.found k x has in
        let segment : was.place.segment ≡ place.0.segment =
        elim (tracked.lies k x was.place has was.indexed place.0.segment object there refl) as (λ _. was.place.segment
        ≡ place.0.segment) [
          | inl same ↦ same
          | inr copied ↦ absurd (is.behind k place.0 was.place place.1 was.indexed copied.victim copied.survivor)
        ] in
        record {
          place = was.place;
          other = entry_place e place.0;
          indexed = was.indexed;
          other_indexed = ap (option_map (entry_place e)) place.1;
          segment = sym segment;
          stands = subst (λ (es : List Entry). IsAt es (position_of (images_of e place.0.segment) place.0.at)
              (object_at k x)) image_is
              (stands_by_entries (images_of e place.0.segment) place.0.at (object_at k x)
              (each_of e core place.0.segment) place.2);
        }

  same : IsSameMemory (log_of e) m (memory_of e)
  same = record {
    pass = is.pass;
    images = λ s counts. is.images s (still_imaged s counts);
    fewer = fewer;
    found = found;
    unindexed = unindexed e core;
    live = λ k r named victim.
        live e core k r named (subst (λ (x : Pass). IsAmong r.segment x.victims) (sym is.pass) victim);
    carried = is.carried;
    done = is.done;
    commits = is.commits;
    waiting = is.waiting;
  }

  -- it holds of the master's own memory
  pub own_holds : Holds (log_of e) (memory_of e) f
  own_holds = lasts.same (log_of e) m (memory_of e) f i same

pub own_holds_all : (e : MasterData) → IsCore e → (m : FailMemory) (f : FleetState) → HoldsAll (log_of e) m f
    → IsModel e m → HoldsAll (log_of e) (memory_of e) f
own_holds_all e core m f i is = own_holds all_lasts e core m f i is

-- ---- a pass that goes on

-- What a step leaves of an open pass and of what waits.
pub record LeavesPass (d e : MasterData) : Type 0 where
  pub pass : (memory_of e).pass ≡ (memory_of d).pass
  pub waiting : (memory_of e).waiting ≡ (memory_of d).waiting
  pub rest : rest_now e ≡ rest_now d
  pub victims : (s : ℕ) → IsAmong s (victims_of d.pass) → images_of e s ≡ images_of d s

-- what is to come stays if the images of victims do
pub rest_stays : (d e : MasterData) → IsCore d → IsCore e → e.pass ≡ d.pass → d.head.id ≤ e.head.id
    → ((s : ℕ) → IsAmong s (victims_of d.pass) → images_of e s ≡ images_of d s) → rest_now e ≡ rest_now d
rest_stays d e core later pass newer same =
    ap (λ (o : Option OpenPass). option_map_or (rest_of (images_in e.closed)) o []) pass
    ∙ go d.pass (λ s victim. (
    let lt = victim_below d core s victim in
    sym (older_image e later s (omega arith)) ∙ same s victim ∙ older_image d core s lt))
  where
    go : (o : Option OpenPass) → ((s : ℕ) → IsAmong s (victims_of o) → images_in e.closed s ≡ images_in d.closed s)
        → option_map_or (rest_of (images_in e.closed)) o [] ≡ option_map_or (rest_of (images_in d.closed)) o []
    go None same = refl
    go (Some p) same = rest_same (images_in d.closed) (images_in e.closed) p same

module _ (d e : MasterData) (leaves : LeavesPass d e) where
  still_carried : (p : EntryPlace) → IsAmong p.segment (victims_of d.pass) → IsAmong p (memory_of d).rest
      → IsAmong p (memory_of e).rest
  still_carried p victim i =
      let q = map_among (entry_place d) (rest_now d) p i in
      let segment : q.0.segment ≡ p.segment = ap (λ (r : EntryPlace). r.segment) q.2 in
      let image = leaves.victims q.0.segment (subst (λ (z : ℕ). IsAmong z (victims_of d.pass)) (sym segment) victim) in
      let same : entry_place e q.0 ≡ entry_place d q.0 =
      ap (λ (es : List Entry). record { segment = q.0.segment; position = position_of es q.0.at }) image in
      subst (λ (r : EntryPlace). IsAmong r (memory_of e).rest) (same ∙ q.2)
      (among_map (entry_place e) (rest_now e) q.0 (subst (λ (ps : List Place). IsAmong q.0 ps) (sym leaves.rest) q.1))

  still_done : (memory_of d).rest ≡ [] → (memory_of e).rest ≡ []
  still_done none = ap (map (entry_place e)) (leaves.rest ∙ nothing_mapped (entry_place d) (rest_now d) none)

  -- the model's memory after a step that changes images and the index, and says whether a commit is under way
  module _ (images : Images) (index : Index) (committing : Bool) where
    abbrev then_memory : FailMemory
    then_memory = record (memory_of d) { images = images; index = index; commits = committing }

    pub is_model : is_committing e ≡ committing
        → ((s : ℕ) → IsSome (image_of e s) → images_of e s ≡ images s)
        → ((k : Key) (q : Place) (r : EntryPlace) → find e k ≡ Some q → index k ≡ Some r
        → IsAmong q.segment (victims_of d.pass) → IsAmong r.segment (survivors_of d.pass) → ⊥)
        → IsModel e (record (memory_of d) { images = images; index = index; commits = committing })
    is_model commits same_images behind = record {
      pass = leaves.pass;
      images = same_images;
      behind = behind;
      carried = λ p t victim stands named i. still_carried p victim i;
      done = still_done;
      commits = commits;
      waiting = λ w waits. subst (λ (ws : List Spot). IsAmong w ws) leaves.waiting waits;
    }
