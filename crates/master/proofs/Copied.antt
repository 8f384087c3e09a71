-- An entry that is treated keeps what holds of a master.
use Rattle.std.proofs.Common.{◌≡◌, ℕ, ◌+◌, Bool, true, false, inl, inr, List, [], ◌∷◌, ◌++◌, map, length, drop, refl}
use Rattle.std.proofs.Common.{sym}
use Rattle.std.proofs.Common.{ap, subst, ◌∙◌, arith}
use Rattle.std.specs.Prelude.{Option, Some, None, ◌==◌, if◌then◌else◌}
use Rattle.std.specs.Option.{option_map, option_map_or}
use Rattle.std.proofs.lemmas.Bool.{eqb-true, eqb-false}
use Rattle.std.proofs.lemmas.List.{append-nil}
use Rattle.std.proofs.lemmas.Option.{same_Some}
use Rattle.master_core.specs.cleaner.declared.pass.Pass.{Pass}
use Rattle.master_core.specs.cleaner.Passes.{images_in, survivor_ids, rest_of, copy_place, images_with, held_with}
use Rattle.master_core.proofs.cleaner.Images.{len_is, with_other, grown_own}
use Rattle.master_core.proofs.cleaner.Places.{on_segment, among_drop}
use Rattle.master_core.proofs.cleaner.SurvivorIds.{id_among}
use Rattle.master_core.specs.compactor.Kept.{kept as is_kept}
use Rattle.master_core.specs.compactor.Moved.{moved_one}
use Rattle.master_core.specs.compactor.Places.{LiesAt, IsAtPlace, keys_in}
use Rattle.entry.specs.declared.key.Key.{Key}
use Rattle.entry.specs.declared.entry.Entry.{Entry}
use Rattle.entry.specs.declared.entry.Object.{Object}
use Rattle.entry.specs.declared.entry.Entry.TheVariants as entry
use Rattle.entry.specs.Bag.{IsAmong}
use Rattle.entry.specs.Text.{text_of, is_data}
use Rattle.places.specs.declared.place.Place.{Place}
use Rattle.places.specs.Relocation.{names}
use Rattle.places.proofs.Words.{names_still, names_moved, named_found}
use Rattle.images.specs.Image.{Image}
use Rattle.images.specs.Sorted.{changed}
use Rattle.images.specs.Steps.{with_unit}
use Rattle.replica.specs.Picture.{FleetState}
use Rattle.versioned_map.proofs.Keys.{key_eq-tells}
use Rattle.master_core.specs.log_laws.Compaction.{kept as entry_kept}
use Rattle.master_core.specs.log_laws.Memory.{Place as EntryPlace, Pass as PassIds, grown}
use Rattle.master_core.specs.log_laws.ImageSteps.{next_place, is_copied}
use Rattle.master_core.specs.log_memory.Fleet.{HoldsAll}
use Rattle.master_core.specs.log_memory.Memory.{log_ids}
use Rattle.master_core.specs.log_memory.Steps.{index_moved, with_copy, MayCopy}
use Rattle.master_core.proofs.log_memory.FleetSteps.{copy_holds_all}
use Rattle.master_core.specs.master_state.declared.step.StepAnswer.{StepAnswer}
use Rattle.master_core.specs.master_state.Budget.{victims_of, survivors_of}
use Rattle.master_core.specs.master_state.Causes.{step_refusal}
use Rattle.master_core.specs.master_state.Data.{MasterData}
use Rattle.master_core.specs.master_state.Invariant.{IsCore}
use Rattle.master_core.specs.master_state.Log.{log_of, memory_of, images_of, log_set_ids, entry_place, position_of}
use Rattle.master_core.specs.master_state.Steps.{Copies}
use Rattle.master_core.proofs.master_state.Finding.{each_of}
use Rattle.master_core.proofs.master_state.Indexing.{Grow, key_seen}
use Rattle.master_core.proofs.master_state.Calm.{passes_first, calm_parts}
use Rattle.master.specs.Invariant.{IsWellKept}
use Rattle.master.specs.Placed.{IsPlaced}
use Rattle.master.proofs.Agreeing.{Agree, agreeing_holds}
use Rattle.master.proofs.GrownImages.{index_then}
use Rattle.master.proofs.KeptByEntries.{position_is, stands_by_entries, kept_same}
use Rattle.master.proofs.Lasting.{kept_as, well_kept, unhanded_kept}
use Rattle.master.proofs.LogSets.{same_set}
use Rattle.master.proofs.OpenPasses.{closed_among, same_among, rest_is, victim_image, below_survivor, not_head, not_new}
use Rattle.master.proofs.OpenPasses.{survivor_image, survivor_whole}
use Rattle.master.proofs.Placements.{AreSame, same_images, changed_same, placed_same}

-- ---- what is kept, by entries and by offsets

module _ (d : MasterData) (core : IsCore d) (calm : d.failover ≡ None) (u : Place) where
  kept_there : (e : Entry) → IsAtPlace (images_of d) u e
      → entry_kept (log_ids (log_of d) (memory_of d)) (memory_of d).index u.segment
      (position_of (images_of d u.segment) u.at) e
      ≡ is_kept (log_set_ids d) d.index u e
  kept_there e l =
      ap (λ (n : ℕ). entry_kept (log_ids (log_of d) (memory_of d)) (memory_of d).index u.segment n e)
      (position_is (images_of d u.segment) u.at e (each_of d core u.segment) l)
      ∙ kept_same d core (log_ids (log_of d) (memory_of d)) (log_set_ids d)
      (λ s. same_set d core s calm) u.segment l.before e l.after l.split
      ∙ ap (λ (n : ℕ). is_kept (log_set_ids d) d.index (record { segment = u.segment; at = n }) e) (sym l.offset)

  pub copied_is_kept : (e : Entry) → IsAtPlace (images_of d) u e → is_data e ≡ true
      → is_copied (log_ids (log_of d) (memory_of d)) (memory_of d).index (entry_place d u) e
      ≡ is_kept (log_set_ids d) d.index u e
  copied_is_kept (entry.Header h) l data_is = absurd (cc)
  copied_is_kept (entry.Digest ids) l data_is = absurd (cc)
  copied_is_kept (entry.Safe version) l data_is = absurd (cc)
  copied_is_kept (entry.Object o) l data_is = kept_there (entry.Object o) l
  copied_is_kept (entry.Tombstone t) l data_is = kept_there (entry.Tombstone t) l

-- ---- an open pass

-- the survivor that a copy goes to: the one that is filled then
abbrev target : Pass → Pass → ℕ
target p q = p.survivors.first + q.filling

-- the entry is copied to a survivor, and its place follows it
abbrev copied_data : MasterData → ℕ → Place → Entry → Pass → MasterData
copied_data d z u e q = record d {
  closed = changed d.closed z (with_unit (e ∷ []));
  index = moved_one u (copy_place z d.closed) e d.index;
  pass = Some q;
}

abbrev ids_of : Option Pass → PassIds
ids_of o = record { victims = victims_of o; survivors = survivors_of o }

-- its places by entries are the same if they are so one by one
maps_same : (f g : Place → EntryPlace) (us : List Place) → ((u : Place) → IsAmong u us → f u ≡ g u)
    → map f us ≡ map g us
maps_same f g [] same = refl
maps_same f g (u ∷ us) same = λ i. same u (inl refl) i ∷ maps_same f g us (λ v m. same v (inr m)) i

-- a copy leaves each segment its replicas
copied_same : (cs : List Image) (z : ℕ) (e : Entry) (t : Bool) → AreSame cs (images_with t z e cs)
copied_same cs z e true = changed_same cs z (with_unit (e ∷ [])) (λ x. refl) (λ x. refl)
copied_same cs z e false = same_images cs

-- ---- a kept entry

module _ (d : MasterData) (core : IsCore d) (p : Pass) (opened : d.pass ≡ Some p) (z : ℕ)
    (survivor : IsAmong z (survivor_ids p.survivors)) (u : Place) (e : Entry) (q : Pass)
    (then_core : IsCore (copied_data d z u e q)) where
  abbrev x : MasterData
  x = copied_data d z u e q

  abbrev to : Place
  to = copy_place z d.closed

  images_own : images_of x z ≡ images_of d z ++ e ∷ []
  images_own =
      closed_among d.head x.closed z (not_head d core p opened z survivor) (not_new d core p opened z survivor)
      ∙ grown_own d.closed z e (survivor_whole d core p opened z survivor)
      ∙ ap (λ (es : List Entry). es ++ e ∷ []) (sym (survivor_image d core p opened z survivor))

  images_other : (s : ℕ) → (s ≡ z → ⊥) → images_of x s ≡ images_of d s
  images_other s other = same_among d.head d.closed x.closed s (with_other d.closed z e true s other)

  images_then : (s : ℕ) → images_of x s ≡ grown (images_of d) z e s
  images_then s = go (s == z) refl where
    go : (t : Bool) → (s == z) ≡ t → images_of x s ≡ grown (images_of d) z e s
    go true here = let same = eqb-true s z here in rw here (ap (images_of x) same ∙ images_own)
    go false away = rw away (images_other s (eqb-false s z away))

  grow : Grow (images_of d) (images_of x)
  grow s = go (s == z) refl where
    go : (t : Bool) → (s == z) ≡ t → (more : List Entry) × (images_of x s ≡ images_of d s ++ more)
    go true here =
        let same = eqb-true s z here in
        (e ∷ [], ap (images_of x) same ∙ images_own ∙ ap (λ (y : ℕ). images_of d y ++ e ∷ []) (sym same))
    go false away = ([], images_other s (eqb-false s z away) ∙ sym (append-nil (images_of d s)))

  -- where the copy lies
  lies_to : IsAtPlace (images_of x) to e
  lies_to = record {
    before = images_of d z;
    after = [];
    split = images_own;
    offset = len_is d.closed z ∙ ap (λ (es : List Entry). length (text_of es))
        (sym (survivor_image d core p opened z survivor));
  }

  to_place : entry_place x to ≡ next_place (images_of d) z
  unfolding lies_to
  to_place =
      let at = position_is (images_of x z) to.at e (each_of x then_core z) lies_to in
      λ i. record { segment = z; position = at i }

  -- what is named where it was is found there, and the object of the copy where that lies
  index_as : (k : Key) → ((w : Place) → keys_in (images_of d) w ≡ Some k
      → names d.index k w ≡ true → names x.index k w ≡ true) → (memory_of x).index k ≡ (memory_of d).index k
  index_as k named = index_then d x core then_core (λ j. refl) grow k named

  index_to : (o : Object) → e ≡ entry.Object o → names x.index o.key to ≡ true
      → (memory_of x).index o.key ≡ Some (next_place (images_of d) z)
  index_to o is named =
      let stands = subst (λ (y : Entry). IsAtPlace (images_of x) to y) is lies_to in
      let key = key_seen (images_of x) (each_of x then_core) to o.key
      (record { version = o.version; value = o.value }) stands in
      let found = named_found (keys_in (images_of x)) o.key to key x.index then_core.index.kept named in
      ap (option_map (entry_place x)) found ∙ ap (λ (w : EntryPlace). Some w) to_place

index_kept : (d : MasterData) (core : IsCore d) (p : Pass) (opened : d.pass ≡ Some p) (z : ℕ)
    (survivor : IsAmong z (survivor_ids p.survivors)) (u : Place) (e : Entry) (q : Pass)
    (then_core : IsCore (copied_data d z u e q)) → IsAtPlace (images_of d) u e
    → is_kept (log_set_ids d) d.index u e ≡ true
    → (k : Key) → (memory_of (copied_data d z u e q)).index k ≡ index_moved (memory_of d) z e k
index_kept d core p opened z survivor u (entry.Header h) q then_core l is k =
    index_as d core p opened z survivor u (entry.Header h) q then_core k (λ w key named. named)
index_kept d core p opened z survivor u (entry.Digest ids) q then_core l is k =
    index_as d core p opened z survivor u (entry.Digest ids) q then_core k (λ w key named. named)
index_kept d core p opened z survivor u (entry.Safe version) q then_core l is k =
    index_as d core p opened z survivor u (entry.Safe version) q then_core k (λ w key named. named)
index_kept d core p opened z survivor u (entry.Tombstone t) q then_core l is k =
    index_as d core p opened z survivor u (entry.Tombstone t) q then_core k (λ w key named. named)
index_kept d core p opened z survivor u (entry.Object o) q then_core l is k =
    elim (key_eq-tells k o.key) as (λ _. (memory_of x).index k
    ≡ index_moved (memory_of d) z (entry.Object o) k) [
      | inl t ↦ (let yes = t.0 in rw yes (ap (memory_of x).index t.1 ∙ there))
      | inr n ↦ (let no = n.0 in rw no (index_as d core p opened z survivor u (entry.Object o) q then_core k
          (λ w key named. still n.1 w key named)))
    ]
  where
    x : MasterData
    x = copied_data d z u (entry.Object o) q

    there : (memory_of (copied_data d z u (entry.Object o) q)).index o.key ≡ Some (next_place (images_of d) z)
    there =
        index_to d core p opened z survivor u (entry.Object o) q then_core o refl
        (names_moved o.key u (copy_place z d.closed) d.index is)

    still : (k ≡ o.key → ⊥) → (w : Place) → keys_in (images_of d) w ≡ Some k
        → names d.index k w ≡ true → names (copied_data d z u (entry.Object o) q).index k w ≡ true
    still differ w key named =
        names_still o.key k u (copy_place z d.closed) w other d.index named
      where
        other : w ≡ u → ⊥
        other same =
            let own = key_seen (images_of d) (each_of d core) u o.key
            (record { version = o.version; value = o.value }) l in
            differ (same_Some k o.key (sym key ∙ ap (keys_in (images_of d)) same ∙ own))

-- ---- the memory then

module _ (d : MasterData) (core : IsCore d) (p : Pass) (opened : d.pass ≡ Some p) (u : Place) (later : List Place)
    (first : rest_of (images_in d.closed) p ≡ u ∷ later) (e : Entry) (q : Pass)
    (pass_is : q ≡ record p { cursor = q.cursor; filling = q.filling }) where
  victim_rest : (w : Place) → IsAmong w later → IsAmong w.segment p.victims
  victim_rest w among =
      among_drop p.cursor.victim p.victims w.segment
      (on_segment (images_in d.closed) (drop p.cursor.victim p.victims) p.cursor.at w
      (subst (λ (ps : List Place). IsAmong w ps) (sym first) (inr among)))

  same_ids : ids_of (Some q) ≡ ids_of d.pass
  same_ids = ap (λ (r : Pass). ids_of (Some r)) pass_is ∙ ap ids_of (sym opened)

  same_commits : q.is_committing ≡ option_map_or (λ (r : Pass). r.is_committing) d.pass false
  same_commits =
      ap (λ (r : Pass). r.is_committing) pass_is ∙ ap (λ (o : Option Pass). option_map_or
      (λ (r : Pass). r.is_committing) o false) (sym opened)

  -- the entry was passed over
  agree_dropped : rest_of (images_in d.closed) q ≡ later
      → Agree (log_of d) (record (memory_of d) { rest = map (entry_place d) later })
      (memory_of (record d { pass = Some q }))
  agree_dropped left = record {
    pass = same_ids;
    images = λ s. refl;
    index = λ k. refl;
    rest = λ w y victim stands data_is coming. subst (λ (ps : List Place). IsAmong w (map (entry_place d) ps))
        (sym left) coming;
    done = λ none. ap (map (entry_place d)) left ∙ none;
    commits = same_commits;
    waiting = λ w waits. waits;
  }

  -- it was copied
  module _ (z : ℕ) (survivor : IsAmong z (survivor_ids p.survivors)) (l : IsAtPlace (images_of d) u e)
      (is : is_kept (log_set_ids d) d.index u e ≡ true) (then_core : IsCore (copied_data d z u e q))
      (left : rest_of (images_in (changed d.closed z (with_unit (e ∷ [])))) q ≡ later) where
    same_place : (w : Place) → IsAmong w later → entry_place (copied_data d z u e q) w ≡ entry_place d w
    same_place w among =
        let lt = below_survivor d core p opened z survivor w.segment (victim_rest w among) in
        let same = images_other d core p opened z survivor u e q then_core w.segment (λ is. omega (arith, is, lt)) in
        λ i. record { segment = w.segment; position = position_of (same i) w.at }

    same_rest : (memory_of (copied_data d z u e q)).rest ≡ map (entry_place d) later
    same_rest =
        ap (map (entry_place (copied_data d z u e q))) left
        ∙ maps_same (entry_place (copied_data d z u e q)) (entry_place d) later same_place

    agree_kept : Agree (log_of d) (with_copy (memory_of d) (map (entry_place d) later) z e)
        (memory_of (copied_data d z u e q))
    agree_kept = record {
      pass = same_ids;
      images = λ s. images_then d core p opened z survivor u e q then_core s;
      index = index_kept d core p opened z survivor u e q then_core l is;
      rest = λ w y victim stands data_is coming. subst (λ (ps : List EntryPlace). IsAmong w ps) (sym same_rest) coming;
      done = λ none. same_rest ∙ none;
      commits = same_commits;
      waiting = λ w waits. waits;
    }

-- ---- a copy

module _ (d e : MasterData) (f : FleetState) (answer : StepAnswer) (kept : IsWellKept d f) (is : Copies d answer e)
    (core : IsCore e) where
  abbrev p : Pass
  p = is.pass

  abbrev u : Place
  u = is.treats.place

  -- the survivor that is filled
  abbrev z : ℕ
  z = target is.pass is.after

  among : IsAmong (target is.pass is.after) (survivor_ids is.pass.survivors)
  among = id_among is.pass.survivors.first is.pass.survivors.count is.after.filling is.treats.within

  abbrev rest : List EntryPlace
  rest = map (entry_place d) is.treats.later

  lies : IsAtPlace (images_of d) is.treats.place is.treats.entry
  lies =
      subst (λ (es : List Entry). LiesAt es is.treats.place.at is.treats.entry)
      (sym (victim_image d kept.core is.pass is.opened is.treats.place.segment is.treats.victim)) is.treats.stands

  may : MayCopy (log_of d) (memory_of d) (entry_place d is.treats.place) rest (target is.pass is.after) is.treats.entry
  may = record {
    cursor = ap (map (entry_place d)) (rest_is d kept.core is.pass is.opened ∙ is.treats.first);
    victim = subst (λ (o : Option Pass). IsAmong is.treats.place.segment (victims_of o))
        (sym is.opened) is.treats.victim;
    survivor = subst (λ (o : Option Pass). IsAmong (target is.pass is.after) (survivors_of o)) (sym is.opened) among;
    at = stands_by_entries (images_of d is.treats.place.segment) is.treats.place.at is.treats.entry
        (each_of d kept.core is.treats.place.segment) lies;
  }

  step : (d.is_halted ≡ false) × (d.failover ≡ None)
  step = calm_parts d (passes_first (step_refusal d) _ is.passed).0

  holds_if : (t : Bool) → is_kept (log_set_ids d) d.index is.treats.place is.treats.entry ≡ t
      → HoldsAll (log_of d)
      (if t then with_copy (memory_of d) rest (target is.pass is.after) is.treats.entry
      else record (memory_of d) { rest = rest }) f
  holds_if t test =
      subst (λ (b : Bool). HoldsAll (log_of d)
      (if b then with_copy (memory_of d) rest (target is.pass is.after) is.treats.entry
      else record (memory_of d) { rest = rest }) f)
      (copied_is_kept d kept.core step.1 is.treats.place is.treats.entry lies is.treats.of_data ∙ test)
      (copy_holds_all (log_of d) (memory_of d) f (entry_place d is.treats.place) rest (target is.pass is.after)
      is.treats.entry (kept.known step.0) may)

  holds_then : (t : Bool) → is_kept (log_set_ids d) d.index is.treats.place is.treats.entry ≡ t
      → HoldsAll (log_of e) (memory_of e) f
  holds_then true test =
      subst (λ (y : MasterData). HoldsAll (log_of y) (memory_of y) f) (sym whole)
      (agreeing_holds (log_of d) (with_copy (memory_of d) rest (target is.pass is.after) is.treats.entry)
      (memory_of (copied_data d (target is.pass is.after) is.treats.place is.treats.entry is.after)) f
      (holds_if true test)
      (agree_kept d kept.core is.pass is.opened is.treats.place is.treats.later is.treats.first is.treats.entry
      is.after is.treats.pass (target is.pass is.after) among lies test (subst IsCore whole core) left))
    where
      closed_is : e.closed ≡ changed d.closed (target is.pass is.after) (with_unit (is.treats.entry ∷ []))
      closed_is =
          is.treats.survivor
          ∙ ap (λ (b : Bool). images_with b (target is.pass is.after) is.treats.entry d.closed) test

      index_is : e.index
          ≡ moved_one is.treats.place (copy_place (target is.pass is.after) d.closed) is.treats.entry d.index
      index_is =
          is.treats.index
          ∙ ap (λ (b : Bool). held_with b is.treats.place (copy_place (target is.pass is.after) d.closed)
          is.treats.entry d.index) test

      whole : e ≡ copied_data d (target is.pass is.after) is.treats.place is.treats.entry is.after
      whole = is.rest ∙ (λ i. record d { closed = closed_is i; index = index_is i; pass = Some is.after })

      left : rest_of (images_in (changed d.closed (target is.pass is.after) (with_unit (is.treats.entry ∷ []))))
          is.after ≡ is.treats.later
      left = ap (λ (cs : List Image). rest_of (images_in cs) is.after) (sym closed_is) ∙ is.treats.rest
  holds_then false test =
      subst (λ (y : MasterData). HoldsAll (log_of y) (memory_of y) f) (sym whole)
      (agreeing_holds (log_of d) (record (memory_of d) { rest = rest })
      (memory_of (record d { pass = Some is.after })) f
      (holds_if false test)
      (agree_dropped d kept.core is.pass is.opened is.treats.place is.treats.later is.treats.first is.treats.entry
      is.after is.treats.pass left))
    where
      closed_is : e.closed ≡ d.closed
      closed_is =
          is.treats.survivor
          ∙ ap (λ (b : Bool). images_with b (target is.pass is.after) is.treats.entry d.closed) test

      index_is : e.index ≡ d.index
      index_is =
          is.treats.index
          ∙ ap (λ (b : Bool). held_with b is.treats.place (copy_place (target is.pass is.after) d.closed)
          is.treats.entry d.index) test

      whole : e ≡ record d { pass = Some is.after }
      whole = is.rest ∙ (λ i. record d { closed = closed_is i; index = index_is i; pass = Some is.after })

      left : rest_of (images_in d.closed) is.after ≡ is.treats.later
      left = ap (λ (cs : List Image). rest_of (images_in cs) is.after) (sym closed_is) ∙ is.treats.rest

  placed : IsPlaced e
  placed = placed_same d e (record {
    config = ap (λ (x : MasterData). x.config) is.rest;
    failed = ap (λ (x : MasterData). x.failed) is.rest;
    failover = ap (λ (x : MasterData). x.failover) is.rest;
    ledger = ap (λ (x : MasterData). x.ledger) is.rest;
    id = ap (λ (x : MasterData). x.head.id) is.rest;
    replicas = ap (λ (x : MasterData). x.head.replicas) is.rest;
    taken = ap (λ (x : MasterData). x.head.taken) is.rest;
    roll = ap (λ (x : MasterData). x.head.roll) is.rest;
    units = λ opens. ap (λ (x : MasterData). x.head.units) is.rest;
    closed = subst (AreSame d.closed) (sym is.treats.survivor)
        (copied_same d.closed z is.treats.entry (is_kept (log_set_ids d) d.index is.treats.place is.treats.entry));
  }) kept.placed

  pub copied_kept : IsWellKept e f
  copied_kept =
      well_kept e f (unhanded_kept d e f (kept_as d f kept step.0) core placed
      (ap (λ (y : MasterData). y.config) is.rest)
      (ap (λ (y : MasterData). y.waiting) is.rest)
      (holds_then (is_kept (log_set_ids d) d.index is.treats.place is.treats.entry) refl))
