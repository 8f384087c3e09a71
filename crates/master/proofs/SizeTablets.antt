-- The sizes of a master's live objects lie in its tablets.
use Rattle.std.proofs.Common.{◌≡◌, ℕ, true, false, List, [], ◌∷◌, map, refl, sym, ap, subst, ◌∙◌, ◌⊎◌, inl, inr, Bool}
use Rattle.std.specs.Prelude.{Some, None, Result, Ok, Err, IfOk}
use Rattle.std.specs.List.{list_all}
use Rattle.std.proofs.lemmas.Bool.{and_from}
use Rattle.std.proofs.lemmas.List.Sorted.{IsPermutation-sym}
use Rattle.entry.specs.declared.entry.Object.{Object}
use Rattle.entry.specs.declared.key.Key.{Key}
use Rattle.entry.specs.declared.tablet.Size.{Size}
use Rattle.entry.specs.declared.tablet.Tablet.{Tablet}
use Rattle.entry.specs.Bag.{IsAmong}
use Rattle.entry.specs.declared.entry.Entry.{Entry}
use Rattle.entry.specs.Meaning.{IsOfKey, Versioned, Contents, versioned, object_at, contents_of}
use Rattle.entry.specs.Tablet.{have_key}
use Rattle.entry.proofs.BagLemmas.{among_permutation, among_images}
use Rattle.replica.specs.Picture.{FleetState}
use Rattle.tablet_will.specs.Parts.{is_in_one}
use Rattle.tablet_will.specs.Sizes.{are_in_order, are_sizes}
use Rattle.log_head.specs.log_laws.Ids.{has}
use Rattle.master_core.proofs.log_laws.KeptEntries.{is_has, has_is}
use Rattle.master_core.proofs.log_laws.ImageLists.{among_at}
use Rattle.master_core.specs.log_laws.Data.{FailData, state_of}
use Rattle.master_core.specs.log_memory.Fleet.{read_of, KeepsAll}
use Rattle.master_core.specs.log_memory.Intact.{IsIntact}
use Rattle.master_core.specs.log_memory.Memory.{FailMemory, log_ids}
use Rattle.master_core.specs.master_state.Data.{MasterData}
use Rattle.master_core.specs.master_state.Log.{log_of, memory_of, state_now}
use Rattle.master_core.specs.master_state.Sizes.{size_of, AreSizesOf}
use Rattle.master_core.proofs.master_space.LiveObjects.{IsAway, key_among}
use Rattle.master.specs.Invariant.{IsWellKept}

-- ---- the keys of the map

module _ (d : FailData) (m : FailMemory) (f : FleetState) (keeps : KeepsAll d m f) where
  abbrev i : IsIntact d m (read_of d f)
  i = keeps.intact

  -- what an image has of a key its text has, which has keys of the tablets alone; a survivor's is a victim's
  image_key : (s : ℕ) (e : Entry) (k : Key) → IsAmong s (log_ids d m) → (IsAmong s m.pass.survivors → ⊥) → IsOfKey k e
      → IsAmong e (m.images s) → have_key d.config.tablets k ≡ true
  image_key s e k counts no_survivor at among =
      i.log.held.logged.keys s (i.log.texts.text s).entries (inl refl) e k
      (i.around.texted s e k counts no_survivor at among) at

  any_key : (s : ℕ) (e : Entry) (k : Key) → IsAmong s (log_ids d m) → IsOfKey k e → IsAmong e (m.images s)
      → have_key d.config.tablets k ≡ true
  any_key s e k counts at among = go (has m.pass.survivors s) refl where
    go : (t : Bool) → has m.pass.survivors s ≡ t → have_key d.config.tablets k ≡ true
    go true is =
        let there = i.passing.copies s e k (is_has m.pass.survivors s is) among at in
        image_key there.0 e k (i.passing.victims_count there.0 there.1.counts)
        (λ survivor. i.passing.disjoint there.0 survivor there.1.counts) at there.1.among
    go false is = image_key s e k counts
        (λ survivor. (let never = sym (has_is m.pass.survivors s survivor) ∙ is in cc)) at among

  -- each key of the map is of the master's tablets
  pub map_keys : (k : Key) (x : Versioned) → (state_of d).contents k ≡ Some x → have_key d.config.tablets k ≡ true
  map_keys k x has =
      let there = i.tracked.found k x has in
      any_key there.place.segment (object_at k x) k there.counts refl
      (among_at (m.images there.place.segment) there.place.position (object_at k x) there.stands)

-- ---- sizes

all_listed : (test : Size → Bool) (ss : List Size) → ((s : Size) → IsAmong s ss → test s ≡ true)
    → list_all test ss ≡ true
all_listed test [] each = refl
all_listed test (s ∷ ss) each =
    and_from (test s) (list_all test ss) (each s (inl refl)) (all_listed test ss (λ r m. each r (inr m)))

-- sizes of objects whose keys are of the tablets
sizes_are : (ts : List Tablet) (contents : Contents) → ((k : Key) (x : Versioned) → contents k ≡ Some x
    → have_key ts k ≡ true)
    → (ss : List Size) → AreSizesOf contents ss → are_sizes ts ss ≡ true
sizes_are ts contents keys ss are =
    and_from (are_in_order ss) (list_all (λ (s : Size). is_in_one ts s.table s.place) ss) are.order
    (all_listed (λ (s : Size). is_in_one ts s.table s.place) ss each)
  where
    key_in : (o : Object) → IsAmong o are.objects → have_key ts o.key ≡ true
    key_in o m = go (key_among are.objects o.key)
      where
        go : ((q : Object) × IsAmong q are.objects × (q.key ≡ o.key)
            × (contents_of are.objects o.key ≡ Some (versioned q)))
            ⊎ (IsAway o.key are.objects × (contents_of are.objects o.key ≡ None)) → have_key ts o.key ≡ true
        go (inl there) = keys o.key (versioned there.0) (ap (λ (c : Contents). c o.key) (sym are.all) ∙ there.3)
        go (inr none) = absurd (none.0 o m refl)

    each : (s : Size) → IsAmong s ss → is_in_one ts s.table s.place ≡ true
    each s m =
        let there =
        among_images size_of are.objects s
        (among_permutation s ss (map size_of are.objects) (IsPermutation-sym
        (map size_of are.objects) ss are.of_objects) m) in
        subst (λ (r : Size). is_in_one ts r.table r.place ≡ true) there.2 (key_in there.0 there.1)

-- what a master answers
pub in_tablets : {V E : Type 0} (items : V → List Size) (d : MasterData) (f : FleetState) → IsWellKept d f
    → (r : Result V E)
    → IfOk r (λ (v : V). AreSizesOf (state_now d).contents (items v))
    → IfOk r (λ (v : V). are_sizes d.config.tablets (items v) ≡ true)
in_tablets items d f kept (Ok v) are =
    sizes_are d.config.tablets (state_now d).contents (map_keys (log_of d) (memory_of d) f kept.kept) (items v) are
in_tablets items d f kept (Err e) are = tt
