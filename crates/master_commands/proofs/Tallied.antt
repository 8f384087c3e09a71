-- What is counted of segments stays right as a command changes its key, and as an object is loaded.
use Rattle.std.proofs.Common.{◌≡◌, ℕ, ◌+◌, ◌≤◌, inl, Bool, true, false, ◌==◌, ◌||◌, List, [], ◌∷◌, ◌++◌, length}
use Rattle.std.proofs.Common.{refl, sym, ap, subst, ◌∙◌, arith, if◌then◌else◌}
use Rattle.std.specs.Prelude.{Option, Some, None, unwrap_or, is_some}
use Rattle.std.specs.List.{AllByRecursion}
use Rattle.std.specs.Option.{option_map, option_to_list}
use Rattle.std.proofs.lemmas.Bool.{eqb-true, eq-eqb, or_left, or_right}
use Rattle.std.proofs.lemmas.List.{append-nil, length-append}
use Rattle.std.proofs.lemmas.List.Folds.{list_any-append}
use Rattle.std.proofs.lemmas.Option.{same_Some}
use Rattle.entry.specs.declared.entry.Entry.{Entry}
use Rattle.entry.specs.declared.entry.Entry.TheVariants as entry
use Rattle.entry.specs.declared.entry.Object.{Object}
use Rattle.entry.specs.declared.entry.Tombstone.{Tombstone}
use Rattle.entry.specs.declared.key.Key.{Key}
use Rattle.entry.specs.Bag.{IsAmong}
use Rattle.entry.specs.Format.{IsEntry, spelling}
use Rattle.entry.specs.Meaning.{Contents, Versioned, object_at, versioned}
use Rattle.entry.specs.Text.{text_of}
use Rattle.entry.proofs.BagLemmas.{among_right}
use Rattle.entry.proofs.SpellingLemmas.{length-object, length-tombstone}
use Rattle.images.specs.Image.{Image}
use Rattle.images.specs.Sorted.{segment_of}
use Rattle.places.specs.declared.place.Place.{Place}
use Rattle.places.specs.Map.{Places, found, AreKept, IsSet}
use Rattle.places.specs.Relocation.{names}
use Rattle.places.proofs.Finding.{key_itself}
use Rattle.places.proofs.Words.{found_named}
use Rattle.segment.proofs.RowLemmas.{text_of-append}
use Rattle.log_head.specs.declared.head.Roll.{Roll}
use Rattle.log_head.specs.Head.{HeadValue, IsHeadValue}
use Rattle.tally.specs.declared.tallies.Tally.{Tally}
use Rattle.tally.specs.Live.{live_from, stone_bytes}
use Rattle.tally.specs.Right.{IsAppended}
use Rattle.tally.specs.Rows.{more, less, AreRight, IsChangedAt}
use Rattle.tally.proofs.Rights.{stay_right, create_is_right, replace_is_right}
use Rattle.versioned_map.specs.Command.{command_key}
use Rattle.versioned_map.specs.declared.command.Command.{Command}
use Rattle.versioned_map.specs.declared.command.Command.TheVariants.{Get, Put, Delete}
use Rattle.versioned_map.specs.Units.{tombstone_entry}
use Rattle.master_state.specs.cleaner.Passes.{ids_in as log_ids}
use Rattle.master_state.specs.compactor.Kept.{has_id}
use Rattle.master_state.specs.compactor.Places.{IsAtPlace, keys_in}
use Rattle.master_state.specs.Data.{MasterData}
use Rattle.master_state.specs.Images.{images_among, new_image_or}
use Rattle.master_state.specs.Invariant.{AreTallied, IsCore}
use Rattle.master_state.specs.Live.{bytes_of, object_bytes}
use Rattle.master_state.specs.Log.{images_of, log_set_ids, state_now}
use Rattle.master_state.proofs.Finding.{each_among, index_of}
use Rattle.master_state.proofs.Imaging.{ids_in, same_id, other_id, head_images, appended_grow, appended_own}
use Rattle.master_state.proofs.Imaging.{appended_other}
use Rattle.master_state.proofs.Indexing.{Grow, Indexes, found_lies, found_grown, kept_grown, key_seen}
use Rattle.master_state.proofs.PassIds.{is_there}
use Rattle.master_commands.specs.Change.{unit_of_change, had_now, BeginsAt, IsChangeOf, IsChangeNow}
use Rattle.master_commands.specs.Counts.{IsCounted}
use Rattle.master_commands.specs.declared.change.Change.{Change}
use Rattle.master_commands.specs.declared.change.Change.TheVariants as change
use Rattle.master_commands.proofs.Changes.{clashes}
use Rattle.master_commands.proofs.Indexed.{IsMovedBy, IsPut, WasFound, put_stands}

-- ---- which segments have images

closed_has : (cs : List Image) (s : ℕ) (e : Entry) → IsAmong e (unwrap_or (segment_of cs s) [])
    → has_id (ids_in cs) s ≡ true
closed_has cs s e m = is_there cs s ∙ go (segment_of cs s) m where
  go : (o : Option (List Entry)) → IsAmong e (unwrap_or o []) → is_some o ≡ true
  go None m = absurd m
  go (Some es) m = refl

-- a segment that has an entry is of the log
pub imaged_has : (d : MasterData) (s : ℕ) (e : Entry) → IsAmong e (images_of d s) → has_id (log_set_ids d) s ≡ true
imaged_has d s e m =
    list_any-append (λ (z : ℕ). z == s) (ids_in d.closed)
    (d.head.id ∷ option_to_list (option_map (λ (r : Roll). r.id) d.head.roll))
    ∙ by_head (d.head.id == s) refl m
  where
    rolled : Option Roll → Bool
    rolled o = has_id (option_to_list (option_map (λ (r : Roll). r.id) o)) s

    by_roll : (o : Option Roll) → IsAmong e (unwrap_or (new_image_or o s (segment_of d.closed s)) [])
        → (has_id (ids_in d.closed) s || rolled o) ≡ true
    by_roll None m = or_left (has_id (ids_in d.closed) s) false (closed_has d.closed s e m)
    by_roll (Some r) m = go (r.id == s) refl m where
      go : (t : Bool) → (r.id == s) ≡ t → IsAmong e (unwrap_or (new_image_or (Some r) s (segment_of d.closed s)) [])
          → (has_id (ids_in d.closed) s || rolled (Some r)) ≡ true
      go true is m = or_right (has_id (ids_in d.closed) s) (rolled (Some r)) (or_left (r.id == s) false is)
      go false is m = or_left (has_id (ids_in d.closed) s) (rolled (Some r)) (closed_has d.closed s e (rw is at m))

    by_head : (t : Bool) → (d.head.id == s) ≡ t → IsAmong e (images_of d s)
        → (has_id (ids_in d.closed) s || ((d.head.id == s) || rolled d.head.roll)) ≡ true
    by_head true is m = or_right (has_id (ids_in d.closed) s) ((d.head.id == s) || rolled d.head.roll)
        (or_left (d.head.id == s) (rolled d.head.roll) is)
    by_head false is m = rw is (by_roll d.head.roll (rw is at m))

-- ---- an object at its place

-- the bytes of an object that the index names at an offset
one_lives : (held : Places) (segment at : ℕ) (o : Object)
    → names held o.key (record { segment = segment; at = at }) ≡ true
    → live_from held segment at (entry.Object o ∷ []) ≡ object_bytes o.key o.value
one_lives held segment at o named =
    ap (λ (b : Bool). (if b then length (spelling (entry.Object o)) else 0) + 0) named
    ∙ (let len = length-object o in omega arith)

-- and those that it has behind a tombstone
behind_lives : (held : Places) (segment at : ℕ) (t : Tombstone) (o : Object)
    → names held o.key (record { segment = segment; at = at + length (spelling (entry.Tombstone t)) }) ≡ true
    → live_from held segment at (entry.Tombstone t ∷ entry.Object o ∷ []) ≡ object_bytes o.key o.value
behind_lives held segment at t o named =
    let rest = one_lives held segment (at + length (spelling (entry.Tombstone t))) o named in
    omega (arith, rest)

-- the bytes of a tombstone that names a segment of the log
stone_counts : (ids : List ℕ) (t : Tombstone) (rest : List Entry) → has_id ids t.segment ≡ true
    → stone_bytes ids rest ≡ 0 → stone_bytes ids (entry.Tombstone t ∷ rest) ≡ 27 + length t.key.bytes
stone_counts ids t rest of_log none =
    (λ i. (if of_log i then length (spelling (entry.Tombstone t)) else 0) + none i)
    ∙ (let len = length-tombstone t in omega arith)

module _ (ids : List ℕ) (images grown : ℕ → List Entry) (grow : Grow images grown)
    (each : (s : ℕ) → AllByRecursion IsEntry (grown s)) (p : Place) (hs new : Places) (contents : Contents)
    (index : Indexes images hs contents) (others : (s : ℕ) → (s ≡ p.segment → ⊥) → grown s ≡ images s) where
  abbrev Ends : List Entry → Type 0
  Ends unit = grown p.segment ≡ images p.segment ++ unit

  -- where the head ended
  abbrev end : ℕ
  end = length (text_of (images p.segment))

  kept : AreKept (keys_in grown) hs
  kept = kept_grown images grown grow each hs contents index

  -- ---- what is appended

  front_len : (front : List Entry) → length (text_of (images p.segment ++ front)) ≡ end + length (text_of front)
  front_len front =
      ap length (text_of-append (images p.segment) front) ∙ length-append (text_of (images p.segment)) (text_of front)

  -- the key gets this place
  appended_put : (unit front : List Entry) → Ends unit → p.at ≡ length (text_of (images p.segment ++ front))
      → IsAppended images grown p.segment unit (Some p)
  appended_put unit front ends at = record { grown = ends; others = others; place = behind } where
    behind : (q : Place) → Some p ≡ Some q → (q.segment ≡ p.segment) × (end ≤ q.at)
    behind q is =
        let within : end ≤ p.at = (let len = front_len front in omega arith) in
        subst (λ (r : Place). (r.segment ≡ p.segment) × (end ≤ r.at)) (same_Some p q is) (refl, within)

  -- and here it gets none
  appended_none : (unit : List Entry) → Ends unit → IsAppended images grown p.segment unit None
  appended_none unit ends = record { grown = ends; others = others; place = λ q is. absurd (cc) }

  -- the place is named for the key that it was set for
  named_at : (k : Key) (at : ℕ) → IsSet (keys_in grown) hs k (Some p) new → p.at ≡ at
      → names new k (record { segment = p.segment; at = at }) ≡ true
  named_at k at set here =
      subst (λ (n : ℕ). names new k (record { segment = p.segment; at = n }) ≡ true) here
      (found_named (keys_in grown) k p new set.kept
      (set.finds k ∙ ap (λ (b : Bool). if b then Some p else found (keys_in grown) k hs) (key_itself k)))

  -- the key's new object is seen there
  seen_put : (x : Versioned) (k : Key) (front : List Entry) → p.at ≡ length (text_of (images p.segment ++ front))
      → Ends (front ++ object_at k x ∷ []) → keys_in grown p ≡ Some k
  seen_put x k front at ends =
      key_seen grown each p k x
      (put_stands images grown grow each p 0 hs new contents 0 index front
      (record { key = k; version = x.version; value = x.value }) at ends)

  -- ---- no key changes

  stays : (rows next : List Tally) → Ends [] → new ≡ hs → next ≡ rows → AreRight ids hs images rows
      → AreRight ids new grown next
  stays rows next ends same_index same_rows right =
      subst (λ (held : Places). AreRight ids held grown next) (sym same_index)
      (subst (λ (list : List Tally). AreRight ids hs grown list) (sym same_rows)
      (stay_right ids ids hs images grown rows (λ s. inl (same s)) (λ s t m. refl) right))
    where
      same : (s : ℕ) → grown s ≡ images s
      same s = go (s == p.segment) refl where
        go : (t : Bool) → (s == p.segment) ≡ t → grown s ≡ images s
        go true is =
            subst (λ (z : ℕ). grown z ≡ images z) (sym (eqb-true s p.segment is))
            (ends ∙ append-nil (images p.segment))
        go false away = others s (λ here. let so : (s == p.segment) ≡ true = eq-eqb s p.segment here in absurd (cc))

  -- ---- an absent key gets an object

  pub created : (o : Object) (rows next : List Tally) → p.at ≡ end → Ends (entry.Object o ∷ [])
      → (AreKept (keys_in grown) hs → keys_in grown p ≡ Some o.key → IsSet (keys_in grown) hs o.key (Some p) new)
      → found (keys_in grown) o.key hs ≡ None
      → IsChangedAt p.segment (more (object_bytes o.key o.value) 0) rows next
      → AreRight ids hs images rows → AreRight ids new grown next
  created o rows next at ends moved absent counted right =
      let unit : List Entry = entry.Object o ∷ [] in
      let at_front : p.at ≡ length (text_of (images p.segment ++ [])) =
      at ∙ ap (λ (es : List Entry). length (text_of es)) (sym (append-nil (images p.segment))) in
      let set = moved kept (seen_put (versioned o) o.key [] at_front ends) in
      create_is_right ids (keys_in grown) hs new o.key (Some p) images grown p.segment unit
      (object_bytes o.key o.value) 0 rows next
      (record {
        all = kept;
        set = set;
        appended = appended_put unit [] ends at_front;
        grows = record { objects = one_lives new p.segment end o (named_at o.key end set at); tombstones = refl };
        none = absent;
      }) counted right

  -- ---- the object of a key dies

  module _ (was : Place) (k : Key) (is : found (keys_in grown) k hs ≡ Some was)
      (was_has : (o : Object) → IsAtPlace images was (entry.Object o) → has_id ids was.segment ≡ true) where
    lies : (v : Versioned) × (contents k ≡ Some v) × IsAtPlace images was (object_at k v)
    lies = found_lies images k (found (keys_in images) k hs) (contents k) (index.lies k) was
        (sym (found_grown images grown grow each hs contents index k) ∙ is)

    abbrev dead : Object
    dead = record { key = k; version = lies.0.version; value = lies.0.value }

    was_logged : has_id ids was.segment ≡ true
    was_logged = was_has dead lies.2

    died : (had : ℕ) (rows mid : List Tally) → had ≡ bytes_of k (contents k)
        → IsChangedAt was.segment (less had) rows mid
        → IsChangedAt was.segment (less (length (spelling (entry.Object dead)))) rows mid
    died had rows mid same lowered =
        subst (λ (n : ℕ). IsChangedAt was.segment (less n) rows mid)
        (same ∙ ap (bytes_of k) lies.1 ∙ sym (length-object dead)) lowered

    -- and another one lives behind its tombstone
    replaced : (version given had : ℕ) (value : List ℕ) (rows mid next : List Tally)
        → p.at ≡ length (text_of (images p.segment ++ tombstone_entry k version was.segment ∷ []))
        → Ends (tombstone_entry k version was.segment ∷ object_at k (record { version = given; value = value }) ∷ [])
        → IsSet (keys_in grown) hs k (Some p) new → had ≡ bytes_of k (contents k)
        → IsChangedAt was.segment (less had) rows mid
        → IsChangedAt p.segment (more (object_bytes k value) (27 + length k.bytes)) mid next
        → AreRight ids hs images rows → AreRight ids new grown next
    replaced version given had value rows mid next at ends set same lowered counted right =
        let t : Tombstone = record { key = k; version = version; segment = was.segment } in
        let o : Object = record { key = k; version = given; value = value } in
        let unit : List Entry = entry.Tombstone t ∷ entry.Object o ∷ [] in
        let one : length (text_of (entry.Tombstone t ∷ [])) ≡ length (spelling (entry.Tombstone t)) + 0 =
        length-append (spelling (entry.Tombstone t)) [] in
        let here : p.at ≡ end + length (spelling (entry.Tombstone t)) =
        (let len = front_len (entry.Tombstone t ∷ []) in omega arith) in
        replace_is_right ids (keys_in grown) hs new k (Some p) images grown p.segment unit (object_bytes k value)
        (27 + length k.bytes) was dead rows mid next
        (record {
          all = kept;
          set = set;
          appended = appended_put unit (entry.Tombstone t ∷ []) ends at;
          grows = record {
            objects = behind_lives new p.segment end t o
                (named_at k (end + length (spelling (entry.Tombstone t))) set here);
            tombstones = stone_counts ids t (entry.Object o ∷ []) was_logged refl;
          };
          is = is;
          lies = lies.2;
          key = refl;
        }) (died had rows mid same lowered) counted right

    deleted : (version had : ℕ) (rows mid next : List Tally) → Ends (tombstone_entry k version was.segment ∷ [])
        → IsSet (keys_in grown) hs k None new → had ≡ bytes_of k (contents k)
        → IsChangedAt was.segment (less had) rows mid
        → IsChangedAt p.segment (more 0 (27 + length k.bytes)) mid next
        → AreRight ids hs images rows → AreRight ids new grown next
    deleted version had rows mid next ends set same lowered counted right =
        let t : Tombstone = record { key = k; version = version; segment = was.segment } in
        let unit : List Entry = entry.Tombstone t ∷ [] in
        replace_is_right ids (keys_in grown) hs new k None images grown p.segment unit 0
        (27 + length k.bytes) was dead rows mid next
        (record {
          all = kept;
          set = set;
          appended = appended_none unit ends;
          grows = record { objects = refl; tombstones = stone_counts ids t [] was_logged refl };
          is = is;
          lies = lies.2;
          key = refl;
        }) (died had rows mid same lowered) counted right

  -- ---- a command

  module _ (safe : ℕ) (was : Place) (had : ℕ) (rows next : List Tally) (right : AreRight ids hs images rows)
      (was_has : (o : Object) → IsAtPlace images was (entry.Object o) → has_id ids was.segment ≡ true) where
    pub counted : (command : Command) (c : Change) → IsChangeOf safe (contents (command_key command)) command c
        → IsPut (images p.segment) was.segment command c p.at → Ends (unit_of_change was.segment command c)
        → IsMovedBy (keys_in grown) hs c (command_key command) p new
        → WasFound (keys_in grown) hs c (command_key command) was
        → had ≡ bytes_of (command_key command) (contents (command_key command))
        → IsCounted command c was.segment had p.segment rows next → AreRight ids new grown next
    counted (Get k) change.Nothing of is_put ends moved there same made = stays rows next ends moved made right
    counted (Get k) (change.Create version) of is_put ends moved there same made =
        absurd (clashes refl (of.nothing 0))
    counted (Get k) (change.Replace old version) of is_put ends moved there same made =
        absurd (clashes refl (of.nothing 0))
    counted (Get k) (change.Delete old) of is_put ends moved there same made = absurd (clashes refl (of.nothing 0))
    counted (Put k value when) change.Nothing of is_put ends moved there same made =
        stays rows next ends moved made right
    counted (Put k value when) (change.Create version) of is_put ends moved there same made =
        let o : Object = record { key = k; version = version; value = value } in
        let at : p.at ≡ end = is_put [] o refl ∙ ap (λ (es : List Entry). length (text_of es))
        (append-nil (images p.segment)) in
        created o rows next at ends moved there made right
    counted (Put k value when) (change.Replace old version) of is_put ends moved there same made =
        let x : Versioned = record { version = version; value = value } in
        let front : List Entry = tombstone_entry k old was.segment ∷ [] in
        let at = is_put front (record { key = k; version = version; value = value }) refl in
        replaced was k there was_has old version had value rows made.0 next at ends
        (moved kept (seen_put x k front at ends)) same made.1 made.2 right
    counted (Put k value when) (change.Delete old) of is_put ends moved there same made =
        absurd (clashes (of.unit 0) (of.nothing 0))
    counted (Delete k) change.Nothing of is_put ends moved there same made = stays rows next ends moved made right
    counted (Delete k) (change.Create version) of is_put ends moved there same made =
        absurd (clashes (of.unit 0) (of.nothing 0))
    counted (Delete k) (change.Replace old version) of is_put ends moved there same made =
        absurd (clashes (of.unit 0) (of.nothing 0))
    counted (Delete k) (change.Delete old) of is_put ends moved there same made =
        deleted was k there was_has old had rows made.0 next ends (moved kept) same made.1 made.2 right

-- ---- a core whose head has more

module _ (d : MasterData) (core : IsCore d) (h : HeadValue) (unit : List Entry) (id : h.id ≡ d.head.id)
    (roll : h.roll ≡ d.head.roll) (image : h.image ≡ d.head.image ++ unit) (valid : IsHeadValue h) where
  abbrev grown_images : ℕ → List Entry
  grown_images = images_among h d.closed

  grow : Grow (images_of d) grown_images
  grow = appended_grow d.head h d.closed unit id roll image

  each : (s : ℕ) → AllByRecursion IsEntry (grown_images s)
  each = each_among h d.closed valid core.segments

  own : grown_images d.head.id ≡ images_of d d.head.id ++ unit
  own =
      appended_own d.head h d.closed unit d.head.id id image (same_id d.head.id)

  others : (s : ℕ) → (s ≡ d.head.id → ⊥) → grown_images s ≡ images_of d s
  others s other = appended_other d.head h d.closed s id roll (other_id d.head.id s (λ is. other (sym is)))

  abbrev at_head : ℕ → Place
  at_head at = record { segment = d.head.id; at = at }

  -- the ids of the log and what the head has by a unit
  log_ids_then : log_set_ids (record d { head = h }) ≡ log_set_ids d
  log_ids_then = λ i. log_ids d.closed (id i) (option_map (λ (r : Roll). r.id) (roll i))

  logged : (was : Place) (o : Object) → IsAtPlace (images_of d) was (entry.Object o)
      → has_id (log_set_ids d) was.segment ≡ true
  logged was o lies =
      imaged_has d was.segment (entry.Object o)
      (subst (λ (es : List Entry). IsAmong (entry.Object o) es) (sym lies.split)
      (among_right (entry.Object o) lies.before (entry.Object o ∷ lies.after) (inl refl)))

  -- where an entry begins behind more
  end_with : (front : List Entry) → length (text_of d.head.image) + length (text_of front)
      ≡ length (text_of (images_of d d.head.id ++ front))
  end_with front =
      ap (λ (es : List Entry). length (text_of es) + length (text_of front)) (sym (head_images d.head d.closed))
      ∙ sym (ap length (text_of-append (images_of d d.head.id) front)
      ∙ length-append (text_of (images_of d d.head.id)) (text_of front))

  -- What a command's change makes of the counts leaves them right.
  pub change_tallied : (command : Command) (c : Change) (was : Place) (at had : ℕ) (new : Places)
      (rows next : List Tally)
      → IsChangeNow d command c → unit ≡ unit_of_change was.segment command c
      → BeginsAt d.head.image command c at
      → IsMovedBy (keys_in grown_images) d.index c (command_key command) (at_head at) new
      → WasFound (keys_in grown_images) d.index c (command_key command) was
      → had ≡ had_now d command
      → IsCounted command c was.segment had d.head.id rows next
      → AreTallied d rows → AreTallied (record d { head = h; index = new }) next
  change_tallied command c was at had new rows next of unit_is begins moved there same made right =
      subst (λ (ids : List ℕ). AreRight ids new grown_images next) (sym log_ids_then)
      (counted (log_set_ids d) (images_of d) grown_images grow each (at_head at) d.index new (state_now d).contents
      (index_of d core) others (state_now d).safe was had rows next right (logged was) command c of
      (λ front o is. begins was.segment front o is ∙ end_with front)
      (own ∙ ap (λ (es : List Entry). images_of d d.head.id ++ es) unit_is) moved there same made)

  -- And so does an object of an absent key.
  pub object_tallied : (o : Object) (new : Places) (rows next : List Tally) → unit ≡ entry.Object o ∷ []
      → (AreKept (keys_in grown_images) d.index
      → keys_in grown_images (at_head (length (text_of d.head.image))) ≡ Some o.key
      → IsSet (keys_in grown_images) d.index o.key (Some (at_head (length (text_of d.head.image)))) new)
      → found (keys_in grown_images) o.key d.index ≡ None
      → IsChangedAt d.head.id (more (object_bytes o.key o.value) 0) rows next
      → AreTallied d rows → AreTallied (record d { head = h; index = new }) next
  object_tallied o new rows next unit_is moved absent made right =
      let p = at_head (length (text_of d.head.image)) in
      let at : p.at ≡ length (text_of (images_of d d.head.id)) =
      ap (λ (es : List Entry). length (text_of es)) (sym (head_images d.head d.closed)) in
      let ends = own ∙ ap (λ (es : List Entry). images_of d d.head.id ++ es) unit_is in
      subst (λ (ids : List ℕ). AreRight ids new grown_images next) (sym log_ids_then)
      (created (log_set_ids d) (images_of d) grown_images grow each p d.index new (state_now d).contents
      (index_of d core) others o rows next at ends moved absent made right)
