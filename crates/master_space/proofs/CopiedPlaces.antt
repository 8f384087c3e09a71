-- What the index finds after a pass has treated one entry of a victim.
use Rattle.std.proofs.Common.{◌≡◌, ℕ, Bool, true, false, List, refl, sym, ap, subst, ◌∙◌}
use Rattle.std.specs.Prelude.{Option, Some, if◌then◌else◌}
use Rattle.std.specs.List.{AllByRecursion}
use Rattle.std.specs.Option.{option_map, option_and_then}
use Rattle.std.proofs.lemmas.Option.{same_Some}
use Rattle.entry.specs.declared.key.Key.{Key}
use Rattle.entry.specs.declared.entry.Object.{Object}
use Rattle.entry.specs.declared.entry.Entry.{Entry}
use Rattle.entry.specs.declared.entry.Entry.TheVariants as entry
use Rattle.entry.specs.Format.{IsEntry}
use Rattle.entry.specs.Meaning.{Contents}
use Rattle.entry.specs.Order.{key_eq}
use Rattle.places.specs.declared.place.Place.{Place}
use Rattle.places.specs.Map.{Places, found}
use Rattle.places.specs.Relocation.{names}
use Rattle.places.proofs.Words.{found_is, found_named}
use Rattle.versioned_map.proofs.Keys.{key_eq-true}
use Rattle.cleaner.specs.Passes.{held_with}
use Rattle.compactor.specs.Kept.{kept}
use Rattle.compactor.specs.Places.{IsAtPlace, as_object, keys_in}
use Rattle.master_space.proofs.CopiedIndex.{at_from, copy_set, index_copied}
use Rattle.master_state.proofs.Indexing.{Grow, Indexes, stands_at, found_grown, index_grown}

module _ (images grown : ℕ → List Entry) (grow : Grow images grown)
    (each_before : (s : ℕ) → AllByRecursion IsEntry (images s))
    (each : (s : ℕ) → AllByRecursion IsEntry (grown s)) (ids : List ℕ) (hs : Places) (contents : Contents)
    (index : Indexes images hs contents) (from to : Place) where
  -- ---- the index

  -- it leads to the same objects, whatever became of the entry
  pub index_treated : (b : Bool) (e : Entry) → kept ids hs from e ≡ b → IsAtPlace images from e
      → (b ≡ true → IsAtPlace grown to e)
      → Indexes grown (held_with b from to e hs) contents
  index_treated false e is stands copy = index_grown images grown grow each hs contents index
  index_treated true (entry.Header h) is stands copy = index_grown images grown grow each hs contents index
  index_treated true (entry.Digest l) is stands copy = index_grown images grown grow each hs contents index
  index_treated true (entry.Safe version) is stands copy = index_grown images grown grow each hs contents index
  index_treated true (entry.Object o) is stands copy =
      index_copied images grown grow each_before each hs contents index from to o stands (copy refl) is
  index_treated true (entry.Tombstone t) is stands copy = index_grown images grown grow each hs contents index

  -- ---- what it finds elsewhere

  -- the object that stands where a key is found
  abbrev IsObjectOf : Entry → Key → Type 0
  IsObjectOf e k = (o : Object) × (e ≡ entry.Object o) × (o.key ≡ k)

  key_there : (e : Entry) (k : Key) → option_map (λ (o : Object). o.key) (as_object e) ≡ Some k → IsObjectOf e k
  key_there (entry.Header h) k is = absurd (cc)
  key_there (entry.Digest l) k is = absurd (cc)
  key_there (entry.Safe version) k is = absurd (cc)
  key_there (entry.Object o) k is = (o, refl, same_Some o.key k is)
  key_there (entry.Tombstone t) k is = absurd (cc)

  found_object : (e : Entry) (k : Key) → IsAtPlace images from e
      → found (keys_in images) k hs ≡ Some from → IsObjectOf e k
  found_object e k stands is =
      key_there e k
      (ap (λ (x : Option Entry). option_map (λ (o : Object). o.key) (option_and_then as_object x))
      (sym (stands_at (images from.segment) from.at e (each_before from.segment) stands))
      ∙ found_is (keys_in images) k hs from is)

  -- What is found in a segment other than the copy's was found there before, and not at the entry.
  abbrev pub IsFoundBefore : Key → Place → Type 0
  IsFoundBefore k r = (found (keys_in images) k hs ≡ Some r) × (r ≡ from → ⊥)

  found_before : (e : Entry) (k : Key) (r : Place) → IsAtPlace images from e
      → ((o : Object) → e ≡ entry.Object o → names hs o.key from ≡ false)
      → found (keys_in grown) k hs ≡ Some r → IsFoundBefore k r
  found_before e k r stands dead is =
      let before : found (keys_in images) k hs ≡ Some r = sym
      (found_grown images grown grow each hs contents index k) ∙ is in (
        before,
        λ here. (
            let at : found (keys_in images) k hs ≡ Some from = before ∙ ap Some here in
            let object = found_object e k stands at in
            let lives = found_named (keys_in images) k from hs index.kept at in
            let not = dead object.0 object.1 in
            let same : names hs k from ≡ false =
            subst (λ (q : Key). names hs q from ≡ false) object.2 not in
            cc),
      )

  pub found_treated : (b : Bool) (e : Entry) (k : Key) (r : Place) → kept ids hs from e ≡ b → IsAtPlace images from e
      → (b ≡ true → IsAtPlace grown to e) → (r ≡ to → ⊥) → found (keys_in grown) k (held_with b from to e hs) ≡ Some r
      → IsFoundBefore k r
  found_treated false e k r is stands copy other finds =
      found_before e k r stands
      (λ o same. subst (λ (x : Entry). kept ids hs from x ≡ false) same is) finds
  found_treated true (entry.Header h) k r is stands copy other finds =
      found_before (entry.Header h) k r stands (λ o same. absurd (cc)) finds
  found_treated true (entry.Digest l) k r is stands copy other finds =
      found_before (entry.Digest l) k r stands (λ o same. absurd (cc)) finds
  found_treated true (entry.Safe version) k r is stands copy other finds =
      found_before (entry.Safe version) k r stands (λ o same. absurd (cc)) finds
  found_treated true (entry.Tombstone t) k r is stands copy other finds =
      found_before (entry.Tombstone t) k r stands (λ o same. absurd (cc)) finds
  found_treated true (entry.Object o) k r is stands copy other finds = go (key_eq k o.key) refl
    where
      after : found (keys_in grown) k (held_with true from to (entry.Object o) hs)
          ≡ (if key_eq k o.key then Some to else found (keys_in grown) k hs)
      after = (copy_set images grown grow each_before each hs contents index from to o stands (copy refl) is).finds k

      go : (t : Bool) → key_eq k o.key ≡ t → IsFoundBefore k r
      go true same =
          let at : Some r ≡ Some to =
          sym finds ∙ after ∙ ap (λ (t : Bool). if t then Some to else found (keys_in grown) k hs) same in
          absurd (other (same_Some r to at))
      go false differs =
          let at : found (keys_in grown) k hs ≡ Some r =
          sym (after ∙ ap (λ (t : Bool). if t then Some to else found (keys_in grown) k hs) differs) ∙ finds in (
            sym (found_grown images grown grow each hs contents index k) ∙ at,
            λ here. (
                let told : keys_in grown from ≡ Some k = found_is (keys_in grown) k hs from (at ∙ ap Some here) in
                let own = at_from images grown grow each_before each hs contents index from to o
                stands (copy refl) is in
                let same = key_eq-true k o.key (same_Some k o.key (sym told ∙ own)) in
                cc),
          )
