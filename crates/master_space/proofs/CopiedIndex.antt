-- What the index leads to when one object moves to its copy.
use Rattle.std.proofs.Common.{◌≡◌, ℕ, true, List, refl, sym, ap, subst, ◌∙◌, inl, inr}
use Rattle.std.specs.Prelude.{Option, Some}
use Rattle.std.specs.List.{AllByRecursion}
use Rattle.std.specs.Option.{option_map}
use Rattle.std.proofs.lemmas.Option.{same_Some}
use Rattle.entry.specs.declared.key.Key.{Key}
use Rattle.entry.specs.declared.entry.Object.{Object}
use Rattle.entry.specs.declared.entry.Entry.{Entry}
use Rattle.entry.specs.declared.entry.Entry.TheVariants as entry
use Rattle.entry.specs.Format.{IsEntry}
use Rattle.entry.specs.Meaning.{Versioned, Contents, object_at}
use Rattle.places.specs.declared.place.Place.{Place}
use Rattle.places.specs.Map.{Places, found, IsSet}
use Rattle.places.specs.Relocation.{names, moved}
use Rattle.places.proofs.Words.{moved_set, named_found}
use Rattle.versioned_map.specs.Versioned.{with_contents}
use Rattle.versioned_map.proofs.Keys.{key_eq-tells}
use Rattle.compactor.specs.Places.{IsAtPlace, keys_in}
use Rattle.master_state.proofs.Indexing.{Grow, Indexes, stands_grown, object_seen, found_lies, kept_grown, index_set}

-- what a key has stays if it is given again
given_again : (contents : Contents) (k : Key) (x : Option Versioned) → contents k ≡ x
    → with_contents contents k x ≡ contents
given_again contents k x has = λ i q. at q i
  where
    at : (q : Key) → with_contents contents k x q ≡ contents q
    at q = elim (key_eq-tells q k) as (λ _. with_contents contents k x q ≡ contents q) [
      | inl t ↦ (let e = t.0 in rw e (sym (ap contents t.1 ∙ has)))
      | inr f ↦ (let e = f.0 in rw e refl)
    ]

module _ (images grown : ℕ → List Entry) (grow : Grow images grown)
    (each_before : (s : ℕ) → AllByRecursion IsEntry (images s))
    (each : (s : ℕ) → AllByRecursion IsEntry (grown s)) (hs : Places) (contents : Contents)
    (index : Indexes images hs contents)
    (from to : Place) (o : Object) (stands : IsAtPlace images from (entry.Object o))
    (copy : IsAtPlace grown to (entry.Object o))
    (live : names hs o.key from ≡ true) where
  abbrev key : Option Object → Option Key
  key x = option_map (λ (y : Object). y.key) x

  at_to : keys_in grown to ≡ Some o.key
  at_to = ap key (object_seen grown each to o copy)

  pub at_from : keys_in grown from ≡ Some o.key
  at_from =
      ap key (object_seen grown each from o
      (stands_grown images grown from (entry.Object o) grow stands))

  was_at : keys_in images from ≡ Some o.key
  was_at = ap key (object_seen images each_before from o stands)

  -- the key has this object
  held_there : (v : Versioned) × (contents o.key ≡ Some v) × IsAtPlace images from (object_at o.key v)
  held_there =
      found_lies images o.key (found (keys_in images) o.key hs) (contents o.key) (index.lies o.key) from
      (named_found (keys_in images) o.key from was_at hs index.kept live)

  object_is : entry.Object o ≡ object_at o.key held_there.0
  object_is =
      ap (λ (x : Object). entry.Object x)
      (same_Some o (record { key = o.key; version = held_there.0.version; value = held_there.0.value })
      (sym (object_seen images each_before from o stands)
      ∙ object_seen images each_before from (record {
        key = o.key;
        version = held_there.0.version;
        value = held_there.0.value;
      }) held_there.2))

  pub copy_set : IsSet (keys_in grown) hs o.key (Some to) (moved hs o.key from to)
  copy_set =
      let kept = kept_grown images grown grow each hs contents index in
      let there = named_found (keys_in grown) o.key from at_from hs kept live in
      moved_set (keys_in grown) hs o.key from to kept there at_to

  -- the index leads to the copy, and else where it led
  pub index_copied : Indexes grown (moved hs o.key from to) contents
  index_copied =
      subst (λ (c : Contents). Indexes grown (moved hs o.key from to) c)
      (given_again contents o.key (Some held_there.0) held_there.1)
      (index_set images grown grow each hs contents index _ o.key (Some to) (Some held_there.0)
      (subst (λ (e : Entry). IsAtPlace grown to e) object_is copy) copy_set)
