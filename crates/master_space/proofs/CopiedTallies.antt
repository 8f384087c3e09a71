-- Tallies stay right when an entry of a victim is copied, or dropped.
use Rattle.std.proofs.Common.{◌≡◌, ℕ, ◌+◌, Bool, true, false, List, [], ◌∷◌, ◌++◌, length, refl, sym, ap, subst}
use Rattle.std.proofs.Common.{◌∙◌}
use Rattle.std.proofs.Common.{arith}
use Rattle.std.specs.Prelude.{Option, Some, None, ◌==◌, if◌then◌else◌}
use Rattle.std.specs.List.{AllByRecursion}
use Rattle.std.proofs.lemmas.Bool.{eqb-true}
use Rattle.std.proofs.lemmas.List.{append-nil}
use Rattle.std.proofs.lemmas.Option.{same_Some}
use Rattle.entry.specs.declared.entry.Object.{Object}
use Rattle.entry.specs.declared.entry.Tombstone.{Tombstone}
use Rattle.entry.specs.declared.entry.Entry.{Entry}
use Rattle.entry.specs.declared.entry.Entry.TheVariants as entry
use Rattle.entry.specs.Format.{spelling, IsEntry}
use Rattle.entry.specs.Meaning.{Contents}
use Rattle.entry.specs.Text.{text_of, is_data}
use Rattle.places.specs.declared.place.Place.{Place}
use Rattle.places.specs.Map.{Places, found, AreKept, IsSet}
use Rattle.places.specs.Relocation.{names, moved}
use Rattle.places.proofs.Words.{found_named, named_found}
use Rattle.versioned_map.proofs.Keys.{key_eq-true}
use Rattle.compactor.specs.Kept.{kept}
use Rattle.compactor.specs.Places.{IsAtPlace, keys_in}
use Rattle.cleaner.specs.Passes.{copied_as, held_with}
use Rattle.master_state.proofs.Imaging.{same_id}
use Rattle.master_state.proofs.Indexing.{Grow, Indexes, kept_grown}
use Rattle.tally.specs.declared.tallies.Tally.{Tally}
use Rattle.tally.specs.Right.{IsAppended}
use Rattle.tally.specs.Rows.{AreRight}
use Rattle.tally.proofs.Rights.{carry_is_right, replace_is_right}
use Rattle.master_space.specs.Counting.{IsCopyCounted}
use Rattle.master_space.proofs.CopiedImages.{tail_of}
use Rattle.master_space.proofs.CopiedIndex.{at_from, copy_set}

-- bytes that count
counts : (b : Bool) (n : ℕ) → b ≡ true → (if b then n else 0) + 0 ≡ n
counts b n is = let whole : n + 0 ≡ n = omega arith in ap (λ (t : Bool). (if t then n else 0) + 0) is ∙ whole

module _ (ids : List ℕ) (hs : Places) (images later : ℕ → List Entry) (grow : Grow images later)
    (each_before : (s : ℕ) → AllByRecursion IsEntry (images s))
    (each : (s : ℕ) → AllByRecursion IsEntry (later s)) (contents : Contents) (index : Indexes images hs contents)
    (place to : Place) (len : to.at ≡ length (text_of (images to.segment)))
    (others : (s : ℕ) → (s ≡ to.segment → ⊥) → later s ≡ images s) (old new : List Tally)
    (right : AreRight ids hs images old) where
  -- a dropped entry leaves the images
  stays : later to.segment ≡ images to.segment ++ [] → (s : ℕ) → later s ≡ images s
  stays own s = go (s == to.segment) refl
    where
      go : (t : Bool) → (s == to.segment) ≡ t → later s ≡ images s
      go true here =
          let same : s ≡ to.segment = eqb-true s to.segment here in
          ap later same ∙ own ∙ append-nil (images to.segment) ∙ ap images (sym same)
      go false away = others s (λ same. (let here = here_too same in absurd (cc)))
        where
          here_too : s ≡ to.segment → (s == to.segment) ≡ true
          here_too same = ap (λ (z : ℕ). z == to.segment) same ∙ same_id to.segment

  -- a copied one stands behind what the survivor had
  module _ (x : Entry) (own : later to.segment ≡ images to.segment ++ x ∷ []) where
    appended : (o : Option Place) → ((p : Place) → o ≡ Some p → p ≡ to)
        → IsAppended images later to.segment (x ∷ []) o
    appended o is = record {
      grown = own;
      others = others;
      place = λ p some. (let at = ap (λ (q : Place). q.at) (is p some) in
          (ap (λ (q : Place). q.segment) (is p some), omega (arith, at, len)));
    }

    copy : IsAtPlace later to x
    copy = record { before = images to.segment; after = []; split = own; offset = len }

  module _ (o : Object) (own : later to.segment ≡ images to.segment ++ entry.Object o ∷ [])
      (stands : IsAtPlace images place (entry.Object o)) (is : names hs o.key place ≡ true) where
    abbrev held : Places
    held = moved hs o.key place to

    all : AreKept (keys_in later) hs
    all = kept_grown images later grow each hs contents index

    set : IsSet (keys_in later) hs o.key (Some to) held
    set =
        copy_set images later grow each_before each hs contents index place to o stands (copy (entry.Object o) own) is

    was : found (keys_in later) o.key hs ≡ Some place
    was =
        named_found (keys_in later) o.key place
        (at_from images later grow each_before each hs contents index place to o stands (copy (entry.Object o) own) is)
        hs all is

    named : names held o.key (record { segment = to.segment; at = length (text_of (images to.segment)) }) ≡ true
    named =
        ap (λ (n : ℕ). names held o.key (record { segment = to.segment; at = n })) (sym len)
        ∙ found_named (keys_in later) o.key to held set.kept
        (set.finds o.key ∙ ap (λ (t : Bool). if t then Some to else found (keys_in later) o.key hs)
        (key_eq-true o.key o.key refl))

    moved_right : IsCopyCounted (copied_as true (entry.Object o)) place.segment to.segment
        (length (spelling (entry.Object o))) old new → AreRight ids held later new
    moved_right counted =
        replace_is_right ids (keys_in later) hs held o.key (Some to) images later to.segment (entry.Object o ∷ [])
        (length (spelling (entry.Object o))) 0 place o old counted.0 new (record {
          all = all;
          set = set;
          appended = appended (entry.Object o) own (Some to) (λ p some. sym (same_Some to p some));
          grows = record {
            objects = counts _ (length (spelling (entry.Object o))) named;
            tombstones = refl;
          };
          is = was;
          lies = stands;
          key = refl;
        }) counted.1 counted.2 right

  carried_right : (t : Tombstone) → later to.segment ≡ images to.segment ++ entry.Tombstone t ∷ []
      → kept ids hs place (entry.Tombstone t) ≡ true
      → IsCopyCounted (copied_as true (entry.Tombstone t)) place.segment to.segment
      (length (spelling (entry.Tombstone t))) old new → AreRight ids hs later new
  carried_right t own is counted =
      carry_is_right ids hs images later to.segment (entry.Tombstone t ∷ []) (length (spelling (entry.Tombstone t)))
      old new (appended (entry.Tombstone t) own None (λ p some. absurd (cc)))
      (record { objects = refl; tombstones = counts _ (length (spelling (entry.Tombstone t))) is }) counted right

  -- whatever became of the entry
  pub copied_right : (b : Bool) (x : Entry) → kept ids hs place x ≡ b → is_data x ≡ true → IsAtPlace images place x
      → later to.segment ≡ images to.segment ++ tail_of b x
      → IsCopyCounted (copied_as b x) place.segment to.segment (length (spelling x)) old new
      → AreRight ids (held_with b place to x hs) later new
  copied_right false x is of_data stands own counted =
      let same : later ≡ images = (λ i s. stays own s i) in
      subst (λ (y : (ℕ → List Entry) × List Tally). AreRight ids hs y.0 y.1) (λ i. (sym same i, sym counted i)) right
  copied_right true (entry.Header h) is of_data stands own counted = absurd (cc)
  copied_right true (entry.Digest l) is of_data stands own counted = absurd (cc)
  copied_right true (entry.Safe version) is of_data stands own counted = absurd (cc)
  copied_right true (entry.Object o) is of_data stands own counted = moved_right o own stands is counted
  copied_right true (entry.Tombstone t) is of_data stands own counted = carried_right t own is counted
