-- After a compaction an index that follows it leads to the same objects.
use Rattle.std.proofs.Common.{◌≡◌, ℕ, ◌+◌, Bool, true, false, ◌==◌, List, ◌∷◌, ◌++◌, length, refl, sym}
use Rattle.std.proofs.Common.{ap, subst, ◌∙◌, arith, if◌then◌else◌}
use Rattle.std.specs.Prelude.{Some}
use Rattle.std.specs.List.{AllByRecursion}
use Rattle.std.proofs.lemmas.Bool.Decides.{Decides-eqb}
use Rattle.entry.specs.declared.key.Key.{Key}
use Rattle.entry.specs.declared.entry.Object.{Object}
use Rattle.entry.specs.declared.entry.Entry.{Entry}
use Rattle.entry.specs.declared.entry.Entry.TheVariants as entry
use Rattle.entry.specs.Format.{spelling, IsEntry}
use Rattle.entry.specs.Text.{text_of, IsSegment}
use Rattle.places.specs.declared.place.Place.{Place}
use Rattle.places.specs.Map.{Places, found, AreKept}
use Rattle.places.specs.Relocation.{names, AllPlaces}
use Rattle.places.proofs.Words.{each_found, found_named, found_holds, all_then, all_both}
use Rattle.places.proofs.Words.{kept_gone, found_gone, all_gone}
use Rattle.compactor.specs.Kept.{kept, kept_from, kept_of, entries_before, moved_at, moved_place}
use Rattle.compactor.specs.Laws.{compacted_images, IsFollowed}
use Rattle.compactor.specs.Places.{LiesAt, IsAtPlace, keys_in, LieIn}
use Rattle.compactor.proofs.Cutting.{before_cut}
use Rattle.compactor.proofs.KeptEntries.{kept_append, kept_segment}
use Rattle.compactor.proofs.StandingKeys.{stands_at, key_in, key_lies}

-- ---- where a kept object lies

module _ (ids : List ℕ) (held : Places) (segment : ℕ) (es : List Entry) (each : AllByRecursion IsEntry es) where
  before_is : (at : ℕ) (e : Entry) (s : LiesAt es at e) → entries_before at es ≡ s.before
  before_is at e s = before_cut es s.before (e ∷ s.after) at (record { split = s.split; offset = s.offset }) each

  -- a kept entry lies behind what is kept before it
  lies_moved : (at : ℕ) (e : Entry) → LiesAt es at e → kept ids held (record { segment = segment; at = at }) e ≡ true
      → LiesAt (kept_of ids held segment es) (moved_at ids held segment es at) e
  lies_moved at e s keeps =
      let rest = kept_from ids held segment (at + length (spelling e)) s.after in
      let there : 0 + length (text_of s.before) ≡ at = omega (arith, s.offset) in
      record {
        before = kept_of ids held segment s.before;
        after = rest;
        split =
            ap (λ (xs : List Entry). kept_of ids held segment xs) s.split
            ∙ kept_append ids held segment 0 s.before (e ∷ s.after)
            ∙ ap (λ (n : ℕ). kept_of ids held segment s.before ++ kept_from ids held segment n (e ∷ s.after)) there
            ∙ ap (λ (b : Bool). kept_of ids held segment s.before ++ (if b then e ∷ rest else rest)) keeps;
        offset = ap (λ (xs : List Entry). length (text_of (kept_of ids held segment xs))) (before_is at e s);
      }

-- ---- the index follows

module _ (ids : List ℕ) (held : Places) (images : ℕ → List Entry) (segment : ℕ) where
  abbrev left : List Entry
  left = kept_of ids held segment (images segment)

  abbrev later : ℕ → List Entry
  later = compacted_images ids held images segment

  abbrev goes : Place → Place
  goes = moved_place ids held segment (images segment)

  abbrev gone : ℕ → ℕ
  gone = moved_at ids held segment (images segment)

  image_here : (s : ℕ) → (s == segment) ≡ true → later s ≡ left
  image_here s so = ap (λ (b : Bool). if b then left else images s) so

  image_other : (s : ℕ) → (s == segment) ≡ false → later s ≡ images s
  image_other s isnt = ap (λ (b : Bool). if b then left else images s) isnt

  goes_here : (p : Place) → (p.segment == segment) ≡ true → goes p ≡ record p { at = gone p.at }
  goes_here p so = ap (λ (b : Bool). if b then record p { at = gone p.at } else p) so

  goes_other : (p : Place) → (p.segment == segment) ≡ false → goes p ≡ p
  goes_other p isnt = ap (λ (b : Bool). if b then record p { at = gone p.at } else p) isnt

  keys_other : (p : Place) → (p.segment == segment) ≡ false → keys_in later (goes p) ≡ keys_in images p
  keys_other p isnt =
      ap (λ (q : Place). keys_in later q) (goes_other p isnt)
      ∙ ap (λ (image : List Entry). key_in image p.at) (image_other p.segment isnt)

  lies_other : (p : Place) (e : Entry) → (p.segment == segment) ≡ false → IsAtPlace images p e
      → IsAtPlace later (goes p) e
  lies_other p e isnt s =
      subst (λ (q : Place). IsAtPlace later q e) (sym (goes_other p isnt))
      (subst (λ (image : List Entry). LiesAt image p.at e) (sym (image_other p.segment isnt)) s)

  module _ (valid : IsSegment (images segment)) where
    -- what is held of an object of the segment
    record IsKeptHere (p : Place) (o : Object) : Type 0 where
      pub here : (p.segment == segment) ≡ true
      pub lies : LiesAt (images segment) p.at (entry.Object o)
      pub moved : LiesAt left (gone p.at) (entry.Object o)

    kept_here : AreKept (keys_in images) held → (p : Place) (o : Object) → (p.segment == segment) ≡ true
        → IsAtPlace images p (entry.Object o)
        → ((k : Key) → keys_in images p ≡ Some k → found (keys_in images) k held ≡ Some p) → IsKeptHere p o
    kept_here all p o so s finds =
        let same : p.segment ≡ segment = (Decides-eqb p.segment segment).0 so in
        let there = subst (λ (x : ℕ). LiesAt (images x) p.at (entry.Object o)) same s in
        let key : keys_in images p ≡ Some o.key =
        ap (λ (x : ℕ). key_in (images x) p.at) same ∙ key_lies (images segment) p.at o valid.each there in
        let named = found_named (keys_in images) o.key p held all (finds o.key key) in
        let place : p ≡ record { segment = segment; at = p.at } = ap (λ (x : ℕ). record p { segment = x }) same in
        record {
          here = so;
          lies = there;
          moved = lies_moved ids held segment (images segment) valid.each p.at (entry.Object o) there
              (subst (λ (q : Place). names held o.key q ≡ true) place named);
        }

    keys_here : (p : Place) (o : Object) → IsKeptHere p o → keys_in later (goes p) ≡ keys_in images p
    keys_here p o k =
        let same : p.segment ≡ segment = (Decides-eqb p.segment segment).0 k.here in
        ap (λ (q : Place). keys_in later q) (goes_here p k.here)
        ∙ ap (λ (image : List Entry). key_in image (gone p.at)) (image_here p.segment k.here)
        ∙ key_lies left (gone p.at) o (kept_segment ids held segment (images segment) valid).each k.moved
        ∙ sym (key_lies (images segment) p.at o valid.each k.lies)
        ∙ ap (λ (x : ℕ). key_in (images x) p.at) (sym same)

    lies_here : (p : Place) (o : Object) → IsKeptHere p o → IsAtPlace later (goes p) (entry.Object o)
    lies_here p o k =
        subst (λ (q : Place). IsAtPlace later q (entry.Object o)) (sym (goes_here p k.here))
        (subst (λ (image : List Entry). LiesAt image (gone p.at) (entry.Object o))
        (sym (image_here p.segment k.here)) k.moved)

    module _ (lie : LieIn images held) (all : AreKept (keys_in images) held) where
      -- an object lies at the place, and the key that stands there is found there
      abbrev IsThere : Place → Type 0
      IsThere p = ((o : Object) × IsAtPlace images p (entry.Object o))
          × ((k : Key) → keys_in images p ≡ Some k → found (keys_in images) k held ≡ Some p)

      there : AllPlaces IsThere held
      there = all_both _ _ held lie (each_found (keys_in images) held all)

      seen : (p : Place) → IsThere p → keys_in later (goes p) ≡ keys_in images p
      seen p at = go (p.segment == segment) refl
        where
          go : (b : Bool) → (p.segment == segment) ≡ b → keys_in later (goes p) ≡ keys_in images p
          go true so = keys_here p at.0.0 (kept_here all p at.0.0 so at.0.1 at.1)
          go false isnt = keys_other p isnt

      -- an object lies where its place has gone
      object_gone : (p : Place) → IsThere p → (o : Object) → IsAtPlace images p (entry.Object o)
          → IsAtPlace later (goes p) (entry.Object o)
      object_gone p at o s = go (p.segment == segment) refl
        where
          go : (b : Bool) → (p.segment == segment) ≡ b → IsAtPlace later (goes p) (entry.Object o)
          go true so =
              let k = kept_here all p at.0.0 so at.0.1 at.1 in
              let in_segment : p.segment ≡ segment = (Decides-eqb p.segment segment).0 so in
              let here = subst (λ (x : ℕ). LiesAt (images x) p.at (entry.Object o)) in_segment s in
              let both : Some (entry.Object at.0.0) ≡ Some (entry.Object o) =
              sym (stands_at (images segment) p.at (entry.Object at.0.0) valid.each k.lies)
              ∙ stands_at (images segment) p.at (entry.Object o) valid.each here in
              let same : at.0.0 ≡ o = cc in
              subst (λ (x : Object). IsAtPlace later (goes p) (entry.Object x)) same (lies_here p at.0.0 k)
          go false isnt = lies_other p (entry.Object o) isnt s

      pub follows : IsFollowed ids held images segment
      follows =
          let each = all_then IsThere (λ (p : Place). keys_in later (goes p) ≡ keys_in images p) held seen there in
          record {
            kept = kept_gone goes (keys_in images) (keys_in later) held each all;
            lie = all_gone goes (λ (p : Place). (o : Object) × IsAtPlace later p (entry.Object o)) held
                (all_then IsThere (λ (p : Place). (o : Object) × IsAtPlace later (goes p) (entry.Object o)) held
                (λ p at. (at.0.0, object_gone p at at.0.0 at.0.1)) there);
            finds = λ k. found_gone goes (keys_in images) (keys_in later) held each k;
            carries = λ k p o is s. object_gone p (found_holds (keys_in images) IsThere k held p there is) o s;
          }
