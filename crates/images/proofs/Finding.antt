-- Which image is found by an id after an image was changed or removed.
use Rattle.std.proofs.Common.{◌≡◌, ℕ, ◌<◌, Bool, true, false, List, [], ◌∷◌, map, refl, sym, ap, ◌∙◌}
use Rattle.std.specs.Prelude.{◌==◌, if◌then◌else◌, Option, Some, None}
use Rattle.std.specs.List.{AllByRecursion}
use Rattle.std.specs.Option.{option_map}
use Rattle.std.proofs.lemmas.Bool.{eqb-true, eqb-false}
use Rattle.images.specs.Image.{Image}
use Rattle.images.specs.Sorted.{AreRising, image_of, segment_of, changed, without}
use Rattle.images.proofs.Listing.{other_id}

-- ---- one changed

module _ (id : ℕ) (f : Image → Image) (same : (x : Image) → (f x).id ≡ x.id) where
  -- it is found changed
  pub own_changed : (xs : List Image) → image_of (changed xs id f) id ≡ option_map f (image_of xs id)
  own_changed [] = refl
  own_changed (x ∷ xs) = go (x.id == id) refl (own_changed xs)
    where
      go : (t : Bool) → (x.id == id) ≡ t → image_of (changed xs id f) id ≡ option_map f (image_of xs id)
          → image_of (changed (x ∷ xs) id f) id ≡ option_map f (image_of (x ∷ xs) id)
      go true is rest = (let test : ((f x).id == id) ≡ true = ap (λ (n : ℕ). n == id) (same x) ∙ is in
          rw (is, test) refl)
      go false is rest = rw (is, is) rest

  -- any other is found as before
  pub other_changed : (other : ℕ) → (other ≡ id → ⊥) → (xs : List Image)
      → image_of (changed xs id f) other ≡ image_of xs other
  other_changed other differ [] = refl
  other_changed other differ (x ∷ xs) = go (x.id == id) refl (other_changed other differ xs)
    where
      kept : (t : Bool) → (x.id == other) ≡ t → image_of (changed xs id f) other ≡ image_of xs other
          → image_of (x ∷ changed xs id f) other ≡ image_of (x ∷ xs) other
      kept true is rest = rw is refl
      kept false is rest = rw is rest

      go : (t : Bool) → (x.id == id) ≡ t → image_of (changed xs id f) other ≡ image_of xs other
          → image_of (changed (x ∷ xs) id f) other ≡ image_of (x ∷ xs) other
      go true is rest =
          let own : x.id ≡ id = eqb-true x.id id is in
          let before : (x.id == other) ≡ false = other_id x.id other (λ (e : x.id ≡ other). differ (sym e ∙ own)) in
          let after : ((f x).id == other) ≡ false = ap (λ (n : ℕ). n == other) (same x) ∙ before in
          rw (is, after, before) rest
      go false is rest = rw is (kept (x.id == other) refl rest)

  pub image_changed_is : (xs : List Image) (other : ℕ)
      → image_of (changed xs id f) other ≡ if other == id then option_map f (image_of xs id) else image_of xs other
  image_changed_is xs other = go (other == id) refl
    where
      go : (t : Bool) → (other == id) ≡ t
          → image_of (changed xs id f) other ≡ if other == id then option_map f (image_of xs id) else image_of xs other
      go true is =
          let own : other ≡ id = eqb-true other id is in
          rw is (ap (λ (n : ℕ). image_of (changed xs id f) n) own ∙ own_changed xs)
      go false is = rw is (other_changed other (eqb-false other id is) xs)

  pub segment_changed_is : (xs : List Image) (other : ℕ)
      → segment_of (changed xs id f) other
      ≡ if other == id then option_map (λ (x : Image). (f x).segment) (image_of xs id) else segment_of xs other
  segment_changed_is xs other =
      ap (λ (o : Option Image). option_map (λ (x : Image). x.segment) o) (image_changed_is xs other)
      ∙ parts (other == id) (image_of xs id) (image_of xs other)
    where
      parts : (t : Bool) (o p : Option Image) → option_map (λ (x : Image). x.segment) (if t then option_map f o else p)
          ≡ if t then option_map (λ (x : Image). (f x).segment) o else option_map (λ (x : Image). x.segment) p
      parts true None p = refl
      parts true (Some x) p = refl
      parts false o p = refl

  pub ids_changed : (xs : List Image) → map (λ (x : Image). x.id) (changed xs id f) ≡ map (λ (x : Image). x.id) xs
  ids_changed [] = refl
  ids_changed (x ∷ xs) = go (x.id == id) refl (ids_changed xs)
    where
      go : (t : Bool) → (x.id == id) ≡ t → map (λ (y : Image). y.id) (changed xs id f) ≡ map (λ (y : Image). y.id) xs
          → map (λ (y : Image). y.id) (changed (x ∷ xs) id f) ≡ map (λ (y : Image). y.id) (x ∷ xs)
      go true is rest = rw (is, same x) (ap (λ (ids : List ℕ). x.id ∷ ids) rest)
      go false is rest = rw is (ap (λ (ids : List ℕ). x.id ∷ ids) rest)

  above_changed : (n : ℕ) (xs : List Image) → AllByRecursion (λ (x : Image). n < x.id) xs
      → AllByRecursion (λ (x : Image). n < x.id) (changed xs id f)
  above_changed n [] all = tt
  above_changed n (x ∷ xs) all = go (x.id == id) refl (above_changed n xs all.1)
    where
      go : (t : Bool) → (x.id == id) ≡ t → AllByRecursion (λ (y : Image). n < y.id) (changed xs id f)
          → AllByRecursion (λ (y : Image). n < y.id) (changed (x ∷ xs) id f)
      go true is rest = rw (is, same x) (all.0, rest)
      go false is rest = rw is (all.0, rest)

  pub rising_changed : (xs : List Image) → AreRising xs → AreRising (changed xs id f)
  rising_changed [] rising = tt
  rising_changed (x ∷ xs) rising = go (x.id == id) refl (above_changed x.id xs rising.0) (rising_changed xs rising.1)
    where
      go : (t : Bool) → (x.id == id) ≡ t → AllByRecursion (λ (y : Image). x.id < y.id) (changed xs id f)
          → AreRising (changed xs id f)
          → AreRising (changed (x ∷ xs) id f)
      go true is above rest = rw (is, same x) (above, rest)
      go false is above rest = rw is (above, rest)

-- ---- one gone

own_gone : (id : ℕ) (xs : List Image) → image_of (without xs id) id ≡ None
own_gone id [] = refl
own_gone id (x ∷ xs) = go (x.id == id) refl (own_gone id xs)
  where
    go : (t : Bool) → (x.id == id) ≡ t → image_of (without xs id) id ≡ None → image_of (without (x ∷ xs) id) id ≡ None
    go true is rest = rw is rest
    go false is rest = rw (is, is) rest

other_stays : (id other : ℕ) → (other ≡ id → ⊥) → (xs : List Image) → image_of (without xs id) other ≡ image_of xs other
other_stays id other differ [] = refl
other_stays id other differ (x ∷ xs) = go (x.id == id) refl (other_stays id other differ xs)
  where
    kept : (t : Bool) → (x.id == other) ≡ t → image_of (without xs id) other ≡ image_of xs other
        → image_of (x ∷ without xs id) other ≡ image_of (x ∷ xs) other
    kept true is rest = rw is refl
    kept false is rest = rw is rest

    go : (t : Bool) → (x.id == id) ≡ t → image_of (without xs id) other ≡ image_of xs other
        → image_of (without (x ∷ xs) id) other ≡ image_of (x ∷ xs) other
    go true is rest =
        let own : x.id ≡ id = eqb-true x.id id is in
        let before : (x.id == other) ≡ false = other_id x.id other (λ (e : x.id ≡ other). differ (sym e ∙ own)) in
        rw (is, before) rest
    go false is rest = rw is (kept (x.id == other) refl rest)

pub image_without_is : (xs : List Image) (id other : ℕ)
    → image_of (without xs id) other ≡ if other == id then None else image_of xs other
image_without_is xs id other = go (other == id) refl
  where
    go : (t : Bool) → (other == id) ≡ t → image_of (without xs id) other ≡ if other == id then None
        else image_of xs other
    go true is =
        let own : other ≡ id = eqb-true other id is in
        rw is (ap (λ (n : ℕ). image_of (without xs id) n) own ∙ own_gone id xs)
    go false is = rw is (other_stays id other (eqb-false other id is) xs)

pub segment_without_is : (xs : List Image) (id other : ℕ)
    → segment_of (without xs id) other ≡ if other == id then None else segment_of xs other
segment_without_is xs id other =
    ap (λ (o : Option Image). option_map (λ (x : Image). x.segment) o) (image_without_is xs id other)
    ∙ parts (other == id) (image_of xs other)
  where
    parts : (t : Bool) (o : Option Image) → option_map (λ (x : Image). x.segment) (if t then None else o) ≡ if t
        then None else option_map (λ (x : Image). x.segment) o
    parts true o = refl
    parts false o = refl
