-- The entries of images.
use Rattle.std.proofs.Common.{◌≡◌, ℕ, ◌<◌, ◌≤◌, Bool, true, false, cond, ◌==◌, List, [], ◌∷◌, ◌++◌, length, map}
use Rattle.std.proofs.Common.{refl, sym, ap, subst, ◌∙◌, arith}
use Rattle.std.specs.Prelude.{Option, Some, None, IsSome, IsSomeAnd, unwrap_or}
use Rattle.std.specs.List.{AllByRecursion}
use Rattle.std.specs.Option.{option_map, option_map_or}
use Rattle.std.proofs.lemmas.Bool.{ne_eqb, eqb-true, eqb-false}
use Rattle.std.proofs.lemmas.Option.{same_Some}
use Rattle.entry.specs.declared.entry.Entry.{Entry}
use Rattle.entry.specs.Bag.{IsAmong}
use Rattle.entry.specs.Text.{text_of}
use Rattle.entry.proofs.ListLemmas.{all_among, all_weaker}
use Rattle.images.specs.Image.{Image}
use Rattle.images.specs.Images.{AreWithin}
use Rattle.images.specs.Sorted.{IsWhole, image_of, segment_of, changed}
use Rattle.images.specs.Steps.{with_unit, len_at}
use Rattle.images.proofs.Callers.{image_changed, whole_grown}
use Rattle.images.proofs.Finding.{other_changed, segment_changed_is, ids_changed}
use Rattle.cleaner.specs.Passes.{images_in, AreVictims, images_with}

-- what is read of an image
pub image_is : (images : List Image) (s : ℕ) (es : List Entry) → Some es ≡ segment_of images s → es ≡ images_in images s
image_is images s es is = ap (λ (o : Option (List Entry)). unwrap_or o []) is

-- its length
pub len_is : (images : List Image) (s : ℕ) → len_at images s ≡ length (text_of (images_in images s))
len_is images s = go (segment_of images s)
  where
    go : (o : Option (List Entry))
        → option_map_or (λ (es : List Entry). length (text_of es)) o 0 ≡ length (text_of (unwrap_or o []))
    go None = refl
    go (Some es) = refl

-- no image is longer than a segment
pub is_within : (limit : ℕ) (images : List Image) (s : ℕ) (es : List Entry) → AreWithin limit images
    → Some es ≡ segment_of images s → length (text_of es) ≤ limit
is_within limit [] s es all is = absurd (cc)
is_within limit (x ∷ xs) s es all is = go (x.id == s) refl (is_within limit xs s es all.1)
  where
    go : (b : Bool) → (x.id == s) ≡ b → (Some es ≡ segment_of xs s → length (text_of es) ≤ limit)
        → length (text_of es) ≤ limit
    go true test later =
        let own : Some es ≡ Some x.segment =
        is ∙ ap (λ (t : Bool). option_map (λ (y : Image). y.segment) (cond t (Some x) (image_of xs s))) test in
        subst (λ (f : List Entry). length (text_of f) ≤ limit) (same_Some x.segment es (sym own)) all.0
    go false test later =
        later (is ∙ ap (λ (t : Bool). option_map (λ (y : Image). y.segment) (cond t (Some x) (image_of xs s))) test)

-- ---- victims

pub are_there : (images : List Image) (survivor : ℕ) (ids : List ℕ) → AreVictims images survivor ids
    → AllByRecursion (λ (s : ℕ). IsSome (segment_of images s)) ids
are_there images survivor ids all =
    all_weaker (λ (s : ℕ). IsSome (segment_of images s) × (s < survivor)) (λ (s : ℕ). IsSome (segment_of images s))
    (λ s both. both.0) ids all

pub is_victim : (images : List Image) (survivor : ℕ) (ids : List ℕ) (s : ℕ) → AreVictims images survivor ids
    → IsAmong s ids → IsSome (segment_of images s) × (s < survivor)
is_victim images survivor ids s all m =
    all_among (λ (x : ℕ). IsSome (segment_of images x) × (x < survivor)) ids s all m

-- ---- one entry more at the end of one image

module _ (images : List Image) (survivor : ℕ) (e : Entry) where
  abbrev Grown : List Image
  Grown = changed images survivor (with_unit (e ∷ []))

  -- the others are as they were
  grown_other : (s : ℕ) → (s ≡ survivor → ⊥) → segment_of Grown s ≡ segment_of images s
  grown_other s other =
      segment_changed_is survivor (with_unit (e ∷ [])) (λ x. refl) images s
      ∙ ap (λ (b : Bool). cond b (option_map (λ (x : Image). x.segment ++ e ∷ []) (image_of images survivor))
      (segment_of images s))
      (ne_eqb s survivor other)

  -- it ends with the entry
  pub grown_own : IsWhole images survivor → images_in Grown survivor ≡ images_in images survivor ++ e ∷ []
  grown_own whole = go (image_of images survivor) refl whole
    where
      go : (o : Option Image) → image_of images survivor ≡ o → IsSomeAnd o (λ (x : Image). x.is_whole ≡ true)
          → images_in Grown survivor ≡ images_in images survivor ++ e ∷ []
      go None is none = absurd none
      go (Some y) is own =
          ap (λ (o : Option Image). unwrap_or (option_map (λ (x : Image). x.segment) o) [])
          (image_changed images survivor (with_unit (e ∷ [])) y (λ x. refl) is)
          ∙ ap (λ (es : List Entry). es ++ e ∷ [])
          (sym (ap (λ (o : Option Image). unwrap_or (option_map (λ (x : Image). x.segment) o) []) is))

  -- those that are whole still are
  still_whole : (s : ℕ) → IsWhole images s → IsWhole Grown s
  still_whole s whole = go (s == survivor) refl
    where
      go : (b : Bool) → (s == survivor) ≡ b → IsWhole Grown s
      go true is =
          let own = eqb-true s survivor is in
          subst (IsWhole Grown) (sym own)
          (whole_grown images survivor (e ∷ []) (subst (IsWhole images) own whole))
      go false is =
          subst (λ (o : Option Image). IsSomeAnd o (λ (x : Image). x.is_whole ≡ true))
          (sym (other_changed survivor (with_unit (e ∷ [])) (λ x. refl) s (eqb-false s survivor is) images)) whole

  -- ---- by whether it is kept

  pub with_other : (b : Bool) (s : ℕ) → (s ≡ survivor → ⊥)
      → segment_of (images_with b survivor e images) s ≡ segment_of images s
  with_other true s other = grown_other s other
  with_other false s other = refl

  pub with_ids : (b : Bool) → map (λ (x : Image). x.id) (images_with b survivor e images)
      ≡ map (λ (x : Image). x.id) images
  with_ids true = ids_changed survivor (with_unit (e ∷ [])) (λ x. refl) images
  with_ids false = refl

  -- whatever was whole still is
  pub with_whole : (b : Bool) (s : ℕ) → IsWhole images s → IsWhole (images_with b survivor e images) s
  with_whole true s whole = still_whole s whole
  with_whole false s whole = whole

  module _ (first : ℕ) (le : first ≤ survivor) where
    pub with_victims : (b : Bool) (ids : List ℕ) → AreVictims images first ids
        → AreVictims (images_with b survivor e images) first ids
    with_victims b [] all = tt
    with_victims b (s ∷ ids) all =
        let lt = all.0.1 in
        let same = with_other b s (λ is. omega (arith, is, lt, le)) in
        ((subst (λ (o : Option (List Entry)). IsSome o) (sym same) all.0.0, lt), with_victims b ids all.1)

    pub with_same : (b : Bool) (ids : List ℕ) → AreVictims images first ids → (s : ℕ) → IsAmong s ids
        → images_in (images_with b survivor e images) s ≡ images_in images s
    with_same b ids all s m =
        let lt = (is_victim images first ids s all m).1 in
        ap (λ (o : Option (List Entry)). unwrap_or o []) (with_other b s (λ is. omega (arith, is, lt, le)))
