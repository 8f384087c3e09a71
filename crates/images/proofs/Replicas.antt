-- How many replicas images have after a step, for callers.
use Rattle.std.proofs.Common.{◌≡◌, ℕ, Bool, true, false, List, [], ◌∷◌, map, refl, sym, ap, ◌∙◌}
use Rattle.std.specs.Prelude.{◌==◌, if◌then◌else◌, Option, Some, None}
use Rattle.std.specs.Option.{option_map, option_map_or}
use Rattle.std.proofs.lemmas.Bool.{eqb-true}
use Rattle.images.specs.Image.{Image}
use Rattle.images.specs.Sorted.{image_of, replicas_of, added, changed, without}
use Rattle.images.proofs.Adding.{image_found}
use Rattle.images.proofs.Finding.{image_changed_is, image_without_is}

-- those of an image, if there is one
abbrev pub replicas_in : Option Image → ℕ
replicas_in o = option_map_or (λ (x : Image). x.replicas) o 0

-- one more image
pub replicas_added : (image : Image) (xs : List Image) (id : ℕ) → image_of xs image.id ≡ None
    → replicas_of (added image xs) id ≡ if image.id == id then image.replicas else replicas_of xs id
replicas_added image xs id none = ap replicas_in (image_found image xs id none) ∙ go (image.id == id)
  where
    go : (t : Bool) → replicas_in (if t then Some image else image_of xs id)
        ≡ if t then image.replicas else replicas_of xs id
    go true = refl
    go false = refl

-- without one
pub replicas_without : (xs : List Image) (id other : ℕ)
    → replicas_of (without xs id) other ≡ if other == id then 0 else replicas_of xs other
replicas_without xs id other = ap replicas_in (image_without_is xs id other) ∙ go (other == id)
  where
    go : (t : Bool) → replicas_in (if t then None else image_of xs other) ≡ if t then 0 else replicas_of xs other
    go true = refl
    go false = refl

-- one changed
pub replicas_changed : (xs : List Image) (id other : ℕ) (f : Image → Image) → ((x : Image) → (f x).id ≡ x.id)
    → replicas_of (changed xs id f) other
    ≡ if other == id then option_map_or (λ (x : Image). (f x).replicas) (image_of xs id) 0 else replicas_of xs other
replicas_changed xs id other f same =
    ap replicas_in (image_changed_is id f same xs other) ∙ go (other == id) (image_of xs id)
  where
    go : (t : Bool) (o : Option Image) → replicas_in (if t then option_map f o else image_of xs other)
        ≡ if t then option_map_or (λ (x : Image). (f x).replicas) o 0 else replicas_of xs other
    go true None = refl
    go true (Some x) = refl
    go false o = refl

-- a change that leaves them
pub replicas_kept : (xs : List Image) (id other : ℕ) (f : Image → Image) → ((x : Image) → (f x).id ≡ x.id)
    → ((x : Image) → (f x).replicas ≡ x.replicas) → replicas_of (changed xs id f) other ≡ replicas_of xs other
replicas_kept xs id other f same keeps =
    replicas_changed xs id other f same ∙ go (other == id) refl
  where
    own : (o : Option Image) → option_map_or (λ (x : Image). (f x).replicas) o 0 ≡ replicas_in o
    own None = refl
    own (Some x) = keeps x

    go : (t : Bool) → (other == id) ≡ t
        → (if t then option_map_or (λ (x : Image). (f x).replicas) (image_of xs id) 0 else replicas_of xs other)
        ≡ replicas_of xs other
    go true is = own (image_of xs id) ∙ ap (λ (n : ℕ). replicas_of xs n) (sym (eqb-true other id is))
    go false is = refl

-- all changed
module _ (f : Image → Image) (same : (x : Image) → (f x).id ≡ x.id) where
  pub image_mapped : (xs : List Image) (id : ℕ) → image_of (map f xs) id ≡ option_map f (image_of xs id)
  image_mapped [] id = refl
  image_mapped (x ∷ xs) id = go (x.id == id) refl (image_mapped xs id)
    where
      go : (t : Bool) → (x.id == id) ≡ t → image_of (map f xs) id ≡ option_map f (image_of xs id)
          → image_of (map f (x ∷ xs)) id ≡ option_map f (image_of (x ∷ xs) id)
      go true is rest = (let test : ((f x).id == id) ≡ true = ap (λ (n : ℕ). n == id) (same x) ∙ is in
          rw (is, test) refl)
      go false is rest = (let test : ((f x).id == id) ≡ false = ap (λ (n : ℕ). n == id) (same x) ∙ is in
          rw (is, test) rest)

  pub replicas_mapped : (xs : List Image) (id : ℕ)
      → replicas_of (map f xs) id ≡ option_map_or (λ (x : Image). (f x).replicas) (image_of xs id) 0
  replicas_mapped xs id = ap replicas_in (image_mapped xs id) ∙ go (image_of xs id)
    where
      go : (o : Option Image)
          → replicas_in (option_map f o) ≡ option_map_or (λ (x : Image). (f x).replicas) o 0
      go None = refl
      go (Some x) = refl
