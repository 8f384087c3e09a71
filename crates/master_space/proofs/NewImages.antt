-- What is found and counted when the images of new survivors follow those of other segments.
use Rattle.std.proofs.Common.{◌≡◌, ℕ, ◌+◌, ◌*◌, inl, inr, Bool, true, false, List, [], ◌∷◌, ◌++◌, map}
use Rattle.std.proofs.Common.{length, refl, ap, arith}
use Rattle.std.specs.Prelude.{Some, None, ◌==◌, sum_by}
use Rattle.std.proofs.lemmas.Bool.{eqb-true, eq-eqb, ne_eqb}
use Rattle.std.proofs.lemmas.List.Sums.{sum_by-cons}
use Rattle.entry.specs.Bag.{IsAmong}
use Rattle.images.specs.Image.{Image}
use Rattle.images.specs.Images.{count_of}
use Rattle.images.specs.Sorted.{image_of}
use Rattle.master_state.specs.declared.config.Config.{Config}
use Rattle.master_state.specs.Budget.{whole_seglets}
use Rattle.master_state.specs.Images.{survivor_image, survivor_images}

-- what is found among images that come one after the other
pub found_behind : (xs ys : List Image) (s : ℕ) → image_of xs s ≡ None → image_of (xs ++ ys) s ≡ image_of ys s
found_behind [] ys s none = refl
found_behind (x ∷ xs) ys s none = go (x.id == s) refl (found_behind xs ys s) where
  go : (t : Bool) → (x.id == s) ≡ t → (image_of xs s ≡ None → image_of (xs ++ ys) s ≡ image_of ys s)
      → image_of ((x ∷ xs) ++ ys) s ≡ image_of ys s
  go true is later = (let found : Some x ≡ None = rw is at none in absurd (cc))
  go false is later = (let rest : image_of xs s ≡ None = rw is at none in rw is (later rest))

pub found_before : (xs ys : List Image) (s : ℕ) → image_of ys s ≡ None → image_of (xs ++ ys) s ≡ image_of xs s
found_before [] ys s none = none
found_before (x ∷ xs) ys s none = go (x.id == s) refl (found_before xs ys s none) where
  go : (t : Bool) → (x.id == s) ≡ t → image_of (xs ++ ys) s ≡ image_of xs s
      → image_of ((x ∷ xs) ++ ys) s ≡ image_of (x ∷ xs) s
  go true is later = rw is refl
  go false is later = rw is later

module _ (c : Config) where
  pub new_found : (ids : List ℕ) (s : ℕ) → IsAmong s ids
      → image_of (survivor_images c ids) s ≡ Some (survivor_image c s)
  new_found [] s m = absurd m
  new_found (z ∷ ids) s m = go (z == s) refl m (λ later. new_found ids s later) where
    go : (t : Bool) → (z == s) ≡ t → IsAmong s (z ∷ ids)
        → (IsAmong s ids → image_of (survivor_images c ids) s ≡ Some (survivor_image c s))
        → image_of (survivor_images c (z ∷ ids)) s ≡ Some (survivor_image c s)
    go true is m later = rw is (ap (λ (x : ℕ). Some (survivor_image c x)) (eqb-true z s is))
    go false is (inl same) later = (let here = eq-eqb z s same in absurd (cc))
    go false is (inr m) later = rw is (later m)

  pub new_other : (ids : List ℕ) (s : ℕ) → (IsAmong s ids → ⊥) → image_of (survivor_images c ids) s ≡ None
  new_other [] s out = refl
  new_other (z ∷ ids) s out =
      let away = ne_eqb z s (λ same. out (inl same)) in rw away (new_other ids s (λ m. out (inr m)))

  pub new_ids : (ids : List ℕ) → map (λ (x : Image). x.id) (survivor_images c ids) ≡ ids
  new_ids [] = refl
  new_ids (z ∷ ids) = ap (λ (zs : List ℕ). z ∷ zs) (new_ids ids)

  -- each counts whole
  pub new_count : (ids : List ℕ)
      → sum_by (count_of c.segment c.seglet) (survivor_images c ids) ≡ length ids * whole_seglets c
  new_count [] = omega arith
  new_count (z ∷ ids) =
      let first = sum_by-cons (count_of c.segment c.seglet) (survivor_image c z) (survivor_images c ids) in
      let later = new_count ids in
      let product : length (z ∷ ids) * whole_seglets c ≡ whole_seglets c + length ids * whole_seglets c = omega arith in
      omega (arith, first, later, product)
