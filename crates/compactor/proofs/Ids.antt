-- The ids of the log set.
use Rattle.std.proofs.Common.{◌≡◌, ℕ, Bool, true, false, cond, ◌||◌, ◌==◌, List, [], ◌∷◌, ◌++◌, map, refl, sym, ap, ◌∙◌}
use Rattle.std.proofs.Common.{Bor}
use Rattle.std.specs.Prelude.{Option, Some, None, is_some}
use Rattle.std.specs.Option.{option_map, option_to_list, option_copied}
use Rattle.std.proofs.lemmas.Bool.{or_right, eq-eqb, ne_eqb}
use Rattle.std.proofs.lemmas.List.Folds.{list_any-append}
use Rattle.images.specs.Image.{Image}
use Rattle.images.specs.Sorted.{image_of, segment_of}
use Rattle.compactor.specs.Kept.{has_id}

-- the segment has an image
has_image : (xs : List Image) (id : ℕ) → has_id (map (λ (x : Image). x.id) xs) id ≡ is_some (segment_of xs id)
has_image [] id = refl
has_image (x ∷ xs) id = go (x.id == id) (has_image xs id)
  where
    go : (b : Bool) → has_id (map (λ (x : Image). x.id) xs) id ≡ is_some (segment_of xs id)
        → (b || has_id (map (λ (x : Image). x.id) xs) id)
        ≡ is_some (option_map (λ (y : Image). y.segment) (cond b (Some x) (image_of xs id)))
    go true rest = refl
    go false rest = rest

pub copied_some : {T : Type 0} (o : Option (Bor T)) → is_some (option_copied o) ≡ is_some o
copied_some None = refl
copied_some (Some x) = refl

-- whether the new head is this one
abbrev pub is_new : Option ℕ → ℕ → Bool
is_new None id = false
is_new (Some n) id = n == id

new_has : (new : Option ℕ) (id : ℕ) → has_id (option_to_list new) id ≡ is_new new id
new_has None id = refl
new_has (Some n) id = go (n == id)
  where
    go : (b : Bool) → (b || false) ≡ b
    go true = refl
    go false = refl

pub has_of : (xs : List Image) (head : ℕ) (new : Option ℕ) (id : ℕ)
    → has_id (map (λ (x : Image). x.id) xs ++ head ∷ option_to_list new) id
    ≡ (is_some (segment_of xs id) || ((head == id) || is_new new id))
has_of xs head new id =
    list_any-append (λ (z : ℕ). z == id) (map (λ (x : Image). x.id) xs) (head ∷ option_to_list new)
    ∙ ap (λ (b : Bool). b || ((head == id) || has_id (option_to_list new) id)) (has_image xs id)
    ∙ ap (λ (b : Bool). is_some (segment_of xs id) || ((head == id) || b)) (new_has new id)

-- by the three tests
module _ (xs : List Image) (head : ℕ) (new : Option ℕ) (id : ℕ) where
  abbrev ids : List ℕ
  ids = map (λ (x : Image). x.id) xs ++ head ∷ option_to_list new

  pub has_closed : is_some (segment_of xs id) ≡ true → true ≡ has_id ids id
  has_closed is = sym (has_of xs head new id ∙ ap (λ (b : Bool). b || ((head == id) || is_new new id)) is)

  pub has_head : (closed : Bool) → is_some (segment_of xs id) ≡ closed → head ≡ id → true ≡ has_id ids id
  has_head closed is same =
      sym (has_of xs head new id
      ∙ ap (λ (b : Bool). b || ((head == id) || is_new new id)) is
      ∙ ap (λ (b : Bool). closed || (b || is_new new id)) (eq-eqb head id same)
      ∙ or_right closed true refl)

  pub has_new : is_some (segment_of xs id) ≡ false → (head ≡ id → ⊥) → is_new new id ≡ has_id ids id
  has_new is other =
      sym (has_of xs head new id
      ∙ ap (λ (b : Bool). b || ((head == id) || is_new new id)) is
      ∙ ap (λ (b : Bool). b || is_new new id) (ne_eqb head id other))
