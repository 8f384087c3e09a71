-- Two lists of places as one.
use Rattle.std.proofs.Common.{◌≡◌, true, false, List, [], ◌∷◌, ◌++◌, append_assoc, sym, ap, subst, ◌∙◌}
use Rattle.std.specs.Prelude.{Result, Ok, Err, OnOk}
use Rattle.entry.proofs.ListLemmas.{all_append, all_split}
use Rattle.places.specs.declared.place.Place.{Place}
use Rattle.places.specs.declared.place.Held.{Held}
use Rattle.place_index.specs.Steps.{BringsNoHash, IsShuffled}
use Rattle.place_index.proofs.Joining.{shuffled_itself, shuffled_then, shuffled_left, shuffled_right, shuffled_turned}
use Rattle.place_index.proofs.Relocating.{relocated_first, relocated_right, relocated_none}
use Rattle.places.specs.Lists.{holds_in, relocated_in}

module _ (h : Held) (to : Place) (xs ys : List Held) where
  pub relocated_in_first : (new : List Held) → holds_in xs h ≡ true → new ≡ relocated_in h to xs
      → new ++ ys ≡ relocated_in h to (xs ++ ys)
  relocated_in_first new is moved = ap (λ (zs : List Held). zs ++ ys) moved ∙ sym (relocated_first h to xs ys is)

  pub relocated_in_other : (new others : List Held) → holds_in xs h ≡ false → new ≡ relocated_in h to xs
      → others ≡ relocated_in h to ys → new ++ others ≡ relocated_in h to (xs ++ ys)
  relocated_in_other new others isnt first second =
      ap (λ (zs : List Held). zs ++ others) (first ∙ relocated_none h to xs isnt)
      ∙ ap (λ (zs : List Held). xs ++ zs) second
      ∙ sym (relocated_right h to xs ys isnt)

-- ---- one place more

module _ (h : Held) (xs new : List Held) where
  -- a place behind those in front
  module _ (filled : new ≡ xs ++ h ∷ []) where
    pub filled_itself : IsShuffled (xs ++ h ∷ []) new
    filled_itself = subst (λ (zs : List Held). IsShuffled (xs ++ h ∷ []) zs) (sym filled)
        (shuffled_itself (xs ++ h ∷ []))

    pub filled_same : BringsNoHash (xs ++ h ∷ []) new
    filled_same = subst (λ (zs : List Held). BringsNoHash (xs ++ h ∷ []) zs) (sym filled) (λ p all. all)

module _ (h : Held) (xs ys new : List Held) where
  -- one of those in front
  pub filled_shuffled : IsShuffled (xs ++ h ∷ []) new → IsShuffled ((xs ++ ys) ++ h ∷ []) (new ++ ys)
  filled_shuffled filled =
      let turned = shuffled_right xs (ys ++ h ∷ []) (h ∷ ys) (shuffled_turned ys (h ∷ [])) in
      let start = subst (λ (zs : List Held). IsShuffled zs (xs ++ h ∷ ys)) (sym (append_assoc xs ys (h ∷ []))) turned in
      let whole = subst (λ (zs : List Held). IsShuffled zs (new ++ ys)) (append_assoc xs (h ∷ []) ys)
      (shuffled_left (xs ++ h ∷ []) new ys filled) in
      shuffled_then ((xs ++ ys) ++ h ∷ []) (xs ++ h ∷ ys) (new ++ ys) start whole

  pub filled_brings : BringsNoHash (xs ++ h ∷ []) new → BringsNoHash ((xs ++ ys) ++ h ∷ []) (new ++ ys)
  filled_brings filled p all =
      let P = λ (y : Held). p y.hash ≡ true in
      let parts = all_split P (xs ++ ys) (h ∷ []) all in
      let old = all_split P xs ys parts.0 in
      all_append P new ys (filled p (all_append P xs (h ∷ []) old.0 parts.1)) old.1

  -- one of the others
  pub pushed_is : (others : List Held) → new ≡ xs → others ≡ ys ++ h ∷ [] → (xs ++ ys) ++ h ∷ [] ≡ new ++ others
  pushed_is others same pushed =
      append_assoc xs ys (h ∷ [])
      ∙ ap (λ (zs : List Held). zs ++ (ys ++ h ∷ [])) (sym same)
      ∙ ap (λ (zs : List Held). new ++ zs) (sym pushed)

  pub pushed_shuffled : {E : Type 0} (others : List Held) (r : Result (Unit {0}) E) → new ≡ xs
      → OnOk r (others ≡ ys ++ h ∷ []) → OnOk r (IsShuffled ((xs ++ ys) ++ h ∷ []) (new ++ others))
  pushed_shuffled others (Ok u) same pushed =
      subst (λ (zs : List Held). IsShuffled ((xs ++ ys) ++ h ∷ []) zs) (pushed_is others same pushed)
      (shuffled_itself ((xs ++ ys) ++ h ∷ []))
  pushed_shuffled others (Err e) same pushed = pushed

  pub pushed_brings : {E : Type 0} (others : List Held) (r : Result (Unit {0}) E) → new ≡ xs
      → OnOk r (others ≡ ys ++ h ∷ []) → OnOk r (BringsNoHash ((xs ++ ys) ++ h ∷ []) (new ++ others))
  pushed_brings others (Ok u) same pushed =
      subst (λ (zs : List Held). BringsNoHash ((xs ++ ys) ++ h ∷ []) zs) (pushed_is others same pushed) (λ p all. all)
  pushed_brings others (Err e) same pushed = pushed

-- ---- all places of both, one list after the other

pub shuffled_parts : {E : Type 0} (start mid new xs ys all : List Held) (r : Result (Unit {0}) E) → xs ++ ys ≡ all
    → IsShuffled (start ++ xs) mid → OnOk r (IsShuffled (mid ++ ys) new) → OnOk r (IsShuffled (start ++ all) new)
shuffled_parts start mid new xs ys all (Ok u) whole first second =
    let same : (start ++ xs) ++ ys ≡ start ++ all = append_assoc start xs ys
    ∙ ap (λ (zs : List Held). start ++ zs) whole in
    subst (λ (zs : List Held). IsShuffled zs new) same
    (shuffled_then ((start ++ xs) ++ ys) (mid ++ ys) new (shuffled_left (start ++ xs) mid ys first) second)
shuffled_parts start mid new xs ys all (Err e) whole first second = second
