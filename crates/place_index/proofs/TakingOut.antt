-- A place that is taken out: of a list, of two lists as one, and of the parts of a table.
use Rattle.std.proofs.Common.{◌≡◌, ℕ, zero, suc, ◌+◌, ◌<◌, Bool, true, false, ◌||◌, not, cond, List, [], ◌∷◌, ◌++◌}
use Rattle.std.proofs.Common.{length}
use Rattle.std.proofs.Common.{refl, sym, ap, subst, ◌∙◌, arith, if◌then◌else◌}
use Rattle.std.specs.Prelude.{Some}
use Rattle.std.specs.List.{position, position_or_len, remove}
use Rattle.std.proofs.lemmas.List.Quantifiers.{position-Some}
use Rattle.places.specs.declared.place.Held.{Held}
use Rattle.place_index.specs.Steps.{HashesPass, BringsNoHash}
use Rattle.place_index.proofs.Relocating.{position_is}
use Rattle.places.specs.Lists.{holds_in, is_same, without}
use Rattle.place_index.specs.Steps.{HashesPass, BringsNoHash}

module _ (h : Held) where
  here : (g : Held) (gs : List Held) → is_same h g ≡ true → without h (g ∷ gs) ≡ gs
  here g gs so = ap (λ (b : Bool). if b then gs else g ∷ without h gs) so

  later : (g : Held) (gs : List Held) → is_same h g ≡ false → without h (g ∷ gs) ≡ g ∷ without h gs
  later g gs isnt = ap (λ (b : Bool). if b then gs else g ∷ without h gs) isnt

  held_here : (g : Held) (gs : List Held) → is_same h g ≡ true → holds_in (g ∷ gs) h ≡ true
  held_here g gs so = ap (λ (b : Bool). b || holds_in gs h) so

  held_later : (g : Held) (gs : List Held) → is_same h g ≡ false → holds_in (g ∷ gs) h ≡ holds_in gs h
  held_later g gs isnt = ap (λ (b : Bool). b || holds_in gs h) isnt

  -- nothing is taken out where the place isn't held
  pub without_none : (hs : List Held) → holds_in hs h ≡ false → without h hs ≡ hs
  without_none [] isnt = refl
  without_none (g ∷ gs) isnt = go (is_same h g) refl (without_none gs)
    where
      go : (t : Bool) → is_same h g ≡ t → (holds_in gs h ≡ false → without h gs ≡ gs) → without h (g ∷ gs) ≡ g ∷ gs
      go true so rest = let some = held_here g gs so in absurd (cc)
      go false other rest = later g gs other ∙ ap (λ (xs : List Held). g ∷ xs)
          (rest (sym (held_later g gs other) ∙ isnt))

  -- where the first list doesn't hold it
  pub without_right : (xs ys : List Held) → holds_in xs h ≡ false → without h (xs ++ ys) ≡ xs ++ without h ys
  without_right [] ys isnt = refl
  without_right (g ∷ gs) ys isnt = go (is_same h g) refl (without_right gs ys)
    where
      go : (t : Bool) → is_same h g ≡ t → (holds_in gs h ≡ false → without h (gs ++ ys) ≡ gs ++ without h ys)
          → without h (g ∷ gs ++ ys) ≡ g ∷ gs ++ without h ys
      go true so rest = let some = held_here g gs so in absurd (cc)
      go false other rest =
          later g (gs ++ ys) other
          ∙ ap (λ (zs : List Held). g ∷ zs) (rest (sym (held_later g gs other) ∙ isnt))

  -- where the first list holds_in it
  pub without_first : (xs ys : List Held) → holds_in xs h ≡ true → without h (xs ++ ys) ≡ without h xs ++ ys
  without_first [] ys is = absurd (cc)
  without_first (g ∷ gs) ys is = go (is_same h g) refl (without_first gs ys)
    where
      go : (t : Bool) → is_same h g ≡ t → (holds_in gs h ≡ true → without h (gs ++ ys) ≡ without h gs ++ ys)
          → without h (g ∷ gs ++ ys) ≡ without h (g ∷ gs) ++ ys
      go true so rest = here g (gs ++ ys) so ∙ ap (λ (zs : List Held). zs ++ ys) (sym (here g gs so))
      go false other rest =
          later g (gs ++ ys) other
          ∙ ap (λ (zs : List Held). g ∷ zs) (rest (sym (held_later g gs other) ∙ is))
          ∙ ap (λ (zs : List Held). zs ++ ys) (sym (later g gs other))

  -- where the second list doesn't hold it
  pub without_left : (xs ys : List Held) → holds_in ys h ≡ false → without h (xs ++ ys) ≡ without h xs ++ ys
  without_left xs ys isnt = go (holds_in xs h) refl
    where
      go : (t : Bool) → holds_in xs h ≡ t → without h (xs ++ ys) ≡ without h xs ++ ys
      go true is = without_first xs ys is
      go false none =
          without_right xs ys none
          ∙ ap (λ (zs : List Held). xs ++ zs) (without_none ys isnt)
          ∙ ap (λ (zs : List Held). zs ++ ys) (sym (without_none xs none))

  -- no hash comes in
  pub without_brings : (hs : List Held) → BringsNoHash hs (without h hs)
  without_brings [] p all = tt
  without_brings (g ∷ gs) p all = go (is_same h g) refl (without_brings gs p)
    where
      go : (t : Bool) → is_same h g ≡ t → (HashesPass p gs → HashesPass p (without h gs))
          → HashesPass p (without h (g ∷ gs))
      go true so rest = subst (λ (xs : List Held). HashesPass p xs) (sym (here g gs so)) all.1
      go false other rest = subst (λ (xs : List Held). HashesPass p xs) (sym (later g gs other)) (all.0, rest all.1)

  pub without_len : (hs : List Held) → holds_in hs h ≡ true → length (without h hs) + 1 ≡ length hs
  without_len [] is = absurd (cc)
  without_len (g ∷ gs) is = go (is_same h g) refl (without_len gs)
    where
      go : (t : Bool) → is_same h g ≡ t → (holds_in gs h ≡ true → length (without h gs) + 1 ≡ length gs)
          → length (without h (g ∷ gs)) + 1 ≡ length (g ∷ gs)
      go true so rest =
          let less : length (without h (g ∷ gs)) ≡ length gs = ap (λ (xs : List Held). length xs) (here g gs so) in
          omega arith
      go false other rest =
          let less : length (without h (g ∷ gs)) ≡ suc (length (without h gs)) =
          ap (λ (xs : List Held). length xs) (later g gs other) in
          let tail = rest (sym (held_later g gs other) ∙ is) in
          omega arith

  -- ---- the slot that a walk finds

  slot_cuts : (hs : List Held) (n : ℕ) → position_or_len (is_same h) hs ≡ n → n < length hs → remove hs n ≡ without h hs
  slot_cuts [] n e below = absurd (omega arith)
  slot_cuts (g ∷ gs) n e below = go (is_same h g) refl n e below (slot_cuts gs)
    where
      go : (t : Bool) → is_same h g ≡ t → (m : ℕ) → position_or_len (is_same h) (g ∷ gs) ≡ m → m < length (g ∷ gs)
          → ((k : ℕ) → position_or_len (is_same h) gs ≡ k → k < length gs → remove gs k ≡ without h gs)
          → remove (g ∷ gs) m ≡ without h (g ∷ gs)
      go true so zero e below rest = sym (here g gs so)
      go true so (suc m) e below rest =
          let none : position_or_len (is_same h) (g ∷ gs) ≡ 0 =
          ap (λ (b : Bool). cond (not b) (1 + position_or_len (is_same h) gs) 0) so in
          absurd (omega arith)
      go false other zero e below rest =
          let some : position_or_len (is_same h) (g ∷ gs) ≡ 1 + position_or_len (is_same h) gs =
          ap (λ (b : Bool). cond (not b) (1 + position_or_len (is_same h) gs) 0) other in
          absurd (omega arith)
      go false other (suc m) e below rest =
          let some : position_or_len (is_same h) (g ∷ gs) ≡ 1 + position_or_len (is_same h) gs =
          ap (λ (b : Bool). cond (not b) (1 + position_or_len (is_same h) gs) 0) other in
          ap (λ (xs : List Held). g ∷ xs) (rest m (omega arith) (omega arith)) ∙ sym (later g gs other)

  pub slot_without : (hs : List Held) (i : ℕ) → position (is_same h) hs ≡ Some i → remove hs i ≡ without h hs
  slot_without hs i some = slot_cuts hs i (position_is (is_same h) hs i some) (position-Some (is_same h) hs i h some).0

  -- ---- two lists

  module _ (xs ys new : List Held) (taken : new ≡ without h xs) where
    pub without_in_first : holds_in xs h ≡ true → new ++ ys ≡ without h (xs ++ ys)
    without_in_first is = ap (λ (zs : List Held). zs ++ ys) taken ∙ sym (without_first xs ys is)

    pub without_in_other : (others : List Held) → holds_in xs h ≡ false → others ≡ without h ys
        → new ++ others ≡ without h (xs ++ ys)
    without_in_other others isnt second =
        ap (λ (zs : List Held). zs ++ others) (taken ∙ without_none xs isnt)
        ∙ ap (λ (zs : List Held). xs ++ zs) second
        ∙ sym (without_right xs ys isnt)
