-- A place that moves: in a list, in two lists as one, and in the parts of a table.
use Rattle.std.proofs.Common.{◌≡◌, ℕ, zero, suc, ◌+◌, ◌<◌, ◌≤◌, Bool, true, false, ◌&&◌, ◌||◌, not, cond, List}
use Rattle.std.proofs.Common.{[], ◌∷◌, ◌++◌, length, get_or, set, refl, sym, ap, subst, ◌∙◌, arith}
use Rattle.std.proofs.Common.{if◌then◌else◌}
use Rattle.std.specs.Prelude.{Option, Some, None, is_some, nat_lt}
use Rattle.std.specs.List.{list_any, position, position_or_len}
use Rattle.std.proofs.lemmas.List.Folds.{list_any-append, list_any_at}
use Rattle.std.proofs.lemmas.List.Quantifiers.{position-Some}
use Rattle.places.specs.declared.place.Place.{Place}
use Rattle.places.specs.declared.place.Held.{Held}
use Rattle.place_index.specs.Steps.{HashesPass, BringsNoHash}
use Rattle.place_index.proofs.Slots.{past_none, past_tail, not_met}
use Rattle.places.specs.Lists.{holds_in, is_same, relocated_in}
use Rattle.place_index.specs.Steps.{HashesPass, BringsNoHash}

pub both_first : (a b : Bool) → (a && b) ≡ true → a ≡ true
both_first true b e = refl
both_first false b e = absurd (cc)

pub or_false : (a : Bool) → (a || false) ≡ a
or_false true = refl
or_false false = refl

pub position_is : {X : Type 0} (p : X → Bool) (xs : List X) (i : ℕ) → position p xs ≡ Some i → position_or_len p xs ≡ i
position_is p xs i some = go (nat_lt (position_or_len p xs) (length xs)) refl
  where
    go : (t : Bool) → nat_lt (position_or_len p xs) (length xs) ≡ t → position_or_len p xs ≡ i
    go true so =
        let both : position p xs ≡ Some (position_or_len p xs) =
        ap (λ (b : Bool). cond b (Some (position_or_len p xs)) None) so in
        let same : Some (position_or_len p xs) ≡ Some i = sym both ∙ some in
        cc
    go false isnt =
        let none : position p xs ≡ None = ap (λ (b : Bool). cond b (Some (position_or_len p xs)) None) isnt in
        absurd (cc)

none_passes : {X : Type 0} (p : X → Bool) (xs : List X) → length xs ≤ position_or_len p xs → list_any p xs ≡ false
none_passes p [] past = refl
none_passes p (x ∷ xs) past =
    let isnt = not_met p x xs past in
    ap (λ (b : Bool). b || list_any p xs) isnt ∙ none_passes p xs (past_tail p x xs isnt past)

module _ (h : Held) (to : Place) where
  here : (g : Held) (gs : List Held) → is_same h g ≡ true → relocated_in h to (g ∷ gs) ≡ record g { place = to } ∷ gs
  here g gs so = ap (λ (b : Bool). if b then record g { place = to } ∷ gs else g ∷ relocated_in h to gs) so

  later : (g : Held) (gs : List Held) → is_same h g ≡ false → relocated_in h to (g ∷ gs) ≡ g ∷ relocated_in h to gs
  later g gs isnt = ap (λ (b : Bool). if b then record g { place = to } ∷ gs else g ∷ relocated_in h to gs) isnt

  held_here : (g : Held) (gs : List Held) → is_same h g ≡ true → holds_in (g ∷ gs) h ≡ true
  held_here g gs so = ap (λ (b : Bool). b || holds_in gs h) so

  held_later : (g : Held) (gs : List Held) → is_same h g ≡ false → holds_in (g ∷ gs) h ≡ holds_in gs h
  held_later g gs isnt = ap (λ (b : Bool). b || holds_in gs h) isnt

  -- nothing moves where the place isn't held
  pub relocated_none : (hs : List Held) → holds_in hs h ≡ false → relocated_in h to hs ≡ hs
  relocated_none [] isnt = refl
  relocated_none (g ∷ gs) isnt = go (is_same h g) refl (relocated_none gs)
    where
      go : (t : Bool) → is_same h g ≡ t → (holds_in gs h ≡ false → relocated_in h to gs ≡ gs)
          → relocated_in h to (g ∷ gs) ≡ g ∷ gs
      go true so rest = let some = held_here g gs so in absurd (cc)
      go false other rest = later g gs other ∙ ap (λ (xs : List Held). g ∷ xs)
          (rest (sym (held_later g gs other) ∙ isnt))

  -- where the first list doesn't hold it
  pub relocated_right : (xs ys : List Held) → holds_in xs h ≡ false
      → relocated_in h to (xs ++ ys) ≡ xs ++ relocated_in h to ys
  relocated_right [] ys isnt = refl
  relocated_right (g ∷ gs) ys isnt = go (is_same h g) refl (relocated_right gs ys)
    where
      go : (t : Bool) → is_same h g ≡ t
          → (holds_in gs h ≡ false → relocated_in h to (gs ++ ys) ≡ gs ++ relocated_in h to ys)
          → relocated_in h to (g ∷ gs ++ ys) ≡ g ∷ gs ++ relocated_in h to ys
      go true so rest = let some = held_here g gs so in absurd (cc)
      go false other rest =
          later g (gs ++ ys) other
          ∙ ap (λ (zs : List Held). g ∷ zs) (rest (sym (held_later g gs other) ∙ isnt))

  -- where the first list holds_in it
  pub relocated_first : (xs ys : List Held) → holds_in xs h ≡ true
      → relocated_in h to (xs ++ ys) ≡ relocated_in h to xs ++ ys
  relocated_first [] ys is = absurd (cc)
  relocated_first (g ∷ gs) ys is = go (is_same h g) refl (relocated_first gs ys)
    where
      go : (t : Bool) → is_same h g ≡ t
          → (holds_in gs h ≡ true → relocated_in h to (gs ++ ys) ≡ relocated_in h to gs ++ ys)
          → relocated_in h to (g ∷ gs ++ ys) ≡ relocated_in h to (g ∷ gs) ++ ys
      go true so rest =
          here g (gs ++ ys) so
          ∙ ap (λ (zs : List Held). zs ++ ys) (sym (here g gs so))
      go false other rest =
          later g (gs ++ ys) other
          ∙ ap (λ (zs : List Held). g ∷ zs) (rest (sym (held_later g gs other) ∙ is))
          ∙ ap (λ (zs : List Held). zs ++ ys) (sym (later g gs other))

  -- where the second list doesn't hold it
  pub relocated_left : (xs ys : List Held) → holds_in ys h ≡ false
      → relocated_in h to (xs ++ ys) ≡ relocated_in h to xs ++ ys
  relocated_left xs ys isnt = go (holds_in xs h) refl
    where
      go : (t : Bool) → holds_in xs h ≡ t → relocated_in h to (xs ++ ys) ≡ relocated_in h to xs ++ ys
      go true is = relocated_first xs ys is
      go false none =
          relocated_right xs ys none
          ∙ ap (λ (zs : List Held). xs ++ zs) (relocated_none ys isnt)
          ∙ ap (λ (zs : List Held). zs ++ ys) (sym (relocated_none xs none))

  -- no hash comes in
  pub relocated_brings : (hs : List Held) → BringsNoHash hs (relocated_in h to hs)
  relocated_brings [] p all = tt
  relocated_brings (g ∷ gs) p all = go (is_same h g) refl (relocated_brings gs p)
    where
      go : (t : Bool) → is_same h g ≡ t → (HashesPass p gs → HashesPass p (relocated_in h to gs))
          → HashesPass p (relocated_in h to (g ∷ gs))
      go true so rest = subst (λ (xs : List Held). HashesPass p xs) (sym (here g gs so)) (all.0, all.1)
      go false other rest = subst (λ (xs : List Held). HashesPass p xs) (sym (later g gs other)) (all.0, rest all.1)

  pub relocated_len : (hs : List Held) → length (relocated_in h to hs) ≡ length hs
  relocated_len [] = refl
  relocated_len (g ∷ gs) = go (is_same h g) refl (relocated_len gs)
    where
      go : (t : Bool) → is_same h g ≡ t → length (relocated_in h to gs) ≡ length gs
          → length (relocated_in h to (g ∷ gs)) ≡ length (g ∷ gs)
      go true so rest = ap (λ (xs : List Held). length xs) (here g gs so)
      go false other rest = ap (λ (xs : List Held). length xs) (later g gs other) ∙ ap (λ (n : ℕ). suc n) rest

  -- ---- the slot that a walk finds

  slot_moves : (hs : List Held) (n : ℕ) (d : Held) → position_or_len (is_same h) hs ≡ n → n < length hs
      → set hs n (record { hash = (get_or hs n d).hash; place = to }) ≡ relocated_in h to hs
  slot_moves [] n d e below = absurd (omega arith)
  slot_moves (g ∷ gs) n d e below = go (is_same h g) refl n e below (λ k. slot_moves gs k d)
    where
      go : (t : Bool) → is_same h g ≡ t → (m : ℕ) → position_or_len (is_same h) (g ∷ gs) ≡ m → m < length (g ∷ gs)
          → ((k : ℕ) → position_or_len (is_same h) gs ≡ k → k < length gs
          → set gs k (record { hash = (get_or gs k d).hash; place = to }) ≡ relocated_in h to gs)
          → set (g ∷ gs) m (record { hash = (get_or (g ∷ gs) m d).hash; place = to }) ≡ relocated_in h to (g ∷ gs)
      go true so zero e below rest = sym (here g gs so)
      go true so (suc m) e below rest =
          let none : position_or_len (is_same h) (g ∷ gs) ≡ 0 =
          ap (λ (b : Bool). cond (not b) (1 + position_or_len (is_same h) gs) 0) so in
          absurd (omega arith)
      go false other zero e below rest =
          let some : position_or_len (is_same h) (g ∷ gs) ≡ 1 + position_or_len (is_same h) gs =
          ap (λ (b : Bool). cond (not b) (1 + position_or_len (is_same h) gs) 0) other in
          absurd (omega arith)
      go false other (suc m) e below rest =
          let some : position_or_len (is_same h) (g ∷ gs) ≡ 1 + position_or_len (is_same h) gs =
          ap (λ (b : Bool). cond (not b) (1 + position_or_len (is_same h) gs) 0) other in
          ap (λ (xs : List Held). g ∷ xs) (rest m (omega arith) (omega arith)) ∙ sym (later g gs other)

  pub slot_relocated : (hs : List Held) (i : ℕ) (d : Held) → position (is_same h) hs ≡ Some i
      → set hs i (record { hash = (get_or hs i d).hash; place = to }) ≡ relocated_in h to hs
  slot_relocated hs i d some = slot_moves hs i d (position_is (is_same h) hs i some)
      (position-Some (is_same h) hs i d some).0

  pub slot_relocates : (hs : List Held) (i : ℕ) (x : Held) → position (is_same h) hs ≡ Some i → x ≡ get_or hs i x
      → set hs i (record { hash = x.hash; place = to }) ≡ relocated_in h to hs
  slot_relocates hs i x some at =
      ap (λ (y : Held). set hs i (record { hash = y.hash; place = to })) at ∙ slot_relocated hs i x some

module _ (h : Held) where
  pub slot_holds : (hs : List Held) (i : ℕ) → position (is_same h) hs ≡ Some i → holds_in hs h ≡ true
  slot_holds hs i some =
      let at = position-Some (is_same h) hs i h some in
      list_any_at (is_same h) hs i h at.0 at.1

  pub slot_lacks : (hs : List Held) → position (is_same h) hs ≡ None → holds_in hs h ≡ false
  slot_lacks hs none = none_passes (is_same h) hs (past_none (is_same h) hs none)

  pub slot_tells : (hs : List Held) (o : Option ℕ) → o ≡ position (is_same h) hs → is_some o ≡ holds_in hs h
  slot_tells hs None e = sym (slot_lacks hs (sym e))
  slot_tells hs (Some i) e = sym (slot_holds hs i (sym e))

  pub holds_append : (xs ys : List Held) → holds_in (xs ++ ys) h ≡ (holds_in xs h || holds_in ys h)
  holds_append xs ys = list_any-append (is_same h) xs ys

  pub lacks_both : (xs ys : List Held) → holds_in xs h ≡ false → holds_in ys h ≡ false → holds_in (xs ++ ys) h ≡ false
  lacks_both xs ys first second = holds_append xs ys ∙ ap (λ (b : Bool). b || holds_in ys h) first ∙ second
