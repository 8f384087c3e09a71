-- Members and places of lists, and one image replaced.
use Rattle.std.proofs.Common.{◌≡◌, ℕ, zero, suc, ◌⊎◌, inl, inr, List, [], ◌∷◌, ◌++◌, length, refl, sym, ap, subst, ◌∙◌}
use Rattle.std.specs.Prelude.{◌==◌, true}
use Rattle.std.proofs.lemmas.Bool.{cases_eq, ne_eqb}
use Rattle.std.proofs.lemmas.Bool.Decides.{Decides-eqb}
use Rattle.entry.specs.declared.entry.Entry.{Entry}
use Rattle.entry.specs.Bag.{IsAmong}
use Rattle.entry.proofs.BagLemmas.{among_left, among_push, among_last}
use Rattle.log_laws.specs.Memory.{Images, IsAt, ImagesHave, with_image, grown}

-- ---- members

pub equal_true : (a b : ℕ) → a ≡ b → (a == b) ≡ true
equal_true a b = (Decides-eqb a b).1

pub among_tells : (a : ℕ) (xs : List ℕ) → IsAmong a xs ⊎ (IsAmong a xs → ⊥)
among_tells a [] = inr (λ h. h)
among_tells a (x ∷ xs) = elim (cases_eq x a) [
  | inl same ↦ inl (inl same)
  | inr not ↦ elim (among_tells a xs) [
    | inl m ↦ inl (inr m)
    | inr none ↦ inr (λ h. elim h [ inl same ↦ not same | inr m ↦ none m ])
  ]
]

-- a member is no other element that isn't one
pub member_differs : (ids : List ℕ) (s t : ℕ) → IsAmong s ids → (IsAmong t ids → ⊥) → s ≡ t → ⊥
member_differs ids s t m none same = none (subst (λ (y : ℕ). IsAmong y ids) same m)

-- ---- places

pub among_at : {X : Type 0} (xs : List X) (i : ℕ) (x : X) → IsAt xs i x → IsAmong x xs
among_at [] i x h = h
among_at (y ∷ ys) zero x h = inl h
among_at (y ∷ ys) (suc i) x h = inr (among_at ys i x h)

pub place_of : {X : Type 0} (xs : List X) (x : X) → IsAmong x xs → (i : ℕ) × IsAt xs i x
place_of [] x h = absurd h
place_of (y ∷ ys) x (inl e) = (0, e)
place_of (y ∷ ys) x (inr m) = let p = place_of ys x m in (suc p.0, p.1)

pub at_one : {X : Type 0} (xs : List X) (i : ℕ) (x y : X) → IsAt xs i x → IsAt xs i y → x ≡ y
at_one [] i x y a b = absurd a
at_one (z ∷ zs) zero x y a b = sym a ∙ b
at_one (z ∷ zs) (suc i) x y a b = at_one zs i x y a b

at_left : {X : Type 0} (xs ys : List X) (i : ℕ) (x : X) → IsAt xs i x → IsAt (xs ++ ys) i x
at_left [] ys i x h = absurd h
at_left (z ∷ xs) ys zero x h = h
at_left (z ∷ xs) ys (suc i) x h = at_left xs ys i x h

at_last : {X : Type 0} (xs : List X) (x : X) → IsAt (xs ++ x ∷ []) (length xs) x
at_last [] x = refl
at_last (y ∷ xs) x = at_last xs x

-- ---- one image replaced

module _ (image : Images) (s : ℕ) (es : List Entry) where
  pub image_here : with_image image s es s ≡ es
  image_here = let e = equal_true s s refl in rw e refl

  pub image_there : (z : ℕ) → (z ≡ s → ⊥) → with_image image s es z ≡ image z
  image_there z other = let e = ne_eqb z s other in rw e refl

  pub with_out : (z : ℕ) (e : Entry) → IsAmong e (with_image image s es z)
      → ((z ≡ s) × IsAmong e es) ⊎ ((z ≡ s → ⊥) × IsAmong e (image z))
  with_out z e m = elim (cases_eq z s) [
    | inl same ↦ inl (same, subst (λ (xs : List Entry). IsAmong e xs) (ap (with_image image s es) same ∙ image_here) m)
    | inr other ↦ inr (other, subst (λ (xs : List Entry). IsAmong e xs) (image_there z other) m)
  ]

  pub with_here : (z : ℕ) (e : Entry) → z ≡ s → IsAmong e es → IsAmong e (with_image image s es z)
  with_here z e same m =
      subst (λ (xs : List Entry). IsAmong e xs) (sym (ap (with_image image s es) same ∙ image_here)) m

  pub with_there : (z : ℕ) (e : Entry) → (z ≡ s → ⊥) → IsAmong e (image z) → IsAmong e (with_image image s es z)
  with_there z e other m = subst (λ (xs : List Entry). IsAmong e xs) (sym (image_there z other)) m

  pub have_there : (ids : List ℕ) (e : Entry) → (IsAmong s ids → ⊥) → ImagesHave ids image e
      → ImagesHave ids (with_image image s es) e
  have_there ids e not m =
      let among = with_there m.0 e (member_differs ids m.0 s m.1.counts not) m.1.among in
      (m.0, record { counts = m.1.counts; among = among })

  pub at_here : (z : ℕ) (i : ℕ) (e : Entry) → z ≡ s → IsAt es i e → IsAt (with_image image s es z) i e
  at_here z i e same m =
      subst (λ (xs : List Entry). IsAt xs i e) (sym (ap (with_image image s es) same ∙ image_here)) m

  pub at_there : (z : ℕ) (i : ℕ) (e : Entry) → (z ≡ s → ⊥) → IsAt (image z) i e → IsAt (with_image image s es z) i e
  at_there z i e other m = subst (λ (xs : List Entry). IsAt xs i e) (sym (image_there z other)) m

  pub at_from : (z : ℕ) (i : ℕ) (e : Entry) → (z ≡ s → ⊥) → IsAt (with_image image s es z) i e → IsAt (image z) i e
  at_from z i e other m = subst (λ (xs : List Entry). IsAt xs i e) (image_there z other) m

-- ---- one image grown by an entry

module _ (image : Images) (s : ℕ) (e : Entry) where
  pub grown_in : (z : ℕ) (f : Entry) → IsAmong f (image z) → IsAmong f (grown image s e z)
  grown_in z f m = elim (cases_eq z s) [
    | inl same ↦ with_here image s _ z f same
        (among_left f (image s) (e ∷ []) (subst (λ (y : ℕ). IsAmong f (image y)) same m))
    | inr other ↦ with_there image s _ z f other m
  ]

  pub have_grown : (ids : List ℕ) (f : Entry) → ImagesHave ids image f → ImagesHave ids (grown image s e) f
  have_grown ids f m = (m.0, record { counts = m.1.counts; among = grown_in m.0 f m.1.among })

  pub grown_last : IsAmong e (grown image s e s)
  grown_last = with_here image s _ s e refl (among_last (image s) e)

  pub grown_out : (z : ℕ) (f : Entry) → IsAmong f (grown image s e z) → IsAmong f (image z) ⊎ ((z ≡ s) × (e ≡ f))
  grown_out z f m = elim (with_out image s (image s ++ e ∷ []) z f m) [
    | inl w ↦ elim (among_push f (image s) e w.1) [
      | inl a ↦ inl (subst (λ (y : ℕ). IsAmong f (image y)) (sym w.0) a)
      | inr p ↦ inr (w.0, p)
    ]
    | inr w ↦ inl w.1
  ]

  pub at_grown : (z : ℕ) (i : ℕ) (f : Entry) → IsAt (image z) i f → IsAt (grown image s e z) i f
  at_grown z i f m = elim (cases_eq z s) [
    | inl same ↦ at_here image s _ z i f same
        (at_left (image s) (e ∷ []) i f (subst (λ (y : ℕ). IsAt (image y) i f) same m))
    | inr other ↦ at_there image s _ z i f other m
  ]

  pub at_grown_last : IsAt (grown image s e s) (length (image s)) e
  at_grown_last = at_here image s _ s _ e refl (at_last (image s) e)
