-- The text of one segment changed, or an image of it added.
use Rattle.std.proofs.Common.{◌≡◌, ℕ, ◌⊎◌, inl, inr, true, false, List, [], ◌∷◌, refl, sym, ap, subst, ◌∙◌, arith}
use Rattle.std.specs.Prelude.{◌==◌}
use Rattle.std.proofs.lemmas.Bool.{cases_eq}
use Rattle.std.proofs.lemmas.Bool.Decides.{nat_tests}
use Rattle.entry.specs.declared.entry.Entry.{Entry}
use Rattle.entry.specs.Bag.{IsAmong}
use Rattle.entry.specs.Meaning.{among}
use Rattle.log_laws.specs.Text.{Text, Replica, length_of}
use Rattle.log_laws.specs.Data.{FailConfig}
use Rattle.log_laws.specs.Log.{Texts, IsVariant, IsBase, IsCopy, IsCut}
use Rattle.log_laws.specs.Steps.{with_text, with_image, with_new}

-- a base of the one texts is one of the other, if each variant is
pub base_moves : (f g : Texts) (ids : List ℕ)
    → ((s : ℕ) (es : List Entry) → IsAmong s ids → IsVariant f s es → IsVariant g s es) → (base : List Entry)
    → IsBase f ids base → IsBase g ids base
base_moves f g [] each base is = is
base_moves f g (s ∷ ids) each base (es, rest, here, more, is) =
    (es, rest, each s es (inl refl) here, base_moves f g ids (λ t xs m. each t xs (inr m)) rest more, is)

-- ---- another text

module _ (texts : Texts) (id : ℕ) (t : Text) where
  pub text_there : (with_text texts id t).text id ≡ t
  text_there = let is : (id == id) ≡ true = grind (arith, nat_tests) in rw is refl

  pub text_other : (s : ℕ) → (s ≡ id → ⊥) → (with_text texts id t).text s ≡ texts.text s
  text_other s other = let is : (s == id) ≡ false = grind (arith, nat_tests) in rw is refl

  pub new_there : (with_new texts id t).text id ≡ t
  new_there = let is : (id == id) ≡ true = grind (arith, nat_tests) in rw is refl

  pub new_none : (with_new texts id t).images id ≡ []
  new_none = let is : (id == id) ≡ true = grind (arith, nat_tests) in rw is refl

  pub new_other : (s : ℕ) → (s ≡ id → ⊥) → (with_new texts id t).text s ≡ texts.text s
  new_other s other = let is : (s == id) ≡ false = grind (arith, nat_tests) in rw is refl

  pub new_images : (s : ℕ) → (s ≡ id → ⊥) → (with_new texts id t).images s ≡ texts.images s
  new_images s other = let is : (s == id) ≡ false = grind (arith, nat_tests) in rw is refl

-- ---- texts that agree at a segment

-- Two texts have the same of a segment.
pub record AreAt (f g : Texts) (s : ℕ) : Type 0 where
  pub text : g.text s ≡ f.text s
  pub images : g.images s ≡ f.images s

pub at_text : (texts : Texts) (id : ℕ) (t : Text) (s : ℕ) → (s ≡ id → ⊥) → AreAt texts (with_text texts id t) s
at_text texts id t s other = record { text = text_other texts id t s other; images = refl }

pub at_new : (texts : Texts) (id : ℕ) (t : Text) (s : ℕ) → (s ≡ id → ⊥) → AreAt texts (with_new texts id t) s
at_new texts id t s other = record { text = new_other texts id t s other; images = new_images texts id t s other }

pub variant_at : (f g : Texts) (s : ℕ) (es : List Entry) → AreAt f g s → IsVariant f s es → IsVariant g s es
variant_at f g s es at (inl is) = inl (is ∙ sym (ap (λ (t : Text). t.entries) at.text))
variant_at f g s es at (inr m) = inr (subst (λ (l : List (List Entry)). IsAmong es l) (sym at.images) m)

pub variant_back : (f g : Texts) (s : ℕ) (es : List Entry) → AreAt f g s → IsVariant g s es → IsVariant f s es
variant_back f g s es at is = variant_at g f s es (record { text = sym at.text; images = sym at.images }) is

pub copy_at : (f g : Texts) (s : ℕ) (r : Replica) → AreAt f g s → IsCopy f s r → IsCopy g s r
copy_at f g s r at (variant, inl shut) = (variant_at f g s r.text.entries at variant, inl shut)
copy_at f g s r at (variant, inr same) = (variant_at f g s r.text.entries at variant, inr (same ∙ sym at.text))

pub whole_at : (c : FailConfig) (f g : Texts) (s : ℕ) (r : Replica) → AreAt f g s → IsCopy f s r ⊎ IsCut c f s r
    → IsCopy g s r ⊎ IsCut c g s r
whole_at c f g s r at (inl copy) = inl (copy_at f g s r at copy)
whole_at c f g s r at (inr cut) =
    let same = ap length_of at.text in
    let less = cut.shorter in
    inr (record {
      two = cut.two;
      is_open = cut.is_open;
      shorter = omega arith;
      rest = cut.rest;
      begins = ap (λ (t : Text). t.entries) at.text ∙ cut.begins;
    })

-- ---- images

-- images have nothing that their texts haven't
abbrev pub AreWithin : Texts → Type 0
AreWithin texts = (s : ℕ) (es : List Entry) (e : Entry) → IsAmong es (texts.images s) → among es e
    → among (texts.text s).entries e

-- they do so where texts agree
within_at : (f g : Texts) → AreWithin f → (s : ℕ) (es : List Entry) (e : Entry) → AreAt f g s
    → IsAmong es (g.images s) → among es e → among (g.text s).entries e
within_at f g all s es e at m one = subst (λ (t : Text). among t.entries e) (sym at.text)
    (all s es e (subst (λ (l : List (List Entry)). IsAmong es l) at.images m) one)

pub new_within : (texts : Texts) (id : ℕ) (t : Text) → AreWithin texts → AreWithin (with_new texts id t)
new_within texts id t all s es e m one =
    elim (cases_eq s id) as (λ _. among ((with_new texts id t).text s).entries e) [
      | inl same ↦ absurd (subst (λ (l : List (List Entry)). IsAmong es l)
          (ap (with_new texts id t).images same ∙ new_none texts id t) m)
      | inr other ↦ within_at texts (with_new texts id t) all s es e (at_new texts id t s other) m one
    ]

pub text_within : (texts : Texts) (id : ℕ) (t : Text) → texts.images id ≡ [] → AreWithin texts
    → AreWithin (with_text texts id t)
text_within texts id t none all s es e m one =
    elim (cases_eq s id) as (λ _. among ((with_text texts id t).text s).entries e) [
      | inl same ↦ absurd (subst (λ (l : List (List Entry)). IsAmong es l) (ap texts.images same ∙ none) m)
      | inr other ↦ within_at texts (with_text texts id t) all s es e (at_text texts id t s other) m one
    ]

-- ---- one more image

module _ (texts : Texts) (id : ℕ) (image : List Entry) where
  abbrev more : Texts
  more = with_image texts id image

  image_list : (s : ℕ) → ((s ≡ id) × (more.images s ≡ image ∷ texts.images s))
      ⊎ ((s ≡ id → ⊥) × (more.images s ≡ texts.images s))
  image_list s = elim (cases_eq s id)
      as (λ _. ((s ≡ id) × (more.images s ≡ image ∷ texts.images s))
      ⊎ ((s ≡ id → ⊥) × (more.images s ≡ texts.images s))) [
        | inl same ↦ (let is : (s == id) ≡ true = grind (arith, nat_tests) in inl (same, rw is refl))
        | inr other ↦ (let is : (s == id) ≡ false = grind (arith, nat_tests) in inr (other, rw is refl))
      ]

  pub image_other : (s : ℕ) → (s ≡ id → ⊥) → more.images s ≡ texts.images s
  image_other s other = let is : (s == id) ≡ false = grind (arith, nat_tests) in rw is refl

  pub image_there : IsVariant more id image
  image_there = elim (image_list id) as (λ _. IsVariant more id image) [
    | inl at ↦ inr (subst (λ (l : List (List Entry)). IsAmong image l) (sym at.1) (inl refl))
    | inr other ↦ absurd (other.0 refl)
  ]

  pub image_still : (s : ℕ) (es : List Entry) → IsVariant texts s es → IsVariant more s es
  image_still s es (inl is) = inl is
  image_still s es (inr m) = elim (image_list s) as (λ _. IsVariant more s es) [
    | inl at ↦ inr (subst (λ (l : List (List Entry)). IsAmong es l) (sym at.1) (inr m))
    | inr other ↦ inr (subst (λ (l : List (List Entry)). IsAmong es l) (sym other.1) m)
  ]

  pub image_either : (s : ℕ) (es : List Entry) → IsVariant more s es → (es ≡ image) ⊎ IsVariant texts s es
  image_either s es (inl is) = inr (inl is)
  image_either s es (inr m) = elim (image_list s) as (λ _. (es ≡ image) ⊎ IsVariant texts s es) [
    | inl at ↦ elim (subst (λ (l : List (List Entry)). IsAmong es l) at.1 m)
        as (λ _. (es ≡ image) ⊎ IsVariant texts s es) [ inl is ↦ inl (sym is) | inr old ↦ inr (inr old) ]
    | inr other ↦ inr (inr (subst (λ (l : List (List Entry)). IsAmong es l) other.1 m))
  ]

  pub image_copy : (s : ℕ) (r : Replica) → IsCopy texts s r → IsCopy more s r
  image_copy s r (variant, how) = (image_still s r.text.entries variant, how)

  pub image_whole : (c : FailConfig) (s : ℕ) (r : Replica) → IsCopy texts s r ⊎ IsCut c texts s r
      → IsCopy more s r ⊎ IsCut c more s r
  image_whole c s r (inl copy) = inl (image_copy s r copy)
  image_whole c s r (inr cut) = inr (record {
    two = cut.two;
    is_open = cut.is_open;
    shorter = cut.shorter;
    rest = cut.rest;
    begins = cut.begins;
  })

  pub image_within : ((e : Entry) → among image e → among (texts.text id).entries e) → AreWithin texts
      → AreWithin more
  image_within fits all s es e m one = elim (image_list s) as (λ _. among (texts.text s).entries e) [
    | inl at ↦ elim (subst (λ (l : List (List Entry)). IsAmong es l) at.1 m)
        as (λ _. among (texts.text s).entries e) [
          | inl is ↦ subst (λ (k : ℕ). among (texts.text k).entries e) (sym at.0)
              (fits e (subst (λ (l : List Entry). among l e) (sym is) one))
          | inr old ↦ all s es e old one
        ]
    | inr other ↦ all s es e (subst (λ (l : List (List Entry)). IsAmong es l) other.1 m) one
  ]
