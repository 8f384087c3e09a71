-- Dropping the images of victims one by one is the same as dropping them all at once.
use Rattle.std.proofs.Common.{◌≡◌, ℕ, ◌<◌, Bool, true, false, List, [], ◌∷◌, refl, sym, ap, ◌∙◌}
use Rattle.std.specs.Prelude.{◌==◌, ◌&&◌, nat_lt}
use Rattle.std.specs.List.{AllByRecursion}
use Rattle.std.proofs.lemmas.Bool.{eqb-true}
use Rattle.images.specs.Image.{Image}
use Rattle.images.specs.Sorted.{AreRising, without}
use Rattle.log_head.specs.log_laws.Ids.{has}
use Rattle.master_state.specs.Images.{staying, leaving, waiting_for}
use Rattle.master_state.proofs.Imaging.{ids_in, same_id, other_id}
use Rattle.master_state.proofs.Rising.{Rise}

-- images that rise have ids that rise
pub rising_ids : (cs : List Image) → AreRising cs → Rise (ids_in cs)
rising_ids [] rising = tt
rising_ids (c ∷ cs) rising = (each cs rising.0, rising_ids cs rising.1) where
  each : (xs : List Image) → AllByRecursion (λ (other : Image). c.id < other.id) xs
      → AllByRecursion (λ (z : ℕ). c.id < z) (ids_in xs)
  each [] all = tt
  each (x ∷ xs) all = (all.0, each xs all.1)

pub swapped : (a b : ℕ) → (a == b) ≡ (b == a)
swapped a b = go (a == b) refl where
  go : (t : Bool) → (a == b) ≡ t → (a == b) ≡ (b == a)
  go true is = is ∙ sym (ap (λ (z : ℕ). b == z) (eqb-true a b is) ∙ same_id b)
  go false is = is ∙ sym (other_id b a (λ e. (let same : (a == b) ≡ true = ap (λ (z : ℕ). a == z) e ∙ same_id a in cc)))

-- one victim after the others
pub staying_next : (v : ℕ) (vs : List ℕ) (cs : List Image) → staying vs (without cs v) ≡ staying (v ∷ vs) cs
staying_next v vs [] = refl
staying_next v vs (c ∷ cs) = go (c.id == v) refl (has vs c.id) refl (staying_next v vs cs) where
  go : (t : Bool) → (c.id == v) ≡ t → (u : Bool) → has vs c.id ≡ u → staying vs (without cs v) ≡ staying (v ∷ vs) cs
      → staying vs (without (c ∷ cs) v) ≡ staying (v ∷ vs) (c ∷ cs)
  go true is u goes later = (let test = swapped v c.id ∙ is in rw (is, test) later)
  go false is true goes later = (let test = swapped v c.id ∙ is in rw (is, test, goes) later)
  go false is false goes later = (let test = swapped v c.id ∙ is in
      rw (is, test, goes) (ap (λ (xs : List Image). c ∷ xs) later))

pub staying_none : (cs : List Image) → staying [] cs ≡ cs
staying_none [] = refl
staying_none (c ∷ cs) = ap (λ (xs : List Image). c ∷ xs) (staying_none cs)

-- the segments that leave, from a place on
pub leaving_here : (victims : List ℕ) (c : Image) (cs : List Image)
    → (has victims c.id && nat_lt 0 c.replicas) ≡ true
    → leaving victims (c ∷ cs) ≡ waiting_for c ∷ leaving victims cs
leaving_here victims c cs is = rw is refl

pub leaving_past : (victims : List ℕ) (c : Image) (cs : List Image)
    → (has victims c.id && nat_lt 0 c.replicas) ≡ false
    → leaving victims (c ∷ cs) ≡ leaving victims cs
leaving_past victims c cs is = rw is refl
