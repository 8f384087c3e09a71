-- Keys that compare as equal are the same key, and contents that are changed at a key.
use Rattle.std.proofs.Common.{◌≡◌, true, false, refl, ◌⊎◌, inl, inr}
use Rattle.std.specs.Prelude.{Option}
use Rattle.entry.specs.declared.key.Key.{Key}
use Rattle.entry.specs.Order.{key_eq}
use Rattle.entry.specs.Meaning.{Versioned, Contents}
use Rattle.entry.proofs.KeyOrder.{key_eq_decides, key_eq_tells}
use Rattle.versioned_map.specs.Versioned.{with_contents}

pub key_eq-same : (a b : Key) → key_eq a b ≡ true → a ≡ b
key_eq-same a b = (key_eq_decides a b).0

pub key_eq-true : (a b : Key) → a ≡ b → key_eq a b ≡ true
key_eq-true a b = (key_eq_decides a b).1

-- either the one key or two
pub key_eq-tells : (a b : Key) → ((key_eq a b ≡ true) × (a ≡ b)) ⊎ ((key_eq a b ≡ false) × (a ≡ b → ⊥))
key_eq-tells a b = key_eq_tells a b

-- contents with a key given what it has
module _ (contents : Contents) (k : Key) (x : Option Versioned) where
  pub at_key : (q : Key) → q ≡ k → with_contents contents k x q ≡ x
  at_key q same = let t : key_eq q k ≡ true = (key_eq_decides q k).1 same in rw t refl

  pub at_other : (q : Key) → (q ≡ k → ⊥) → with_contents contents k x q ≡ contents q
  at_other q other = elim (key_eq_tells q k) [ inl t ↦ absurd (other t.1) | inr f ↦ let e = f.0 in rw e refl ]

  -- the later of two changes counts
  pub at_twice : (y : Option Versioned) → with_contents (with_contents contents k y) k x ≡ with_contents contents k x
  at_twice y = λ i q. (elim (key_eq_tells q k)
      as (λ _. with_contents (with_contents contents k y) k x q ≡ with_contents contents k x q) [
        | inl t ↦ (let e = t.0 in rw e refl)
        | inr f ↦ (let e = f.0 in rw e refl)
      ]) i
