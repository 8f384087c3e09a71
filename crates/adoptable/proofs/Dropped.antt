-- A list of objects without a key, and with another value at it: what it has, and the bytes of its objects.
use Rattle.std.proofs.Common.{◌≡◌, ◌⊎◌, ◌≤◌, ◌+◌, ◌-◌, ℕ, Bool, true, false, List, [], ◌∷◌, refl, sym, ap}
use Rattle.std.proofs.Common.{inl, inr, ◌∙◌, arith}
use Rattle.std.specs.Prelude.{Option, Some, None, sum, if◌then◌else◌}
use Rattle.std.proofs.lemmas.List.Sums.{sum_by-cons}
use Rattle.entry.specs.declared.entry.Entry.TheVariants as entry
use Rattle.entry.specs.declared.entry.Object.{Object}
use Rattle.entry.specs.declared.key.Key.{Key}
use Rattle.entry.specs.Meaning.{Versioned, Contents, contents_of}
use Rattle.entry.specs.Order.{key_eq}
use Rattle.entry.proofs.KeyOrder.{key_eq_tells}
use Rattle.entry.proofs.SpellingLemmas.{length-object}
use Rattle.entry.proofs.TextLemmas.{length_first}
use Rattle.versioned_map.specs.Versioned.{with_contents}
use Rattle.versioned_map.proofs.Keys.{at_key}
use Rattle.replay.specs.master.master_state.Live.{object_bytes, bytes_of}
use Rattle.replay.specs.master.master_state.Sizes.{AreOnce}
use Rattle.replay.specs.Needs.{length_of, lengths_of}
use Rattle.adoptable.specs.Limit.{IsSum}

pub length_is : (o : Object) → length_of o ≡ object_bytes o.key o.value
length_is o = let a = length_first (entry.Object o) [] in let b = length-object o in omega arith

pub sum_first : (o : Object) (os : List Object) → sum (lengths_of (o ∷ os)) ≡ length_of o + sum (lengths_of os)
sum_first o os = sum_by-cons (λ (x : ℕ). x) (length_of o) (lengths_of os)

-- two keys are the same, or they are not
abbrev Tells : Key → Key → Type 0
Tells a b = ((key_eq a b ≡ true) × (a ≡ b)) ⊎ ((key_eq a b ≡ false) × (a ≡ b → ⊥))

-- ---- a key less

-- the objects but for those of a key
abbrev pub dropped : Key → List Object → List Object
dropped k [] = []
dropped k (o ∷ os) = if key_eq k o.key then dropped k os else o ∷ dropped k os

-- what they have at each key
pub dropped_has : (k : Key) (os : List Object) (q : Key) → contents_of (dropped k os) q
    ≡ with_contents (contents_of os) k None q
dropped_has k [] q = elim (key_eq_tells q k) as (λ _. None ≡ with_contents (contents_of []) k None q) [
  | inl t ↦ (let e = t.0 in rw e refl)
  | inr f ↦ (let e = f.0 in rw e refl)
]
dropped_has k (o ∷ os) q = go (key_eq_tells k o.key) (key_eq_tells q o.key) (key_eq_tells q k) (dropped_has k os q)
  where
    go : Tells k o.key → Tells q o.key → Tells q k
        → contents_of (dropped k os) q ≡ with_contents (contents_of os) k None q
        → contents_of (dropped k (o ∷ os)) q ≡ with_contents (contents_of (o ∷ os)) k None q
    go (inl a) b (inl c) rest = let e = a.0 in let f = c.0 in rw (e, f) (rw f at rest)
    go (inl a) (inl b) (inr c) rest = absurd (c.1 (b.1 ∙ sym a.1))
    go (inl a) (inr b) (inr c) rest = let e = a.0 in let f = c.0 in let g = b.0 in rw (e, f, g) (rw f at rest)
    go (inr a) (inl b) (inl c) rest = absurd (a.1 (sym c.1 ∙ b.1))
    go (inr a) (inr b) (inl c) rest = let e = a.0 in let f = c.0 in let g = b.0 in rw (e, f, g) (rw f at rest)
    go (inr a) (inl b) (inr c) rest = let e = a.0 in let f = c.0 in let g = b.0 in rw (e, f, g) refl
    go (inr a) (inr b) (inr c) rest = let e = a.0 in let f = c.0 in let g = b.0 in rw (e, f, g) (rw f at rest)

pub dropped_once : (k : Key) (os : List Object) → AreOnce os → AreOnce (dropped k os)
dropped_once k [] once = once
dropped_once k (o ∷ os) once = go (key_eq k o.key) (dropped_once k os once.1)
  where
    none : contents_of (dropped k os) o.key ≡ None
    none = dropped_has k os o.key ∙ elim (key_eq_tells o.key k)
        as (λ _. with_contents (contents_of os) k None o.key ≡ None) [
          | inl t ↦ (let e = t.0 in rw e refl)
          | inr f ↦ (let e = f.0 in rw e once.0)
        ]

    go : (t : Bool) → AreOnce (dropped k os) → AreOnce (if t then dropped k os else o ∷ dropped k os)
    go true rest = rest
    go false rest = (none, rest)

pub dropped_sum : (k : Key) (os : List Object) → AreOnce os
    → sum (lengths_of (dropped k os)) + bytes_of k (contents_of os k) ≡ sum (lengths_of os)
dropped_sum k [] once = omega arith
dropped_sum k (o ∷ os) once = go (key_eq_tells k o.key) (dropped_sum k os once.1)
  where
    go : Tells k o.key → sum (lengths_of (dropped k os)) + bytes_of k (contents_of os k) ≡ sum (lengths_of os)
        → sum (lengths_of (dropped k (o ∷ os))) + bytes_of k (contents_of (o ∷ os) k) ≡ sum (lengths_of (o ∷ os))
    go (inl a) rest =
        let e = a.0 in
        let none : bytes_of k (contents_of os k) ≡ 0 =
        ap (bytes_of k) (ap (contents_of os) a.1 ∙ once.0) in
        let own : object_bytes k o.value ≡ length_of o =
        ap (λ (q : Key). object_bytes q o.value) a.1 ∙ sym (length_is o) in
        let all = sum_first o os in
        rw e (let goal : sum (lengths_of (dropped k os)) + object_bytes k o.value ≡ sum (lengths_of (o ∷ os)) =
        omega (arith, none, own, all, rest) in goal)
    go (inr a) rest =
        let e = a.0 in
        let first = sum_first o (dropped k os) in
        let all = sum_first o os in
        rw e (let goal : sum (lengths_of (o ∷ dropped k os)) + bytes_of k (contents_of os k)
        ≡ sum (lengths_of (o ∷ os)) = omega (arith, first, all, rest) in goal)

-- ---- a key changed

-- the object of this key
abbrev object_of : Key → Versioned → Object
object_of k x = record { key = k; version = x.version; value = x.value }

-- the objects with another value at a key
abbrev pub changed : Key → Option Versioned → List Object → List Object
changed k None os = dropped k os
changed k (Some x) os = object_of k x ∷ dropped k os

pub changed_has : (k : Key) (x : Option Versioned) (os : List Object)
    → contents_of (changed k x os) ≡ with_contents (contents_of os) k x
changed_has k None os = λ i q. dropped_has k os q i
changed_has k (Some x) os = λ i q. go q i
  where
    go : (q : Key) → contents_of (changed k (Some x) os) q ≡ with_contents (contents_of os) k (Some x) q
    go q = elim (key_eq_tells q k)
        as (λ _. contents_of (changed k (Some x) os) q ≡ with_contents (contents_of os) k (Some x) q) [
          | inl t ↦ (let e = t.0 in rw e refl)
          | inr f ↦ (let e = f.0 in let rest = dropped_has k os q in rw e (rw e at rest))
        ]

pub changed_once : (k : Key) (x : Option Versioned) (os : List Object) → AreOnce os → AreOnce (changed k x os)
changed_once k None os once = dropped_once k os once
changed_once k (Some x) os once =
    (dropped_has k os k ∙ at_key (contents_of os) k None k refl, dropped_once k os once)

changed_sum : (k : Key) (x : Option Versioned) (os : List Object) → AreOnce os
    → sum (lengths_of (changed k x os)) + bytes_of k (contents_of os k) ≡ sum (lengths_of os) + bytes_of k x
changed_sum k None os once = let rest = dropped_sum k os once in omega arith
changed_sum k (Some x) os once =
    let rest = dropped_sum k os once in
    let all = sum_first (object_of k x) (dropped k os) in
    let own = length_is (object_of k x) in
    omega arith

-- they have the bytes of that value at least
changed_least : (k : Key) (x : Option Versioned) (os : List Object)
    → bytes_of k x ≤ sum (lengths_of (changed k x os))
changed_least k None os = omega arith
changed_least k (Some x) os =
    let all = sum_first (object_of k x) (dropped k os) in
    let own = length_is (object_of k x) in
    omega arith

-- ---- a key changed back

-- a key has again what it had
with_back : (contents : Contents) (k : Key) (x : Option Versioned)
    → with_contents (with_contents contents k x) k (contents k) ≡ contents
with_back contents k x = λ i q. go q i
  where
    go : (q : Key) → with_contents (with_contents contents k x) k (contents k) q ≡ contents q
    go q = elim (key_eq_tells q k)
        as (λ _. with_contents (with_contents contents k x) k (contents k) q ≡ contents q) [
          | inl t ↦ (let e = t.0 in rw e (ap contents (sym t.1)))
          | inr f ↦ (let e = f.0 in rw e refl)
        ]

-- a list of changed contents, changed back
module _ (contents : Contents) (k : Key) (x : Option Versioned) (os : List Object) (once : AreOnce os)
    (has : contents_of os ≡ with_contents contents k x) where
  abbrev pub before : List Object
  before = changed k (contents k) os

  pub before_once : AreOnce before
  before_once = changed_once k (contents k) os once

  pub before_has : contents_of before ≡ contents
  before_has = changed_has k (contents k) os
      ∙ ap (λ (cs : Contents). with_contents cs k (contents k)) has
      ∙ with_back contents k x

  pub has_there : contents_of os k ≡ x
  has_there = ap (λ (cs : Contents). cs k) has ∙ at_key contents k x k refl

  -- the bytes of the list, by those of the contents
  pub sum_with : (n : ℕ) → IsSum contents n → sum (lengths_of os) ≡ n - bytes_of k (contents k) + bytes_of k x
  sum_with n is =
      let sums = changed_sum k (contents k) os once in
      let least = changed_least k (contents k) os in
      let there = ap (bytes_of k) has_there in
      let all = is before before_once before_has in
      omega arith
