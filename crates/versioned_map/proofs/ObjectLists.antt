-- Lists of objects, and their contents.
use Rattle.std.proofs.Common.{◌≡◌, ℕ, zero, suc, ◌<◌, true, false, List, [], ◌∷◌, ◌++◌}
use Rattle.std.proofs.Common.{length, get_or, set, refl, sym, ◌∙◌, inl, inr, arith}
use Rattle.std.specs.Prelude.{Option, Some, None, is_some}
use Rattle.std.specs.List.{AllWithin, remove, list_any}
use Rattle.std.proofs.lemmas.List.Quantifiers.{all_pairs_push, all_pairs_remove}
use Rattle.entry.specs.declared.key.Key.{Key}
use Rattle.entry.specs.declared.entry.Object.{Object}
use Rattle.entry.specs.Order.{key_eq}
use Rattle.entry.specs.Meaning.{Versioned, versioned, contents_of}
use Rattle.versioned_map.specs.Versioned.{with_contents}
use Rattle.entry.proofs.KeyOrder.{key_eq_decides, key_eq_tells}
use Rattle.versioned_map.specs.Map.{AreOfDifferentKeys}

-- ---- keys

pub key_eq-other : (a b : Key) → (a ≡ b → ⊥) → key_eq a b ≡ false
key_eq-other a b other = elim (key_eq_tells a b) [ inl t ↦ absurd (other t.1) | inr f ↦ f.0 ]

-- ---- the front object and the others

passed_over : (o : Object) (os : List Object) (k : Key) → (k ≡ o.key → ⊥) → contents_of (o ∷ os) k ≡ contents_of os k
passed_over o os k other = let e : key_eq k o.key ≡ false = key_eq-other k o.key other in rw e refl

found_first : (o : Object) (os : List Object) (k : Key) → k ≡ o.key → contents_of (o ∷ os) k ≡ Some (versioned o)
found_first o os k same = let e : key_eq k o.key ≡ true = (key_eq_decides k o.key).1 same in rw e refl

others_differ : (o : Object) (os : List Object) → AreOfDifferentKeys (o ∷ os) → AreOfDifferentKeys os
others_differ o os all = λ i j d lt within. all (suc i) (suc j) d (omega arith) (omega arith)

-- ---- absent keys

-- no object of the list has the key
abbrev pub Lacks : List Object → Key → Type 0
Lacks os k = (i : ℕ) (d : Object) → i < length os → (get_or os i d).key ≡ k → ⊥

pub contents_of-lacking : (os : List Object) (k : Key) → Lacks os k → contents_of os k ≡ None
contents_of-lacking [] k none = refl
contents_of-lacking (o ∷ os) k none =
    passed_over o os k (λ same. none 0 o (omega arith) (sym same))
    ∙ contents_of-lacking os k (λ i d lt. none (suc i) d (omega arith))

pub contents_of-unmatched : (os : List Object) (k : Key)
    → AllWithin (λ (o : Object). key_eq o.key k ≡ false) os 0 (length os)
    → contents_of os k ≡ None
contents_of-unmatched os k none =
    contents_of-lacking os k (λ i d lt same.
    let is : key_eq (get_or os i d).key k ≡ true = (key_eq_decides (get_or os i d).key k).1 same in
    let not : key_eq (get_or os i d).key k ≡ false = none i d (omega arith) lt in
    cc)

pub lacks_absent : (os : List Object) (k : Key) → contents_of os k ≡ None → Lacks os k
lacks_absent [] k e = λ i d lt same. omega arith
lacks_absent (o ∷ os) k e = elim (key_eq_tells k o.key) [
  | inl t ↦ (let found = found_first o os k t.1 in λ i d lt same. cc)
  | inr f ↦ (let later = lacks_absent os k (sym (passed_over o os k f.1) ∙ e) in
      λ i d lt same. lacks_more i d lt same later f.1)
]
  where
    lacks_more : (i : ℕ) (d : Object) → i < length (o ∷ os) → (get_or (o ∷ os) i d).key ≡ k → Lacks os k
        → (k ≡ o.key → ⊥) → ⊥
    lacks_more zero d lt same later other = other (sym same)
    lacks_more (suc i) d lt same later other = later i d (omega arith) same

-- the list has the key exactly if one of its objects does
pub contents_of-any : (os : List Object) (k : Key)
    → list_any (λ (o : Object). key_eq o.key k) os ≡ is_some (contents_of os k)
contents_of-any [] k = refl
contents_of-any (o ∷ os) k = elim (key_eq_tells k o.key) [
  | inl t ↦ (let e = t.0 in let back : key_eq o.key k ≡ true = (key_eq_decides o.key k).1 (sym t.1) in
      rw (e, back) refl)
  | inr f ↦ (let e = f.0 in let back : key_eq o.key k ≡ false = key_eq-other o.key k (λ same. f.1 (sym same)) in
      rw (e, back) (contents_of-any os k))
]

-- ---- one object more

pub contents_of-push : (os : List Object) (o : Object) → contents_of os o.key ≡ None → (q : Key)
    → contents_of (os ++ o ∷ []) q ≡ with_contents (contents_of os) o.key (Some (versioned o)) q
contents_of-push [] o absent q = refl
contents_of-push (p ∷ os) o absent q = elim (key_eq_tells o.key p.key) [
  | inl t ↦ (let found = found_first p os o.key t.1 in cc)
  | inr f ↦ (
      let later = contents_of-push os o (sym (passed_over p os o.key f.1) ∙ absent) q in
      pushed_behind later f.1
      )
]
  where
    pushed_behind : contents_of (os ++ o ∷ []) q ≡ with_contents (contents_of os) o.key (Some (versioned o)) q
        → (o.key ≡ p.key → ⊥)
        → contents_of (p ∷ os ++ o ∷ []) q ≡ with_contents (contents_of (p ∷ os)) o.key (Some (versioned o)) q
    pushed_behind later apart = elim (key_eq_tells q p.key) [
      | inl t ↦ (let e = t.0 in let other : key_eq q o.key ≡ false =
          key_eq-other q o.key (λ same. apart (sym same ∙ t.1)) in rw (e, other) refl)
      | inr f ↦ (let e = f.0 in rw e later)
    ]

pub differ_push : (os : List Object) (o : Object) → AreOfDifferentKeys os → contents_of os o.key ≡ None
    → AreOfDifferentKeys (os ++ o ∷ [])
differ_push os o all absent =
    all_pairs_push (λ (p q : Object). p.key ≡ q.key → ⊥) os o all (λ i d lt. lacks_absent os o.key absent i d lt)

-- ---- the object of a slot

pub contents_of-slot : (os : List Object) (i : ℕ) (d : Object) → AreOfDifferentKeys os → i < length os
    → contents_of os (get_or os i d).key ≡ Some (versioned (get_or os i d))
contents_of-slot [] i d all lt = absurd (omega arith)
contents_of-slot (o ∷ os) zero d all lt = found_first o os o.key refl
contents_of-slot (o ∷ os) (suc i) d all lt =
    passed_over o os (get_or os i d).key (λ same. all 0 (suc i) d (omega arith) lt (sym same))
    ∙ contents_of-slot os i d (others_differ o os all) (omega arith)

module _ (o : Object) (os : List Object) (k q : Key) (x : Option Versioned) where
  -- a change behind the front object, which is of another key
  changed_behind : (rest : List Object) → (k ≡ o.key → ⊥) → contents_of rest q ≡ with_contents (contents_of os) k x q
      → contents_of (o ∷ rest) q ≡ with_contents (contents_of (o ∷ os)) k x q
  changed_behind rest apart later = elim (key_eq_tells q o.key) [
    | inl t ↦ (let e = t.0 in let other : key_eq q k ≡ false = key_eq-other q k (λ same. apart (sym same ∙ t.1)) in
        rw (e, other) refl)
    | inr f ↦ (let e = f.0 in rw e later)
  ]

pub contents_of-set : (os : List Object) (i : ℕ) (d o : Object) → AreOfDifferentKeys os → i < length os
    → (get_or os i d).key ≡ o.key → (q : Key)
    → contents_of (set os i o) q ≡ with_contents (contents_of os) o.key (Some (versioned o)) q
contents_of-set [] i d o all lt at q = absurd (omega arith)
contents_of-set (p ∷ os) zero d o all lt at q = elim (key_eq_tells q o.key) [
  | inl t ↦ (let e = t.0 in rw e refl)
  | inr f ↦ (let e = f.0 in let other : key_eq q p.key ≡ false = key_eq-other q p.key (λ same. f.1 (same ∙ at)) in
      rw (e, other) refl)
]
contents_of-set (p ∷ os) (suc i) d o all lt at q =
    changed_behind p os o.key q (Some (versioned o)) (set os i o)
    (λ same. all 0 (suc i) d (omega arith) lt (sym (at ∙ same)))
    (contents_of-set os i d o (others_differ p os all) (omega arith) at q)

pub contents_of-remove : (os : List Object) (i : ℕ) (d : Object) (k : Key) → AreOfDifferentKeys os → i < length os
    → (get_or os i d).key ≡ k
    → (q : Key)
    → contents_of (remove os i) q ≡ with_contents (contents_of os) k None q
contents_of-remove [] i d k all lt at q = absurd (omega arith)
contents_of-remove (p ∷ os) zero d k all lt at q = elim (key_eq_tells q k) [
  | inl t ↦ (
      let e = t.0 in
      rw e (contents_of-lacking os q (λ i d within same. all 0 (suc i) d (omega arith) (omega arith)
      (at ∙ sym t.1 ∙ sym same)))
      )
  | inr f ↦ (let e = f.0 in let other : key_eq q p.key ≡ false = key_eq-other q p.key (λ same. f.1 (same ∙ at)) in
      rw (e, other) refl)
]
contents_of-remove (p ∷ os) (suc i) d k all lt at q =
    changed_behind p os k q None (remove os i) (λ same. all 0 (suc i) d (omega arith) lt (sym (at ∙ same)))
    (contents_of-remove os i d k (others_differ p os all) (omega arith) at q)

pub differ_remove : (os : List Object) (i : ℕ) → i < length os → AreOfDifferentKeys os
    → AreOfDifferentKeys (remove os i)
differ_remove os i lt all = all_pairs_remove (λ (p q : Object). p.key ≡ q.key → ⊥) os i lt all

-- ---- an object of the same key in a slot

set-keys : (os : List Object) (i : ℕ) (o d : Object) (j : ℕ) (e : Object) → (get_or os i d).key ≡ o.key → i < length os
    → j < length os
    → (get_or (set os i o) j e).key ≡ (get_or os j e).key
set-keys [] i o d j e at lt within = absurd (omega arith)
set-keys (p ∷ os) zero o d zero e at lt within = sym at
set-keys (p ∷ os) zero o d (suc j) e at lt within = refl
set-keys (p ∷ os) (suc i) o d zero e at lt within = refl
set-keys (p ∷ os) (suc i) o d (suc j) e at lt within = set-keys os i o d j e at (omega arith) (omega arith)
