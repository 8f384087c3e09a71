-- One bag has one meaning, and each key in it has a highest entry.
use Rattle.std.proofs.Common.{◌≡◌, ◌+◌, ◌*◌, ◌≤◌, ◌⊎◌, inl, inr, List, [], ◌∷◌, refl, sym, subst, ◌∙◌, arith}
use Rattle.std.specs.Prelude.{◌↔◌, Option, Some, None, Bool, true, false, nat_lt}
use Rattle.std.proofs.lemmas.Bool.Decides.{nat_tests}
use Rattle.entry.specs.declared.key.Key.{Key}
use Rattle.entry.specs.declared.entry.Entry.{Entry}
use Rattle.entry.specs.declared.entry.Entry.TheVariants as entry
use Rattle.entry.specs.Meaning.{Versioned, Contents, IsOfKey, rank_of, IsTop, object_at}
use Rattle.entry.specs.Meaning.{IsMeaning, IsClean, among, versioned}
use Rattle.versioned_map.specs.Membership.{IsOutranked, IsMeaningBy}
use Rattle.entry.proofs.KeyOrder.{key_eq_tells}

-- ---- one meaning

module _ (bag : Entry → Type 0) (c d : Contents) (is : IsMeaning bag c) (also : IsMeaning bag d) (k : Key) where
  same_at : (x y : Option Versioned) → c k ≡ x → d k ≡ y → x ≡ y
  same_at None None e f = refl
  same_at None (Some y) e f = let h : c k ≡ Some y = (is k y).1 ((also k y).0 f) in absurd (cc)
  same_at (Some x) y e f = let h : d k ≡ Some x = (also k x).1 ((is k x).0 e) in sym h ∙ f

pub one_contents : (bag : Entry → Type 0) (c d : Contents) → IsMeaning bag c → IsMeaning bag d → c ≡ d
one_contents bag c d is also = λ i k. same_at bag c d is also k (c k) (d k) refl refl i

-- ---- members carry a meaning

module _ (bag other : Entry → Type 0) (same : (e : Entry) → bag e ↔ other e) where
  top_carried : (k : Key) (e : Entry) → IsTop k bag e → IsTop k other e
  top_carried k e top =
      record { held = (same e).0 top.held; of_key = top.of_key; highest = λ f m at. top.highest f ((same f).1 m) at }

  pub clean_carried : IsClean bag → IsClean other
  clean_carried clean o p a b at v = clean o p ((same (entry.Object o)).1 a) ((same (entry.Object p)).1 b) at v

pub meaning_carried : (bag other : Entry → Type 0) (contents : Contents) → ((e : Entry) → bag e ↔ other e)
    → IsMeaning bag contents
    → IsMeaning other contents
meaning_carried bag other contents same is k x = (
  λ h. top_carried bag other same k (object_at k x) ((is k x).0 h),
  λ top. (is k x).1 (top_carried other bag (λ e. ((same e).1, (same e).0)) k (object_at k x) top),
)

-- ---- highest entries

-- whether an entry is of a key
of_key-tells : (k : Key) (e : Entry) → IsOfKey k e ⊎ (IsOfKey k e → ⊥)
of_key-tells k (entry.Header h) = inr (λ a. a)
of_key-tells k (entry.Digest ids) = inr (λ a. a)
of_key-tells k (entry.Safe version) = inr (λ a. a)
of_key-tells k (entry.Object o) = elim (key_eq_tells o.key k) [ inl t ↦ inl t.1 | inr t ↦ inr t.1 ]
of_key-tells k (entry.Tombstone u) = elim (key_eq_tells u.key k) [ inl t ↦ inl t.1 | inr t ↦ inr t.1 ]

-- a list has a highest entry of the key, or none of the key
abbrev Highest : Key → List Entry → Type 0
Highest k bag = ((e : Entry) × IsTop k (among bag) e) ⊎ ((f : Entry) → among bag f → IsOfKey k f → ⊥)

module _ (k : Key) (e : Entry) (es : List Entry) where
  passed : (IsOfKey k e → ⊥) → Highest k es → Highest k (e ∷ es)
  passed other (inl t) = inl (
    t.0,
    record {
      held = inr t.1.held;
      of_key = t.1.of_key;
      highest = λ f m at. elim m as (λ _. rank_of f ≤ rank_of t.0) [
        | inl p ↦ absurd (other (subst (λ (g : Entry). IsOfKey k g) (sym p) at))
        | inr l ↦ t.1.highest f l at
      ];
    },
  )
  passed other (inr none) =
      inr (λ f m at. elim m [ inl p ↦ other (subst (λ (g : Entry). IsOfKey k g) (sym p) at) | inr l ↦ none f l at ])

  taken : IsOfKey k e → ((f : Entry) → among es f → IsOfKey k f → rank_of f ≤ rank_of e) → Highest k (e ∷ es)
  taken here below = inl (
    e,
    record {
      held = inl refl;
      of_key = here;
      highest = λ f m at. elim m as (λ _. rank_of f ≤ rank_of e) [
        | inl p ↦ subst (λ (g : Entry). rank_of g ≤ rank_of e) p (omega arith)
        | inr l ↦ below f l at
      ];
    },
  )

  stays : (t : Entry) → IsTop k (among es) t → rank_of e ≤ rank_of t → Highest k (e ∷ es)
  stays t top le = inl (
    t,
    record {
      held = inr top.held;
      of_key = top.of_key;
      highest = λ f m at. elim m as (λ _. rank_of f ≤ rank_of t) [
        | inl p ↦ subst (λ (g : Entry). rank_of g ≤ rank_of t) p le
        | inr l ↦ top.highest f l at
      ];
    },
  )

  chosen : IsOfKey k e → (t : Entry) → IsTop k (among es) t → (b : Bool) → nat_lt (rank_of e) (rank_of t) ≡ b
      → Highest k (e ∷ es)
  chosen here t top true lt = stays t top (grind (arith, nat_tests))
  chosen here t top false lt =
      let le : rank_of t ≤ rank_of e = grind (arith, nat_tests) in
      taken here (λ f m at. let h = top.highest f m at in omega arith)

  offered : IsOfKey k e → Highest k es → Highest k (e ∷ es)
  offered here (inl t) = chosen here t.0 t.1 (nat_lt (rank_of e) (rank_of t.0)) refl
  offered here (inr none) = taken here (λ f m at. absurd (none f m at))

highest_is : (k : Key) (bag : List Entry) → Highest k bag
highest_is k [] = inr (λ f m at. m)
highest_is k (e ∷ es) = elim (of_key-tells k e) [
  | inl here ↦ offered k e es here (highest_is k es)
  | inr other ↦ passed k e es other (highest_is k es)
]

-- ---- membership

module _ (bag : List Entry) (contents : Contents) (is : IsMeaning (among bag) contents) (k : Key) (x : Versioned)
    (none : contents k ≡ None)
    (held : among bag (object_at k x)) where
  outranked_by : (t : Entry) → IsTop k (among bag) t → IsOutranked (among bag) k x.version
  outranked_by (entry.Header h) top = absurd top.of_key
  outranked_by (entry.Digest ids) top = absurd top.of_key
  outranked_by (entry.Safe version) top = absurd top.of_key
  outranked_by (entry.Object o) top =
      let same : entry.Object o ≡ object_at k (versioned o) =
      λ i. entry.Object (record { key = top.of_key i; version = o.version; value = o.value }) in
      let some : contents k ≡ Some (versioned o) =
      (is k (versioned o)).1 (subst (λ (f : Entry). IsTop k (among bag) f) same top) in absurd (cc)
  outranked_by (entry.Tombstone u) top = (
    entry.Tombstone u,
    top.held,
    top.of_key,
    let le : 2 * x.version ≤ 2 * u.version + 1 = top.highest (object_at k x)
        held refl in omega arith,
  )

  outranked : IsOutranked (among bag) k x.version
  outranked = elim (highest_is k bag) [ inl t ↦ outranked_by t.0 t.1 | inr f ↦ absurd (f (object_at k x) held refl) ]

pub by_membership : (bag : List Entry) (contents : Contents) → IsMeaning (among bag) contents
    → IsMeaningBy (among bag) contents
by_membership bag contents is =
    record { present = λ k x h. (is k x).0 h; absent = λ k x none held. outranked bag contents is k x none held }

module _ (bag : Entry → Type 0) (contents : Contents) (clean : IsClean bag) (is : IsMeaningBy bag contents) (k : Key)
    (x : Versioned)
    (top : IsTop k bag (object_at k x)) where
  had : (c : Option Versioned) → contents k ≡ c → c ≡ Some x
  had None e =
      let h = is.absent k x e top.held in
      let le = top.highest h.0 h.1 h.2 in absurd (omega (arith, h.3))
  had (Some y) e =
      let t = is.present k y e in
      let le : 2 * x.version ≤ 2 * y.version = t.highest (object_at k x) top.held refl in
      let ge : 2 * y.version ≤ 2 * x.version = top.highest (object_at k y) t.held refl in
      let same : y.version ≡ x.version = omega arith in
      let value : y.value ≡ x.value =
      clean (record { key = k; version = y.version; value = y.value })
      (record { key = k; version = x.version; value = x.value }) t.held top.held refl same in
      λ i. Some (record { version = same i; value = value i })

pub from_membership : (bag : Entry → Type 0) (contents : Contents) → IsClean bag → IsMeaningBy bag contents
    → IsMeaning bag contents
from_membership bag contents clean is k x = (is.present k x, λ top. had bag contents clean is k x top (contents k) refl)
