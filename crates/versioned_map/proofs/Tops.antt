-- Entries of greatest rank, and what one entry above all others of its key does to a meaning.
use Rattle.std.proofs.Common.{◌≡◌, ℕ, ◌*◌, ◌<◌, ◌≤◌, inl, inr, List, [], ◌∷◌, ◌++◌, refl, sym, ap, subst, ◌∙◌, arith}
use Rattle.std.specs.Prelude.{◌↔◌, Option, Some, None}
use Rattle.entry.specs.declared.key.Key.{Key}
use Rattle.entry.specs.declared.entry.Object.{Object}
use Rattle.entry.specs.declared.entry.Entry.{Entry}
use Rattle.entry.specs.declared.entry.Entry.TheVariants as entry
use Rattle.entry.specs.Meaning.{Versioned, Contents, IsOfKey, version_of, rank_of, IsTop}
use Rattle.entry.specs.Meaning.{object_at, IsMeaning, IsClean, among, versioned}
use Rattle.entry.proofs.BagLemmas.{among_left, among_last, among_push}
use Rattle.versioned_map.specs.Versioned.{with_contents}
use Rattle.entry.proofs.KeyOrder.{key_eq_tells}
use Rattle.versioned_map.proofs.Keys.{at_key, at_other}

-- ---- keys and ranks

-- an entry is of one key
pub one_key : (e : Entry) (k q : Key) → IsOfKey k e → IsOfKey q e → q ≡ k
one_key (entry.Header h) k q a b = absurd a
one_key (entry.Digest ids) k q a b = absurd a
one_key (entry.Safe version) k q a b = absurd a
one_key (entry.Object o) k q a b = sym b ∙ a
one_key (entry.Tombstone t) k q a b = sym b ∙ a

pub rank_bound : (e : Entry) (n : ℕ) → version_of e < n → rank_of e < 2 * n
rank_bound (entry.Header h) n lt = omega arith
rank_bound (entry.Digest ids) n lt = omega arith
rank_bound (entry.Safe version) n lt = omega arith
rank_bound (entry.Object o) n lt = omega arith
rank_bound (entry.Tombstone t) n lt = omega arith

pub version_bound : (e : Entry) (n : ℕ) → rank_of e ≤ 2 * n → version_of e ≤ n
version_bound (entry.Header h) n le = omega arith
version_bound (entry.Digest ids) n le = omega arith
version_bound (entry.Safe version) n le = omega arith
version_bound (entry.Object o) n le = omega arith
version_bound (entry.Tombstone t) n le = omega arith

-- ---- one entry above all others of its key

-- what the entry leaves its key, if it is the highest
pub record Leaves (k : Key) (e : Entry) (x : Option Versioned) : Type 0 where
  pub of_key : IsOfKey k e
  pub left : (y : Versioned) → (x ≡ Some y) ↔ (e ≡ object_at k y)

module _ (bag : List Entry) (contents : Contents) (k : Key) (e : Entry) (x : Option Versioned) (leaves : Leaves k e x)
    (above : (f : Entry) → among bag f → IsOfKey k f → rank_of f < rank_of e) where
  new_top : IsTop k (among (bag ++ e ∷ [])) e
  new_top = record {
    held = among_last bag e;
    of_key = leaves.of_key;
    highest = λ f m at. elim (among_push f bag e m) as (λ _. rank_of f ≤ rank_of e) [
      | inl l ↦ (let lt = above f l at in omega arith)
      | inr p ↦ subst (λ (g : Entry). rank_of g ≤ rank_of e) p (omega arith)
    ];
  }

  only_top : (f : Entry) → IsTop k (among (bag ++ e ∷ [])) f → e ≡ f
  only_top f top = elim (among_push f bag e top.held) as (λ _. e ≡ f) [
    | inl l ↦ (let lt = above f l top.of_key in let le = top.highest e (among_last bag e) leaves.of_key in
        absurd (omega arith))
    | inr p ↦ p
  ]

  raised_here : (y : Versioned) → (x ≡ Some y) ↔ IsTop k (among (bag ++ e ∷ [])) (object_at k y)
  raised_here y = (
    λ h. subst (λ (f : Entry). IsTop k (among (bag ++ e ∷ [])) f) ((leaves.left y).0 h) new_top,
    λ top. (leaves.left y).1 (only_top (object_at k y) top),
  )

  not_here : (q : Key) → (q ≡ k → ⊥) → (f : Entry) → IsOfKey q f → e ≡ f → ⊥
  not_here q other f at p = other (one_key f k q (subst (λ (g : Entry). IsOfKey k g) p leaves.of_key) at)

  stays_there : (q : Key) → (q ≡ k → ⊥) → (f : Entry) → IsTop q (among bag) f → IsTop q (among (bag ++ e ∷ [])) f
  stays_there q other f top = record {
    held = among_left f bag (e ∷ []) top.held;
    of_key = top.of_key;
    highest = λ g m at. elim (among_push g bag e m) as (λ _. rank_of g ≤ rank_of f) [
      | inl l ↦ top.highest g l at
      | inr p ↦ absurd (not_here q other g at p)
    ];
  }

  was_there : (q : Key) → (q ≡ k → ⊥) → (f : Entry) → IsTop q (among (bag ++ e ∷ [])) f → IsTop q (among bag) f
  was_there q other f top = record {
    held =
        elim (among_push f bag e top.held)
        as (λ _. among bag f) [ inl l ↦ l | inr p ↦ absurd (not_here q other f top.of_key p) ];
    of_key = top.of_key;
    highest = λ g m at. top.highest g (among_left g bag (e ∷ []) m) at;
  }

  raised_there : IsMeaning (among bag) contents → (q : Key) → (q ≡ k → ⊥) → (y : Versioned)
      → (contents q ≡ Some y) ↔ IsTop q (among (bag ++ e ∷ [])) (object_at q y)
  raised_there is q other y = (
    λ h. stays_there q other (object_at q y) ((is q y).0 h),
    λ top. (is q y).1 (was_there q other (object_at q y) top),
  )

  pub raised : IsMeaning (among bag) contents → IsMeaning (among (bag ++ e ∷ [])) (with_contents contents k x)
  raised is q y = elim (key_eq_tells q k)
      as (λ _. (with_contents contents k x q ≡ Some y) ↔ IsTop q (among (bag ++ e ∷ [])) (object_at q y)) [
        | inl t ↦ (let c = at_key contents k x q t.1 in
            let here =
            subst (λ (r : Key). (x ≡ Some y) ↔ IsTop r (among (bag ++ e ∷ [])) (object_at r y)) (sym t.1)
            (raised_here y) in
            (λ h. here.0 (sym c ∙ h), λ top. c ∙ here.1 top))
        | inr t ↦ (let c = at_other contents k x q t.1 in
            let there = raised_there is q t.1 y in
            (λ h. there.0 (sym c ∙ h), λ top. c ∙ there.1 top))
      ]

  -- two objects of a key and version, the first of them new
  new_alike : (o p : Object) → e ≡ entry.Object o → among bag (entry.Object p) → p.key ≡ o.key → p.version ≡ o.version
      → ⊥
  new_alike o p is m at v =
      let here : o.key ≡ k = subst (λ (g : Entry). IsOfKey k g) is leaves.of_key in
      let lt : 2 * p.version < rank_of e = above (entry.Object p) m (at ∙ here) in
      let rank : rank_of e ≡ 2 * o.version = ap rank_of is in omega arith

  pub raised_clean : IsClean (among bag) → IsClean (among (bag ++ e ∷ []))
  raised_clean clean o p a b at v =
      elim (among_push (entry.Object o) bag e a) as (λ _. o.value ≡ p.value) [
        | inl l ↦ elim (among_push (entry.Object p) bag e b) as (λ _. o.value ≡ p.value) [
          | inl m ↦ clean o p l m at v
          | inr s ↦ absurd (new_alike p o s l at v)
        ]
        | inr r ↦ elim (among_push (entry.Object p) bag e b) as (λ _. o.value ≡ p.value) [
          | inl m ↦ absurd (new_alike o p r m (sym at) (sym v))
          | inr s ↦ (let same : entry.Object o ≡ entry.Object p = sym r ∙ s in
              let both : o ≡ p = cc in ap (λ (z : Object). z.value) both)
        ]
      ]

-- ---- objects and tombstones

object_left : (k : Key) (version : ℕ) (value : List ℕ) (y : Versioned) →
    (◌≡◌ {A = Option Versioned} (Some (record { version = version; value = value })) (Some y)) ↔
    (entry.Object (record { key = k; version = version; value = value }) ≡ object_at k y)
object_left k version value y = (
  λ h. (let same : ◌≡◌ {A = Versioned} (record { version = version; value = value }) y = cc in
      λ i. entry.Object (record { key = k; version = (same i).version; value = (same i).value })),
  λ h. (let same : ◌≡◌ {A = Object} (record { key = k; version = version; value = value })
      (record { key = k; version = y.version; value = y.value }) = cc in
      λ i. Some (versioned (same i))),
)

pub object_leaves : (k : Key) (version : ℕ) (value : List ℕ) →
    Leaves k (entry.Object (record { key = k; version = version; value = value }))
    (Some (record { version = version; value = value }))
object_leaves k version value = record { of_key = refl; left = object_left k version value }

pub tombstone_leaves : (k : Key) (version segment : ℕ)
    → Leaves k (entry.Tombstone (record { key = k; version = version; segment = segment })) None
tombstone_leaves k version segment = record { of_key = refl; left = λ y. (λ h. absurd (cc), λ h. absurd (cc)) }
