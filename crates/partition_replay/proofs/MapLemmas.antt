-- What a map has of keys.
use Rattle.std.proofs.Common.{◌≡◌, Bool, true, false, List, [], ◌∷◌, refl, sym, ap, subst, ◌∙◌, inl, inr}
use Rattle.std.specs.Prelude.{Option, Some, None}
use Rattle.std.specs.Cmp.{IsEquivalence, on_equiv}
use Rattle.std.specs.Ordering.{on}
use Rattle.std.specs.List.{IsDistinct}
use Rattle.std.specs.Map.{lookup, keys_of}
use Rattle.std.specs.Option.{option_or}
use Rattle.std.proofs.lemmas.Map.{lookup-none}
use Rattle.std.proofs.lemmas.Map.Entries.{place_from_lookup, none_past_head}
use Rattle.std.proofs.lemmas.Map.Keys.{IsDistinct-tail}
use Rattle.std.proofs.lemmas.Option.{same_Some, none-some}
use Rattle.entry.specs.declared.key.Key.{Key}
use Rattle.entry.specs.Bag.{IsAmong}
use Rattle.entry.specs.Order.{key_eq}
use Rattle.entry.proofs.KeyOrder.{key_eq_tells, key_eq_decides}
use Rattle.claims.specs.declared.placed.PlacedKey.{PlacedKey}
use Rattle.claims.specs.Placed.{placed_key, key_eq_equiv}
use Rattle.claims.specs.Claims.{Claimed}
use Rattle.partition_replay.specs.declared.kept.Kept.{Kept}
use Rattle.partition_replay.specs.Keeping.{kept_claim, kept_at, kept_in, claims_kept, IsKept}

-- the test of the map's keys
abbrev pub same_key : PlacedKey → PlacedKey → Bool
same_key = on placed_key key_eq

same_key-equiv : IsEquivalence same_key
same_key-equiv = on_equiv placed_key key_eq_equiv

abbrev pub Entries : Type 0
Entries = List (PlacedKey × Kept)

yes_at : (k : Key) → key_eq k k ≡ true
yes_at k = (key_eq_decides k k).1 refl

-- what is found stands beside a key in the program's memory
key_found : (es : Entries) (k : Key) (x : Kept) → kept_at es k ≡ Some x → (p : PlacedKey) × (k ≡ placed_key p)
key_found es k x is =
    let h = place_from_lookup (λ (p : PlacedKey). key_eq k (placed_key p)) es x is in
    (h.1, (key_eq_decides k (placed_key h.1)).0 h.3)

-- maps that have the same of each key in memory have the same of each key
module _ (es fs : Entries) (P : Key → Type 0)
    (same : (q : PlacedKey) → P (placed_key q) → lookup (same_key q) fs ≡ lookup (same_key q) es) where
  at_placed : (k : Key) → P k → (p : PlacedKey) × (k ≡ placed_key p) → kept_at fs k ≡ kept_at es k
  at_placed k holds (p, is) =
      subst (λ (j : Key). kept_at fs j ≡ kept_at es j) (sym is) (same p (subst P is holds))

  pub same_where : (k : Key) → P k → kept_at fs k ≡ kept_at es k
  same_where k holds = by_found (kept_at es k) (kept_at fs k) refl refl
    where
      by_found : (a b : Option Kept) → kept_at es k ≡ a → kept_at fs k ≡ b → b ≡ a
      by_found None None e f = refl
      by_found (Some x) b e f = sym f ∙ at_placed k holds (key_found es k x e) ∙ e
      by_found None (Some y) e f = sym f ∙ at_placed k holds (key_found fs k y f) ∙ e

-- ---- claims

kept_head : (e : PlacedKey × Kept) (es : Entries) (k : Key) → key_eq k (placed_key e.0) ≡ true
    → kept_at (e ∷ es) k ≡ Some e.1
kept_head e es k at = rw at refl

kept_tail : (e : PlacedKey × Kept) (es : Entries) (k : Key) → key_eq k (placed_key e.0) ≡ false
    → kept_at (e ∷ es) k ≡ kept_at es k
kept_tail e es k at = rw at refl

-- no later key is that of the first
pub none_later : (e : PlacedKey × Kept) (es : Entries) → IsDistinct same_key (keys_of (e ∷ es))
    → kept_at es (placed_key e.0) ≡ None
none_later e es unique =
    lookup-none (same_key e.0) es
    (none_past_head same_key-equiv e.0 e es unique (yes_at (placed_key e.0)))

pub kept_from_among : (es : Entries) → IsDistinct same_key (keys_of es) → (c : Claimed) → IsAmong c (claims_kept es)
    → IsKept (kept_at es) c
kept_from_among [] unique c m = absurd m
kept_from_among (e ∷ es) unique c (inl is) =
    subst (IsKept (kept_at (e ∷ es))) is
    (e.1, kept_head e es (placed_key e.0) (yes_at (placed_key e.0)), refl)
kept_from_among (e ∷ es) unique c (inr m) =
    let later = kept_from_among es (IsDistinct-tail same_key e.0 (keys_of es) unique) c m in
    elim (key_eq_tells c.key (placed_key e.0)) as (λ _. IsKept (kept_at (e ∷ es)) c) [
      | inl both ↦ absurd (none-some later.0 (sym (ap (kept_at es) both.1 ∙ none_later e es unique) ∙ later.1))
      | inr both ↦ (later.0, kept_tail e es c.key both.0 ∙ later.1, later.2)
    ]

pub among_from_kept : (es : Entries) (c : Claimed) → IsKept (kept_at es) c → IsAmong c (claims_kept es)
among_from_kept [] c h = absurd (none-some h.0 h.1)
among_from_kept (e ∷ es) c h =
    elim (key_eq_tells c.key (placed_key e.0)) as (λ _. IsAmong c (claims_kept (e ∷ es))) [
      | inl both ↦
          let same : h.0 ≡ e.1 = same_Some h.0 e.1 (sym h.1 ∙ kept_head e es c.key both.0) in
          inl ((λ i. kept_claim (sym both.1 i) (sym same i)) ∙ h.2)
      | inr both ↦ inr (among_from_kept es c (h.0, sym (kept_tail e es c.key both.0) ∙ h.1, h.2))
    ]

-- ---- one entry put into a map

-- the map has this of the key, and of others what it had
pub record IsPut (old : Key → Option Kept) (k : Key) (x : Kept) (new : Key → Option Kept) : Type 0 where
  pub here : new k ≡ Some x
  pub others : (j : Key) → (j ≡ k → ⊥) → new j ≡ old j

pub put_one : (es fs : Entries) (p : PlacedKey) (x : Kept) → lookup (same_key p) fs ≡ Some x
    → ((q : PlacedKey) → same_key p q ≡ false → lookup (same_key q) fs ≡ lookup (same_key q) es)
    → IsPut (kept_at es) (placed_key p) x (kept_at fs)
put_one es fs p x here others =
    record {
      here = here;
      others =
          same_where es fs (λ j. j ≡ placed_key p → ⊥)
          (λ q differ. others q (other_key q differ));
    }
  where
    other_key : (q : PlacedKey) → (placed_key q ≡ placed_key p → ⊥) → same_key p q ≡ false
    other_key q differ =
        elim (key_eq_tells (placed_key p) (placed_key q)) as (λ _. same_key p q ≡ false) [
          | inl both ↦ absurd (differ (sym both.1))
          | inr both ↦ both.0
        ]

-- among the fresh ones
pub put_fresh : (es fs old : Entries) (k : Key) (x : Kept) → IsPut (kept_at es) k x (kept_at fs)
    → IsPut (kept_in es old) k x (kept_in fs old)
put_fresh es fs old k x h =
    record {
      here = ap (λ (o : Option Kept). option_or o (kept_at old k)) h.here;
      others = λ j differ. ap (λ (o : Option Kept). option_or o (kept_at old j)) (h.others j differ);
    }

-- the first of the fresh ones, put among the old
pub moved_one : (p : PlacedKey) (x : Kept) (left old new : Entries) → IsDistinct same_key (keys_of ((p, x) ∷ left))
    → IsPut (kept_at old) (placed_key p) x (kept_at new) → (k : Key)
    → kept_in left new k ≡ kept_in ((p, x) ∷ left) old k
moved_one p x left old new unique put k =
    elim (key_eq_tells k (placed_key p)) as (λ _. kept_in left new k ≡ kept_in ((p, x) ∷ left) old k) [
      | inl both ↦
          subst (λ (j : Key). kept_in left new j ≡ kept_in ((p, x) ∷ left) old j) (sym both.1)
          (ap (λ (o : Option Kept). option_or o (kept_at new (placed_key p))) (none_later (p, x) left unique)
          ∙ put.here
          ∙ sym (ap (λ (o : Option Kept). option_or o (kept_at old (placed_key p)))
          (kept_head (p, x) left (placed_key p) (yes_at (placed_key p)))))
      | inr both ↦
          (λ i. option_or (sym (kept_tail (p, x) left k both.0) i) (put.others k both.1 i))
    ]
