-- The order of keys.
use Rattle.std.proofs.Common.{◌≡◌, Bool, true, false, refl, sym, ap, subst, ◌∙◌, ◌⊎◌, inl, inr}
use Rattle.std.specs.Bool.{Decides}
use Rattle.std.specs.Cmp.Lexicographic.{bytes_decides}
use Rattle.std.specs.Ordering.{ordering_reverse, is_gt, is_eq}
use Rattle.std.specs.declared.cmp.Ordering.{Ordering}
use Rattle.std.specs.declared.cmp.Ordering.TheVariants.{Less, Equal, Greater}
use Rattle.std.proofs.lemmas.Bool.Decides.{Decides-eqb, Decides-and, Decides-like, not_from_Decides}
use Rattle.std.proofs.lemmas.Cmp.{tied_itself}
use Rattle.entry.specs.declared.key.Key.{Key}
use Rattle.entry.specs.Order.{key_cmp, key_eq, key_cmp_total, key_eq_ties}

pub key_eq_decides : (a b : Key) → Decides (key_eq a b) (a ≡ b)
key_eq_decides a b =
    Decides-like (key_eq a b) (λ h. λ i. record { table = h.0 i; bytes = h.1 i })
    (λ h. (ap (λ (k : Key). k.table) h, ap (λ (k : Key). k.bytes) h))
    (Decides-and _ _ (Decides-eqb a.table b.table) (bytes_decides a.bytes b.bytes))

-- either the one key or two
pub key_eq_tells : (a b : Key) → ((key_eq a b ≡ true) × (a ≡ b)) ⊎ ((key_eq a b ≡ false) × (a ≡ b → ⊥))
key_eq_tells a b = told (key_eq a b) refl
  where
    told : (t : Bool) → key_eq a b ≡ t → ((key_eq a b ≡ true) × (a ≡ b)) ⊎ ((key_eq a b ≡ false) × (a ≡ b → ⊥))
    told true e = inl (e, (key_eq_decides a b).0 e)
    told false e = inr (e, not_from_Decides (key_eq a b) (key_eq_decides a b) e)

pub key_cmp_same : (a b : Key) → a ≡ b → key_cmp a b ≡ Equal
key_cmp_same a b same = subst (λ (k : Key). key_cmp a k ≡ Equal) same (tied_itself key_cmp_total a)

pub key_cmp_equal : (a b : Key) → key_cmp a b ≡ Equal → a ≡ b
key_cmp_equal a b h = (key_eq_decides a b).0 (key_eq_ties a b ∙ ap is_eq h)

-- a key between a key and itself
module _ (a b c : Key) (up : is_gt (key_cmp a b) ≡ false) (on : is_gt (key_cmp b c) ≡ false) (same : a ≡ c) where
  between_by : (o : Ordering) → key_cmp a b ≡ o → a ≡ b
  between_by Less h =
      let back : is_gt (key_cmp b a) ≡ false = subst (λ (k : Key). is_gt (key_cmp b k) ≡ false) (sym same) on in
      let greater : key_cmp b a ≡ Greater = key_cmp_total.antisymm b a ∙ ap ordering_reverse h in
      let yes : is_gt (key_cmp b a) ≡ true = ap is_gt greater in absurd (cc)
  between_by Equal h = key_cmp_equal a b h
  between_by Greater h = let yes : is_gt (key_cmp a b) ≡ true = ap is_gt h in absurd (cc)

  pub key_cmp_between : a ≡ b
  key_cmp_between = between_by (key_cmp a b) refl

pub key_cmp_less : (a b : Key) → is_gt (key_cmp a b) ≡ false → (a ≡ b → ⊥) → key_cmp a b ≡ Less
key_cmp_less a b up other = by_answer (key_cmp a b) refl
  where
    by_answer : (o : Ordering) → key_cmp a b ≡ o → o ≡ Less
    by_answer Less h = refl
    by_answer Equal h = absurd (other (key_cmp_equal a b h))
    by_answer Greater h = let yes : is_gt (key_cmp a b) ≡ true = ap is_gt h in absurd (cc)
