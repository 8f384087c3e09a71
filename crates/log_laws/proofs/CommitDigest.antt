-- Which ids are in a list of rising ids once some are left out and some are put in.
use Rattle.std.proofs.Common.{◌≡◌, ℕ, ◌⊎◌, inl, inr, Bool, true, false, cond, List, [], ◌∷◌, refl, sym, subst}
use Rattle.std.specs.Prelude.{nat_lt}
use Rattle.entry.specs.Bag.{IsAmong}
use Rattle.log_laws.specs.Ids.{has, inserted, all_inserted, without}
use Rattle.log_laws.proofs.KeptEntries.{has_is, is_has}

-- the log set less the victims
module _ (victims : List ℕ) where
  pub without_stays : (ids : List ℕ) (s : ℕ) → IsAmong s ids → (IsAmong s victims → ⊥) → IsAmong s (without victims ids)
  without_stays [] s m not = m
  without_stays (z ∷ ids) s m not = told (λ l. without_stays ids s l not) (has victims z) refl m
    where
      told : (IsAmong s ids → IsAmong s (without victims ids)) → (b : Bool) → has victims z ≡ b
          → (z ≡ s) ⊎ IsAmong s ids → IsAmong s (cond b (without victims ids) (z ∷ without victims ids))
      told later true e (inl same) = absurd (not (subst (λ (y : ℕ). IsAmong y victims) same (is_has victims z e)))
      told later true e (inr m) = later m
      told later false e (inl same) = inl same
      told later false e (inr m) = inr (later m)

  pub without_from : (ids : List ℕ) (s : ℕ) → IsAmong s (without victims ids) → IsAmong s ids × (IsAmong s victims → ⊥)
  without_from [] s m = absurd m
  without_from (z ∷ ids) s m = told (without_from ids s) (has victims z) refl m
    where
      told : (IsAmong s (without victims ids) → IsAmong s ids × (IsAmong s victims → ⊥)) → (b : Bool)
          → has victims z ≡ b → IsAmong s (cond b (without victims ids) (z ∷ without victims ids))
          → ((z ≡ s) ⊎ IsAmong s ids) × (IsAmong s victims → ⊥)
      told later true e m = let h = later m in (inr h.0, h.1)
      told later false e (inl same) = (
        inl same,
        λ v. let t = has_is victims z (subst (λ (y : ℕ). IsAmong y victims) (sym same) v) in absurd (cc),
      )
      told later false e (inr m) = let h = later m in (inr h.0, h.1)

-- ---- insertion

pub inserted_out : (s : ℕ) (ids : List ℕ) (x : ℕ) → IsAmong x (inserted s ids) → (s ≡ x) ⊎ IsAmong x ids
inserted_out s [] x m = m
inserted_out s (z ∷ ids) x m = go (λ l. inserted_out s ids x l) (nat_lt s z) m where
  go : (IsAmong x (inserted s ids) → (s ≡ x) ⊎ IsAmong x ids) → (b : Bool)
      → IsAmong x (cond b (s ∷ z ∷ ids) (z ∷ inserted s ids)) → (s ≡ x) ⊎ ((z ≡ x) ⊎ IsAmong x ids)
  go later true l = l
  go later false (inl same) = inr (inl same)
  go later false (inr l) = elim (later l) [ inl e ↦ inl e | inr r ↦ inr (inr r) ]

pub inserted_in : (s : ℕ) (ids : List ℕ) (x : ℕ) → (s ≡ x) ⊎ IsAmong x ids → IsAmong x (inserted s ids)
inserted_in s [] x m = m
inserted_in s (z ∷ ids) x m = go (λ l. inserted_in s ids x l) (nat_lt s z) m where
  go : ((s ≡ x) ⊎ IsAmong x ids → IsAmong x (inserted s ids)) → (b : Bool) → (s ≡ x) ⊎ ((z ≡ x) ⊎ IsAmong x ids)
      → IsAmong x (cond b (s ∷ z ∷ ids) (z ∷ inserted s ids))
  go later true l = l
  go later false (inl same) = inr (later (inl same))
  go later false (inr (inl same)) = inl same
  go later false (inr (inr l)) = inr (later (inr l))

pub all_out : (more ids : List ℕ) (x : ℕ) → IsAmong x (all_inserted more ids) → IsAmong x ids ⊎ IsAmong x more
all_out [] ids x m = inl m
all_out (s ∷ more) ids x m = elim (inserted_out s (all_inserted more ids) x m) [
  | inl same ↦ inr (inl same)
  | inr l ↦ elim (all_out more ids x l) [ inl a ↦ inl a | inr b ↦ inr (inr b) ]
]

pub all_in : (more ids : List ℕ) (x : ℕ) → IsAmong x ids ⊎ IsAmong x more → IsAmong x (all_inserted more ids)
all_in [] ids x (inl m) = m
all_in [] ids x (inr never) = absurd never
all_in (s ∷ more) ids x (inl m) = inserted_in s (all_inserted more ids) x (inr (all_in more ids x (inl m)))
all_in (s ∷ more) ids x (inr (inl same)) = inserted_in s (all_inserted more ids) x (inl same)
all_in (s ∷ more) ids x (inr (inr m)) = inserted_in s (all_inserted more ids) x (inr (all_in more ids x (inr m)))
