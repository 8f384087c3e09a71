-- Numbers of backups that pass a test, and of lost replicas.
use Rattle.std.proofs.Common.{◌≡◌, ℕ, suc, ◌<◌, ◌≤◌, inl, inr, Bool, true, false, cond, List, [], ◌∷◌}
use Rattle.std.proofs.Common.{refl, sym, ap, ◌∙◌, arith}
use Rattle.std.proofs.lemmas.Bool.{cases_eq}
use Rattle.log_laws.specs.Ids.{has}
use Rattle.log_laws.specs.Left.{how_many}
use Rattle.log_laws.proofs.Lists.{has_here, has_there, has_either}

-- ---- numbers

-- what passes the second passes the first
pub number_fewer : (t u : ℕ → Bool) (bs : List ℕ) → ((c : ℕ) → has bs c ≡ true → u c ≡ true → t c ≡ true)
    → how_many u bs ≤ how_many t bs
number_fewer t u [] each = omega arith
number_fewer t u (b ∷ bs) each =
    go (u b) (t b) (λ is. each b (has_here b bs) is)
    (number_fewer t u bs (λ c among is. each c (has_there b c bs among) is)) where
      go : (x y : Bool) → (x ≡ true → y ≡ true) → how_many u bs ≤ how_many t bs
          → cond x (suc (how_many u bs)) (how_many u bs) ≤ cond y (suc (how_many t bs)) (how_many t bs)
      go true true is le = omega arith
      go true false is le = absurd (let never = is refl in cc)
      go false true is le = omega arith
      go false false is le = le

-- and one that passes the first doesn't pass the second
pub number_less : (t u : ℕ → Bool) (bs : List ℕ) (b : ℕ) → has bs b ≡ true → t b ≡ true → u b ≡ false
    → ((c : ℕ) → has bs c ≡ true → u c ≡ true → t c ≡ true) → how_many u bs < how_many t bs
number_less t u [] b among yes_it no_it each = absurd (cc)
number_less t u (x ∷ bs) b among yes_it no_it each =
    elim (cases_eq b x) as (λ _. how_many u (x ∷ bs) < how_many t (x ∷ bs)) [
      | inl same ↦ first (u x) (t x) (ap u (sym same) ∙ no_it) (ap t (sym same) ∙ yes_it)
          (number_fewer t u bs (λ c m is. each c (has_there x c bs m) is))
      | inr other ↦ later (u x) (t x) (λ is. each x (has_here x bs) is)
          (number_less t u bs b (elim (has_either x b bs among) as (λ _. has bs b ≡ true) [
            | inl same ↦ absurd (other same)
            | inr more ↦ more
          ]) yes_it no_it (λ c m is. each c (has_there x c bs m) is))
    ] where
      first : (v w : Bool) → v ≡ false → w ≡ true → how_many u bs ≤ how_many t bs
          → cond v (suc (how_many u bs)) (how_many u bs) < cond w (suc (how_many t bs)) (how_many t bs)
      first true w no_one yes_one le = absurd (cc)
      first false true no_one yes_one le = omega arith
      first false false no_one yes_one le = absurd (cc)

      later : (v w : Bool) → (v ≡ true → w ≡ true) → how_many u bs < how_many t bs
          → cond v (suc (how_many u bs)) (how_many u bs) < cond w (suc (how_many t bs)) (how_many t bs)
      later true true is lt = omega arith
      later true false is lt = absurd (let never = is refl in cc)
      later false true is lt = omega arith
      later false false is lt = lt
