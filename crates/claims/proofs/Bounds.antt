-- The greatest version of claims.
use Rattle.std.proofs.Common.{◌≡◌, ℕ, ◌+◌, ◌-◌, ◌≤◌, List, [], ◌∷◌, max, sym, ap, ◌∙◌, inl, inr, arith, refl}
use Rattle.entry.specs.declared.entry.Entry.{Entry}
use Rattle.entry.specs.declared.entry.Entry.TheVariants as entry
use Rattle.entry.specs.Bag.{IsAmong}
use Rattle.entry.specs.Meaning.{bound_of}
use Rattle.claims.specs.Claims.{Claimed, claims_of, bound_of_claims}
use Rattle.claims.proofs.MeaningLemmas.{AreClaims}

pub bound_has : (cs : List Claimed) (c : Claimed) → IsAmong c cs → c.version + 1 ≤ bound_of_claims cs
bound_has [] c m = absurd m
bound_has (d ∷ cs) c (inl e) =
    let same : d.version ≡ c.version = ap (λ (z : Claimed). z.version) e in grind (arith, same)
bound_has (d ∷ cs) c (inr m) = let more = bound_has cs c m in grind (arith, more)

pub bound_under : (cs ds : List Claimed) → ((c : Claimed) → IsAmong c cs → IsAmong c ds)
    → bound_of_claims cs ≤ bound_of_claims ds
bound_under [] ds h = omega arith
bound_under (c ∷ cs) ds h =
    let first = bound_has ds c (h c (inl refl)) in
    let more = bound_under cs ds (λ d m. h d (inr m)) in
    grind (arith, first, more)

pub bound_claimed : (es : List Entry) → max 1 (bound_of es) ≡ max 1 (bound_of_claims (claims_of es))
bound_claimed [] = refl
bound_claimed (entry.Header h ∷ es) = let more = bound_claimed es in grind (arith, more)
bound_claimed (entry.Digest ids ∷ es) = let more = bound_claimed es in grind (arith, more)
bound_claimed (entry.Safe version ∷ es) = let more = bound_claimed es in grind (arith, more)
bound_claimed (entry.Object o ∷ es) = let more = bound_claimed es in grind (arith, more)
bound_claimed (entry.Tombstone t ∷ es) = let more = bound_claimed es in grind (arith, more)

pub greatest_is : (es : List Entry) (cs : List Claimed) → AreClaims es cs
    → max 1 (bound_of_claims cs) ≡ max 1 (bound_of es)
greatest_is es cs are =
    let low = bound_under cs (claims_of es) are.only in
    let high = bound_under (claims_of es) cs are.all in
    let same : bound_of_claims cs ≡ bound_of_claims (claims_of es) = omega (arith, low, high) in
    ap (λ n. max 1 n) same ∙ sym (bound_claimed es)

pub one_less : (g n : ℕ) → g ≡ max 1 n → g - 1 + 1 ≡ max 1 n
one_less g n is = grind (arith, is)
