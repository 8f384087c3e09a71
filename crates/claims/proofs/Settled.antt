-- What a log with these claims is rebuilt to, once the claims are sorted.
use Rattle.std.proofs.Common.{◌≡◌, ℕ, max, List, map, sym, ap, subst, ◌∙◌, arith}
use Rattle.std.specs.Prelude.{All}
use Rattle.std.specs.List.Sorted.{IsSortedBy, IsStrictlySortedBy, IsPermutation}
use Rattle.std.proofs.lemmas.List.Sorted.{IsPermutation-sym, IsPermutation-map}
use Rattle.entry.specs.declared.entry.Object.{Object}
use Rattle.entry.specs.declared.entry.Entry.{Entry}
use Rattle.entry.specs.Bag.{IsAmong}
use Rattle.entry.specs.Format.{IsObject}
use Rattle.entry.specs.Meaning.{IsMeaning, among, contents_of, bound_of}
use Rattle.entry.specs.Order.{key_cmp}
use Rattle.entry.proofs.BagLemmas.{among_permutation}
use Rattle.claims.specs.Bags.{segments_bag}
use Rattle.claims.specs.declared.claim.Claim.{Claim}
use Rattle.claims.specs.declared.rebuilt.Rebuilt.{Rebuilt}
use Rattle.claims.specs.Claims.{Claimed, claimed, claims_of, is_before, has_clash, objects_in, tops, bound_of_claims}
use Rattle.claims.specs.Rebuilt.{IsRebuilt}
use Rattle.claims.specs.Settled.{AreOf}
use Rattle.claims.proofs.ClaimOrder.{Rises-from_sorted}
use Rattle.claims.proofs.ScanLemmas.{keys_of, tops-sorted}
use Rattle.claims.proofs.MeaningLemmas.{AreClaims, tops-mean, bound_of-bag}
use Rattle.claims.proofs.Bounds.{bound_under}
use Rattle.std.specs.Prelude.{false}

module _ (before after : List Claim) (moved : IsPermutation before after) where
  -- a sort keeps the claims
  pub kept_in_sort : (c : Claimed) → IsAmong c (map claimed after) → IsAmong c (map claimed before)
  kept_in_sort c m =
      among_permutation c (map claimed after) (map claimed before)
      (IsPermutation-sym (map claimed before) (map claimed after) (IsPermutation-map claimed before after moved)) m

  pub settled : IsSortedBy is_before after → (es : List Entry) → AreOf es (map claimed before)
      → AreClaims es (map claimed after)
  settled sorted es of =
      record {
        up = Rises-from_sorted claimed after sorted;
        only = λ c m. (of c).0 (kept_in_sort c m);
        all = λ c m. among_permutation c (map claimed before) (map claimed after)
            (IsPermutation-map claimed before after moved) ((of c).1 m);
      }

-- claims of a log are below what is above the log
pub bound_of_log : (segments : List (List Entry)) (cs : List Claimed) → AreOf (segments_bag segments) cs
    → bound_of_claims cs ≡ bound_of (segments_bag segments)
bound_of_log segments cs of =
    let es = claims_of (segments_bag segments) in
    let low = bound_under cs es (λ c m. (of c).0 m) in
    let high = bound_under es cs (λ c m. (of c).1 m) in
    let same : bound_of_claims cs ≡ bound_of_claims es = omega (arith, low, high) in
    same ∙ sym (bound_of-bag segments)

pub rebuilt : (segments : List (List Entry)) (cs before : List Claimed) (recorded : ℕ) (r : Rebuilt)
    → AreClaims (segments_bag segments) cs → AreOf (segments_bag segments) before → has_clash cs ≡ false
    → r.objects ≡ objects_in (tops cs) → All IsObject r.objects → r.safe ≡ max recorded (bound_of_claims before)
    → IsRebuilt segments recorded r
rebuilt segments cs before recorded r are of clean listed valid safe =
    record {
      meaning =
          subst (λ (os : List Object). IsMeaning (among (segments_bag segments)) (contents_of os)) (sym listed)
          (tops-mean (segments_bag segments) cs are clean);
      order = subst (λ (os : List Object). IsStrictlySortedBy key_cmp (keys_of os)) (sym listed)
          (tops-sorted cs are.up);
      valid = valid;
      safe = safe ∙ ap (λ n. max recorded n) (bound_of_log segments before of);
    }
