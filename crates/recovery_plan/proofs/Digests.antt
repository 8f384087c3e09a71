-- The digest of a head, which ends with its own id and rises.
use Rattle.std.proofs.Common.{◌≡◌, ℕ, zero, suc, ◌+◌, ◌-◌, ◌<◌, ◌≤◌, inl, inr, true, List, []}
use Rattle.std.proofs.Common.{◌∷◌, ◌++◌, take, length, get_or, sym, ap, subst, ◌∙◌, arith, ⊎_elim}
use Rattle.std.specs.Prelude.{Some, IsSomeAnd, ◌⊎◌}
use Rattle.std.specs.List.{AllByRecursion}
use Rattle.std.specs.List.Sorted.{IsStrictlyIncreasing}
use Rattle.std.proofs.lemmas.Bool.{and_parts, eqb-true, cases_lt}
use Rattle.entry.specs.declared.entry.Role.{Role}
use Rattle.entry.specs.declared.entry.Role.TheVariants.{Head, Survivor}
use Rattle.entry.specs.declared.entry.Header.{Header}
use Rattle.entry.specs.declared.digest.Digest.{Digest}
use Rattle.entry.specs.declared.digest.Digest.TheVariants as digest
use Rattle.entry.specs.declared.entry.Entry.{Entry}
use Rattle.entry.specs.declared.entry.Entry.TheVariants as entry
use Rattle.entry.specs.Bag.{IsAmong}
use Rattle.entry.specs.Format.{IsDigest, IsEntry}
use Rattle.entry.specs.Text.{Opening, opening_in, opening_of, header_of, ends_with, is_rest, is_whole, are_data}
use Rattle.entry.specs.Text.{listed_ids}
use Rattle.replica.specs.declared.holding.Holding.{Holding}
use Rattle.recovery_plan.specs.Good.{IsGood}

-- ---- what a digest is

pub record IsDigestOf (segment : ℕ) (ids : List ℕ) : Type 0 where
  pub ends : ends_with segment ids ≡ true
  pub rise : IsStrictlyIncreasing ids

rest-ends : (r : Role) (s : ℕ) (d : Digest) (v : ℕ) (rest : List Entry)
    → is_rest r s (entry.Digest d ∷ entry.Safe v ∷ rest) ≡ true → ends_with s (listed_ids d) ≡ true
rest-ends Head s d v rest e = (and_parts (ends_with s (listed_ids d)) (are_data rest) e).0
rest-ends Survivor s d v rest e = absurd (cc)

-- the ids of a digest rise
digest-rises : (d : Digest) → IsDigest d → IsStrictlyIncreasing (listed_ids d)
digest-rises (digest.Ids ids) is = is.rise
digest-rises (digest.Lengths ls) is = is.rise

of-entries : (es : List Entry) (o : Opening) (m s : ℕ) → AllByRecursion IsEntry es → is_whole es ≡ true
    → opening_of es ≡ Some o →
    IsSomeAnd (header_of es) (λ (h : Header). (h.master ≡ m) × (h.segment ≡ s)) → IsDigestOf s (listed_ids o.digest)
of-entries (entry.Header h ∷ entry.Digest d ∷ entry.Safe v ∷ rest) o m s each whole opening header =
    let same : listed_ids d ≡ listed_ids o.digest = ap (λ (q : Opening). listed_ids q.digest) (some-of opening) in
    record {
      ends =
          subst (λ (l : List ℕ). ends_with s l ≡ true) same (subst (λ n. ends_with n (listed_ids d) ≡ true) header.1
          (rest-ends h.role h.segment d v rest whole));
      rise = subst IsStrictlyIncreasing same (digest-rises d each.1.0);
    }
  where
    some-of : {a b : Opening} → Some a ≡ Some b → a ≡ b
    some-of e = cc
of-entries _ o m s each whole opening header = absurd (cc)

pub digest-of : (h : Holding) (o : Opening) → IsGood h → opening_in h.bytes ≡ Some o
    → IsDigestOf h.segment (listed_ids o.digest)
digest-of h o good opening =
    of-entries _ o h.master h.segment good.segment.text.segment.each good.segment.text.segment.order opening good.header

-- ---- its last id

pub ends-some : (s : ℕ) (ids : List ℕ) → ends_with s ids ≡ true → 0 < length ids
ends-some s [] e = absurd (cc)
ends-some s (x ∷ ids) e = omega arith

pub ends-last : (s : ℕ) (ids : List ℕ) (n : ℕ) → ends_with s ids ≡ true → n + 1 ≡ length ids
    → ids ≡ take n ids ++ s ∷ []
ends-last s [] n e len = absurd (cc)
ends-last s (x ∷ []) zero e len = ap (λ y. y ∷ []) (eqb-true x s e)
ends-last s (x ∷ []) (suc n) e len = absurd (omega arith)
ends-last s (x ∷ y ∷ ys) zero e len = absurd (omega arith)
ends-last s (x ∷ y ∷ ys) (suc n) e len =
    let shorter : n + 1 ≡ length (y ∷ ys) = omega arith in ap (λ l. x ∷ l) (ends-last s (y ∷ ys) n e shorter)

last-at : (s : ℕ) (ids : List ℕ) (n : ℕ) → ends_with s ids ≡ true → n + 1 ≡ length ids → get_or ids n 0 ≡ s
last-at s [] n e len = absurd (cc)
last-at s (x ∷ []) zero e len = eqb-true x s e
last-at s (x ∷ []) (suc n) e len = absurd (omega arith)
last-at s (x ∷ y ∷ ys) zero e len = absurd (omega arith)
last-at s (x ∷ y ∷ ys) (suc n) e len = last-at s (y ∷ ys) n e (omega arith)

-- ---- its order

-- an id that is among them is at some place
pub among-place : (n : ℕ) (ids : List ℕ) → IsAmong n ids → (k : ℕ) × (k < length ids) × (get_or ids k 0 ≡ n)
among-place n [] i = absurd i
among-place n (x ∷ ids) (inl e) = (0, omega arith, e)
among-place n (x ∷ ids) (inr i) = let at = among-place n ids i in let lt = at.1 in (suc at.0, omega arith, at.2)

pub place-among : (n : ℕ) (ids : List ℕ) (k : ℕ) → k < length ids → get_or ids k 0 ≡ n → IsAmong n ids
place-among n [] k lt e = absurd (omega arith)
place-among n (x ∷ ids) zero lt e = inl e
place-among n (x ∷ ids) (suc k) lt e = inr (place-among n ids k (omega arith) e)

-- later ids are greater
later : (ids : List ℕ) (i d : ℕ) → IsStrictlyIncreasing ids → i + d < length ids → get_or ids i 0 ≤ get_or ids (i + d) 0
later ids i zero rise lt =
    let same : i ≡ i + 0 = omega arith in subst (λ k. get_or ids i 0 ≤ get_or ids k 0) same (omega arith)
later ids i (suc d) rise lt =
    let same : i + d + 1 ≡ i + suc d = omega arith in
    let below : get_or ids i 0 ≤ get_or ids (i + d) 0 = later ids i d rise (omega arith) in
    let next : get_or ids (i + d) 0 < get_or ids (i + d + 1) 0 = rise (i + d) (omega arith) in
    subst (λ k. get_or ids i 0 ≤ get_or ids k 0) same (omega arith)

pub earlier : (ids : List ℕ) (i k : ℕ) → IsStrictlyIncreasing ids → i < length ids → k < length ids
    → get_or ids k 0 < get_or ids i 0 → k < i
earlier ids i k rise il kl lt = ⊎_elim (λ l. l) above (cases_lt k i)
  where
    above : i ≤ k → k < i
    above le =
        let same : i + (k - i) ≡ k = omega arith in
        let far : get_or ids i 0 ≤ get_or ids (i + (k - i)) 0 = later ids i (k - i) rise (omega arith) in
        let here : get_or ids i 0 ≤ get_or ids k 0 = subst (λ n. get_or ids i 0 ≤ get_or ids n 0) same far in
        omega arith

-- an id that isn't the last is below it
pub below-last : (s : ℕ) (ids : List ℕ) (k : ℕ) → IsDigestOf s ids → k + 1 < length ids → get_or ids k 0 < s
below-last s ids k digest lt =
    let i = k + 1 in
    let same : i + (length ids - 1 - i) ≡ length ids - 1 = omega arith in
    let far : get_or ids i 0 ≤ get_or ids (i + (length ids - 1 - i)) 0 =
    later ids i (length ids - 1 - i) digest.rise (omega arith) in
    let last : get_or ids (length ids - 1) 0 ≡ s = last-at s ids (length ids - 1) digest.ends (omega arith) in
    let most : get_or ids i 0 ≤ get_or ids (length ids - 1) 0 = subst (λ n. get_or ids i 0 ≤ get_or ids n 0) same far in
    let next : get_or ids k 0 < get_or ids i 0 = digest.rise k lt in
    omega arith

-- one that isn't the last has a place before it
pub place-before : (s : ℕ) (ids : List ℕ) (n : ℕ) → IsDigestOf s ids → IsAmong n ids → (n ≡ s → ⊥)
    → (k : ℕ) × (k + 1 < length ids) × (get_or ids k 0 ≡ n)
place-before s ids n digest among not = go (cases_lt (at.0 + 1) (length ids))
  where
    at : (k : ℕ) × (k < length ids) × (get_or ids k 0 ≡ n)
    at = among-place n ids among

    go : ((at.0 + 1 < length ids) ⊎ (length ids ≤ at.0 + 1)) → (k : ℕ) × (k + 1 < length ids) × (get_or ids k 0 ≡ n)
    go (inl lt) = (at.0, lt, at.2)
    go (inr le) =
        let below = at.1 in
        let last : get_or ids at.0 0 ≡ s = last-at s ids at.0 digest.ends (omega arith) in
        absurd (not (sym at.2 ∙ last))
