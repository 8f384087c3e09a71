-- What the claims that are kept mean.
use Rattle.std.proofs.Common.{◌≡◌, ℕ, ◌+◌, ◌*◌, ◌≤◌, Bool, true, false, cond, List, [], ◌∷◌, max}
use Rattle.std.proofs.Common.{refl, sym, ap, subst, ◌∙◌, inl, inr, arith}
use Rattle.std.specs.Prelude.{Option, Some}
use Rattle.std.proofs.lemmas.Option.{same_Some}
use Rattle.entry.specs.declared.key.Key.{Key}
use Rattle.entry.specs.declared.entry.Object.{Object}
use Rattle.entry.specs.declared.entry.Entry.{Entry}
use Rattle.entry.specs.declared.entry.Entry.TheVariants as entry
use Rattle.entry.specs.Bag.{IsAmong}
use Rattle.entry.specs.Meaning.{Versioned, rank_of, IsTop, IsMeaning, IsClean, among, bound_of}
use Rattle.entry.specs.Meaning.{object_at, versioned, contents_of}
use Rattle.claims.specs.Claims.{Claimed, claims_of, object_of, objects_in, tops, has_clash, bound_of_claims, rank}
use Rattle.claims.proofs.ClaimOrder.{Rises}
use Rattle.claims.proofs.Bounds.{bound_has, bound_under, bound_claimed}
use Rattle.claims.proofs.ScanLemmas.{tops-among, tops-some, tops-sorted, objects_in-among, objects_in-has}
use Rattle.claims.proofs.ScanLemmas.{clash-found, is_clash-tells}
use Rattle.claims.proofs.MeaningLemmas.{claims_of-among, claims_of-has, claim-matches, claim-of_key, object-from_claim}
use Rattle.claims.proofs.MeaningLemmas.{contents_of-among, contents_of-has}
use Rattle.partition_replay.specs.declared.kept.Kept.{Kept}
use Rattle.partition_replay.specs.Keeping.{kept_claim, IsKept, HaveClash, AreTops}

-- of one key one claim is kept
pub kept_once : (kept : Key → Option Kept) (c d : Claimed) → IsKept kept c → IsKept kept d → c.key ≡ d.key → c ≡ d
kept_once kept c d h g same =
    let one : h.0 ≡ g.0 = same_Some h.0 g.0 (sym h.1 ∙ ap kept same ∙ g.1) in
    sym h.2 ∙ (λ i. kept_claim (same i) (one i)) ∙ g.2

abbrev pub claim_at : Key → Versioned → Claimed
claim_at k x = record { key = k; version = x.version; dead = false; value = x.value }

-- two claims that clash are of entries that are not clean
pub clash_unclean : (es : List Entry) → HaveClash (claims_of es) → IsClean (among es) → ⊥
clash_unclean es h clean =
    let tells = is_clash-tells h.0 h.1 h.4 in
    let rival = tells.0 in
    let e = claims_of-among es h.0 h.2 in
    let f = claims_of-among es h.1 h.3 in
    let first : IsAmong (entry.Object (object_of h.0)) es =
    subst (λ (z : Entry). IsAmong z es) (object-from_claim e.0 h.0 e.2 rival.first) e.1 in
    let second : IsAmong (entry.Object (object_of h.1)) es =
    subst (λ (z : Entry). IsAmong z es) (object-from_claim f.0 h.1 f.2 rival.second) f.1 in
    tells.1 (clean (object_of h.0) (object_of h.1) first second rival.key rival.version)

-- a tombstone's claim ranks between those of its version and the next
level : (a b : Bool) (v w : ℕ) → b ≡ false → cond a (2 * v + 1) (2 * v) ≤ cond b (2 * w + 1) (2 * w)
    → cond b (2 * w + 1) (2 * w) ≤ cond a (2 * v + 1) (2 * v) → (a ≡ false) × (v ≡ w)
level true false v w alive low high = absurd (omega arith)
level false false v w alive low high = (refl, omega arith)
level a true v w alive low high = absurd (cc)

version_up : (a b : Bool) (v w : ℕ) → cond a (2 * v + 1) (2 * v) ≤ cond b (2 * w + 1) (2 * w) → v ≤ w
version_up true true v w h = omega arith
version_up true false v w h = omega arith
version_up false true v w h = omega arith
version_up false false v w h = omega arith

module _ (es : List Entry) (kept : Key → Option Kept) (are : AreTops (claims_of es) kept) where
  -- ---- tops

  -- the object that is its key's top is kept
  pub top_kept : (k : Key) (x : Versioned) → IsTop k (among es) (object_at k x) → IsKept kept (claim_at k x)
  top_kept k x top =
      let there : IsAmong (claim_at k x) (claims_of es) =
      claims_of-has es (object_at k x) (claim_at k x) top.held refl in
      let y = are.each (claim_at k x) there in
      let c = kept_claim k y.0 in
      let e = claims_of-among es c (are.only k y.0 y.1) in
      let m = claim-matches e.0 c e.2 in
      let ranks : rank_of e.0 ≡ rank c = m.ranks in
      let high : rank_of e.0 ≤ 2 * x.version = top.highest e.0 e.1 m.of_key in
      let low : 2 * x.version ≤ rank c = y.2.ranks in
      let same = level c.dead false c.version x.version refl (omega (arith, ranks, high)) low in
      let even : rank (claim_at k x) ≡ rank c = omega (arith, ranks, high, low) in
      let value : x.value ≡ c.value = y.2.same refl even in (
        y.0,
        y.1,
        λ i. record { key = k; version = same.1 i; dead = same.0 i; value = sym value i },
      )

  -- and the object that is kept is its key's top
  pub kept_top : (k : Key) (x : Versioned) → IsKept kept (claim_at k x) → IsTop k (among es) (object_at k x)
  kept_top k x h =
      let there : IsAmong (claim_at k x) (claims_of es) =
      subst (λ (c : Claimed). IsAmong c (claims_of es)) h.2 (are.only k h.0 h.1) in
      let e = claims_of-among es (claim_at k x) there in
      subst (λ (f : Entry). IsTop k (among es) f) (object-from_claim e.0 (claim_at k x) e.2 refl) (record {
        held = e.1;
        of_key = (claim-matches e.0 (claim_at k x) e.2).of_key;
        highest = λ f held at.
            let d = claim-of_key f k at in
            let y = are.each d.0 (claims_of-has es f d.0 held d.1) in
            let one : y.0 ≡ h.0 = same_Some y.0 h.0 (sym y.1 ∙ ap kept d.2 ∙ h.1) in
            let is : kept_claim d.0.key y.0 ≡ claim_at k x = (λ i. kept_claim (d.2 i) (one i)) ∙ h.2 in
            let over : rank d.0 ≤ rank (kept_claim d.0.key y.0) = y.2.ranks in
            let level : rank (kept_claim d.0.key y.0) ≡ rank (claim_at k x) = ap rank is in
            let first : rank_of f ≡ rank d.0 = (claim-matches f d.0 d.1).ranks in
            let second : rank_of e.0 ≡ rank (claim_at k x) = (claim-matches e.0 (claim_at k x) e.2).ranks in
            omega (arith, over, level, first, second);
      })

  -- no key has two objects of greatest rank
  pub one_top : (k : Key) (x y : Versioned) → IsTop k (among es) (object_at k x) → IsTop k (among es) (object_at k y)
      → x ≡ y
  one_top k x y h g =
      let same = kept_once kept (claim_at k x) (claim_at k y) (top_kept k x h) (top_kept k y g) refl in
      λ i. record { version = (same i).version; value = (same i).value }

  -- ---- the greatest version

  module _ (ks : List Claimed) (only : (c : Claimed) → IsAmong c ks → IsKept kept c)
      (each : (c : Claimed) → IsKept kept c → IsAmong c ks) where
    only_came : (c : Claimed) → IsAmong c ks → IsAmong c (claims_of es)
    only_came c m =
        let h = only c m in
        subst (λ (d : Claimed). IsAmong d (claims_of es)) h.2 (are.only c.key h.0 h.1)

    bound_over : (cs : List Claimed) → ((c : Claimed) → IsAmong c cs → IsAmong c (claims_of es))
        → bound_of_claims cs ≤ bound_of_claims ks
    bound_over [] came = omega arith
    bound_over (c ∷ cs) came =
        let y = are.each c (came c (inl refl)) in
        let d = kept_claim c.key y.0 in
        let up : c.version ≤ d.version = version_up c.dead d.dead c.version d.version y.2.ranks in
        let first : d.version + 1 ≤ bound_of_claims ks = bound_has ks d (each d (y.0, y.1, refl)) in
        let more = bound_over cs (λ e m. came e (inr m)) in
        grind (arith, up, first, more)

    pub greatest_kept : max 1 (bound_of_claims ks) ≡ max 1 (bound_of es)
    greatest_kept =
        let low = bound_under ks (claims_of es) only_came in
        let high = bound_over (claims_of es) (λ c m. m) in
        let same : bound_of_claims ks ≡ bound_of_claims (claims_of es) = omega (arith, low, high) in
        ap (λ n. max 1 n) same ∙ sym (bound_claimed es)

  -- ---- the objects

  module _ (cs : List Claimed) (up : Rises cs) (only : (c : Claimed) → IsAmong c cs → IsKept kept c)
      (each : (c : Claimed) → IsKept kept c → c.dead ≡ false → IsAmong c cs) where
    present : (k : Key) (x : Versioned) → contents_of (objects_in (tops cs)) k ≡ Some x → IsKept kept (claim_at k x)
    present k x h =
        let o = contents_of-among (objects_in (tops cs)) k x h in
        let c = objects_in-among (tops cs) o.0 o.1 in
        let key : c.0.key ≡ k = ap (λ (z : Object). z.key) c.3 ∙ o.2 in
        let state : versioned (object_of c.0) ≡ x = ap (λ (z : Object). versioned z) c.3 ∙ o.3 in
        let is : c.0 ≡ claim_at k x =
        λ i. record { key = key i; version = (state i).version; dead = c.2 i; value = (state i).value } in
        subst (IsKept kept) is (only c.0 (tops-among cs c.0 c.1))

    absent : (k : Key) (x : Versioned) → IsKept kept (claim_at k x) → contents_of (objects_in (tops cs)) k ≡ Some x
    absent k x h =
        let w = tops-some cs (claim_at k x) (each (claim_at k x) h refl) in
        let is : w.0 ≡ claim_at k x =
        kept_once kept w.0 (claim_at k x) (only w.0 (tops-among cs w.0 w.1)) h w.2 in
        let there : IsAmong (claim_at k x) (tops cs) = subst (λ (c : Claimed). IsAmong c (tops cs)) is w.1 in
        contents_of-has (objects_in (tops cs)) (object_of (claim_at k x)) (tops-sorted cs up)
        (objects_in-has (tops cs) (claim_at k x) there refl)

    pub meant : IsMeaning (among es) (contents_of (objects_in (tops cs)))
    meant k x = (λ h. kept_top k x (present k x h), λ top. absent k x (top_kept k x top))

    pub unclashed : has_clash cs ≡ false
    unclashed = by_test (has_clash cs) refl
      where
        by_test : (b : Bool) → has_clash cs ≡ b → b ≡ false
        by_test false e = refl
        by_test true e =
            let p = clash-found cs e in
            let tells = is_clash-tells p.0 p.1 p.4 in
            let same = kept_once kept p.0 p.1 (only p.0 p.2) (only p.1 p.3) tells.0.key in
            absurd (tells.1 (ap (λ (c : Claimed). c.value) same))
