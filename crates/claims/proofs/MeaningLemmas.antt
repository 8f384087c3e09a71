-- The last claims of the keys have the meaning of the entries.
use Rattle.std.proofs.Common.{◌≡◌, ℕ, ◌+◌, ◌*◌, ◌≤◌, Bool, true, false, cond, List, [], ◌∷◌, ◌++◌}
use Rattle.std.proofs.Common.{max, map, Some, refl, sym, ap, subst, ◌∙◌, inl, inr, arith}
use Rattle.std.specs.Prelude.{filter}
use Rattle.std.specs.List.Sorted.{IsSortedBy, IsStrictlySortedBy, IsPermutation}
use Rattle.std.specs.declared.cmp.Ordering.TheVariants.{Less, Equal}
use Rattle.std.proofs.lemmas.List.Sorted.{IsPermutation-sym, IsPermutation-map}
use Rattle.entry.specs.declared.key.Key.{Key}
use Rattle.entry.specs.declared.entry.Object.{Object}
use Rattle.entry.specs.declared.entry.Entry.{Entry}
use Rattle.entry.specs.declared.entry.Entry.TheVariants as entry
use Rattle.entry.specs.Bag.{IsAmong}
use Rattle.entry.specs.Meaning.{Versioned, IsOfKey, rank_of, IsTop, object_at, IsMeaning}
use Rattle.entry.specs.Meaning.{IsClean, among, bound_of, versioned, contents_of}
use Rattle.entry.specs.Order.{key_cmp, key_eq}
use Rattle.entry.specs.Text.{is_data}
use Rattle.claims.specs.Bags.{segments_bag}
use Rattle.claims.specs.declared.fault.ReplayFault.{ReplayFault}
use Rattle.claims.specs.declared.fault.ReplayFault.TheVariants as fault
use Rattle.claims.specs.Rebuilt.{IsRefusal}
use Rattle.claims.specs.Claims.{Claimed, IsRefusedFor, claim_of, claims_of, object_of, rank}
use Rattle.claims.specs.Claims.{objects_in, tops, has_clash, bound_of_claims}
use Rattle.entry.proofs.BagLemmas.{among_permutation, among_image}
use Rattle.entry.proofs.ListLemmas.{all_among}
use Rattle.entry.proofs.KeyOrder.{key_eq_decides, key_cmp_same}
use Rattle.claims.proofs.ClaimOrder.{Rises, Rises-from_sorted, before_by}
use Rattle.claims.proofs.ScanLemmas.{tops-among, tops-highest, tops-some, tops-sorted, keys_of, objects_in-among}
use Rattle.claims.proofs.ScanLemmas.{objects_in-has, unclashed, clash-found, is_clash-tells}

-- ---- entries and their claims

pub claims_of-among : (es : List Entry) (c : Claimed) → IsAmong c (claims_of es)
    → (e : Entry) × IsAmong e es × (claim_of e ≡ Some c)
claims_of-among [] c m = absurd m
claims_of-among (entry.Header h ∷ es) c m = let e = claims_of-among es c m in (e.0, inr e.1, e.2)
claims_of-among (entry.Digest ids ∷ es) c m = let e = claims_of-among es c m in (e.0, inr e.1, e.2)
claims_of-among (entry.Safe version ∷ es) c m = let e = claims_of-among es c m in (e.0, inr e.1, e.2)
claims_of-among (entry.Object o ∷ es) c (inl p) = (entry.Object o, inl refl, ap Some p)
claims_of-among (entry.Object o ∷ es) c (inr m) = let e = claims_of-among es c m in (e.0, inr e.1, e.2)
claims_of-among (entry.Tombstone t ∷ es) c (inl p) = (entry.Tombstone t, inl refl, ap Some p)
claims_of-among (entry.Tombstone t ∷ es) c (inr m) = let e = claims_of-among es c m in (e.0, inr e.1, e.2)

pub claims_of-has : (es : List Entry) (e : Entry) (c : Claimed) → IsAmong e es → claim_of e ≡ Some c
    → IsAmong c (claims_of es)
claims_of-has [] e c m h = m
claims_of-has (f ∷ es) e c (inl p) h = first f (ap claim_of p ∙ h)
  where
    first : (f : Entry) → claim_of f ≡ Some c → IsAmong c (claims_of (f ∷ es))
    first (entry.Header h) e = absurd (cc)
    first (entry.Digest ids) e = absurd (cc)
    first (entry.Safe version) e = absurd (cc)
    first (entry.Object o) e = inl (cc)
    first (entry.Tombstone t) e = inl (cc)
claims_of-has (f ∷ es) e c (inr l) h = later f (claims_of-has es e c l h)
  where
    later : (f : Entry) → IsAmong c (claims_of es) → IsAmong c (claims_of (f ∷ es))
    later (entry.Header h) m = m
    later (entry.Digest ids) m = m
    later (entry.Safe version) m = m
    later (entry.Object o) m = inr m
    later (entry.Tombstone t) m = inr m

-- an entry's claim has its key and its rank
pub record Matches (e : Entry) (c : Claimed) : Type 0 where
  pub of_key : IsOfKey c.key e
  pub ranks : rank_of e ≡ rank c

pub claim-matches : (e : Entry) (c : Claimed) → claim_of e ≡ Some c → Matches e c
claim-matches (entry.Header h) c p = absurd (cc)
claim-matches (entry.Digest ids) c p = absurd (cc)
claim-matches (entry.Safe version) c p = absurd (cc)
claim-matches (entry.Object o) c p =
    let same : record { key = o.key; version = o.version; dead = false; value = o.value } ≡ c = cc in
    subst (Matches (entry.Object o)) same (record { of_key = refl; ranks = refl })
claim-matches (entry.Tombstone t) c p =
    let same : record { key = t.key; version = t.version; dead = true; value = [] } ≡ c = cc in
    subst (Matches (entry.Tombstone t)) same (record { of_key = refl; ranks = refl })

-- an entry of a key has a claim
pub claim-of_key : (e : Entry) (k : Key) → IsOfKey k e → (c : Claimed) × (claim_of e ≡ Some c) × (c.key ≡ k)
claim-of_key (entry.Header h) k at = absurd at
claim-of_key (entry.Digest ids) k at = absurd at
claim-of_key (entry.Safe version) k at = absurd at
claim-of_key (entry.Object o) k at = (_, refl, at)
claim-of_key (entry.Tombstone t) k at = (_, refl, at)

pub object-from_claim : (e : Entry) (c : Claimed) → claim_of e ≡ Some c → c.dead ≡ false
    → e ≡ entry.Object (object_of c)
object-from_claim (entry.Header h) c p alive = absurd (cc)
object-from_claim (entry.Digest ids) c p alive = absurd (cc)
object-from_claim (entry.Safe version) c p alive = absurd (cc)
object-from_claim (entry.Object o) c p alive =
    let same : record { key = o.key; version = o.version; dead = false; value = o.value } ≡ c = cc in
    ap (λ (d : Claimed). entry.Object (object_of d)) same
object-from_claim (entry.Tombstone t) c p alive =
    let same : record { key = t.key; version = t.version; dead = true; value = [] } ≡ c = cc in
    let dead : true ≡ c.dead = ap (λ (d : Claimed). d.dead) same in absurd (cc)

-- ---- what a list of objects has

-- the list has the key's object, of this version and value
abbrev pub HasObject : List Object → Key → Versioned → Type 0
HasObject os k x = (o : Object) × IsAmong o os × (o.key ≡ k) × (versioned o ≡ x)

pub contents_of-among : (os : List Object) (k : Key) (x : Versioned) → contents_of os k ≡ Some x → HasObject os k x
contents_of-among [] k x h = absurd (cc)
contents_of-among (o ∷ os) k x h = by_test (contents_of-among os k x) (key_eq k o.key) refl h
  where
    by_test : (contents_of os k ≡ Some x → HasObject os k x) → (b : Bool) → key_eq k o.key ≡ b →
        cond b (Some (versioned o)) (contents_of os k) ≡ Some x → HasObject (o ∷ os) k x
    by_test before true e h =
        (o, inl refl, sym ((key_eq_decides k o.key).0 e), (let same : versioned o ≡ x = cc in same))
    by_test before false e h = let p = before h in (p.0, inr p.1, p.2, p.3)

pub contents_of-has : (os : List Object) (o : Object) → IsStrictlySortedBy key_cmp (keys_of os) → IsAmong o os
    → contents_of os o.key ≡ Some (versioned o)
unfolding IsStrictlySortedBy
contents_of-has [] o sorted m = absurd m
contents_of-has (p ∷ ps) o sorted (inl e) =
    let at : key_eq o.key p.key ≡ true = (key_eq_decides o.key p.key).1 (ap (λ (z : Object). z.key) (sym e)) in
    rw at (ap (λ (z : Object). Some (versioned z)) e)
contents_of-has (p ∷ ps) o sorted (inr l) = by_test (key_eq o.key p.key) refl (contents_of-has ps o sorted.1 l)
  where
    by_test : (b : Bool) → key_eq o.key p.key ≡ b → contents_of ps o.key ≡ Some (versioned o) →
        cond b (Some (versioned p)) (contents_of ps o.key) ≡ Some (versioned o)
    by_test true e h =
        let less : key_cmp p.key o.key ≡ Less =
        all_among (λ k. key_cmp p.key k ≡ Less)
        (keys_of ps) o.key sorted.0 (among_image (λ (z : Object). z.key) ps o l) in
        let equal : key_cmp p.key o.key ≡ Equal = key_cmp_same p.key o.key (sym ((key_eq_decides o.key p.key).0 e)) in
        absurd (cc)
    by_test false e h = h

-- ---- the meaning

-- sorted claims, which are those of the entries
pub record AreClaims (es : List Entry) (cs : List Claimed) : Type 0 where
  pub up : Rises cs
  pub only : (c : Claimed) → IsAmong c cs → IsAmong c (claims_of es)
  pub all : (c : Claimed) → IsAmong c (claims_of es) → IsAmong c cs

module _ (es : List Entry) (cs : List Claimed) (are : AreClaims es cs) (k : Key) (x : Versioned) where
  abbrev claim_at : Claimed
  claim_at = record { key = k; version = x.version; dead = false; value = x.value }

  present : contents_of (objects_in (tops cs)) k ≡ Some x → IsTop k (among es) (object_at k x)
  present h =
      let o = contents_of-among (objects_in (tops cs)) k x h in
      let c = objects_in-among (tops cs) o.0 o.1 in
      let e = claims_of-among es c.0 (are.only c.0 (tops-among cs c.0 c.1)) in
      let key : c.0.key ≡ k = ap (λ (z : Object). z.key) c.3 ∙ o.2 in
      let state : versioned (object_of c.0) ≡ x = ap (λ (z : Object). versioned z) c.3 ∙ o.3 in
      let one : entry.Object (object_of c.0) ≡ object_at k x =
      λ i. entry.Object (record { key = key i; version = (state i).version; value = (state i).value }) in
      subst (λ (f : Entry). IsTop k (among es) f) (object-from_claim e.0 c.0 e.2 c.2 ∙ one) (record {
        held = e.1;
        of_key = subst (λ (j : Key). IsOfKey j e.0) key (claim-matches e.0 c.0 e.2).of_key;
        highest = λ f held at.
            let d = claim-of_key f k at in
            let m = claim-matches f d.0 d.1 in
            let n = claim-matches e.0 c.0 e.2 in
            let le : rank d.0 ≤ rank c.0 =
            tops-highest cs c.0 d.0 are.up c.1 (are.all d.0 (claims_of-has es f d.0 held d.1)) (d.2 ∙ sym key) in
            let first = m.ranks in
            let second = n.ranks in
            omega arith;
      })

  absent : has_clash cs ≡ false → IsTop k (among es) (object_at k x) → contents_of (objects_in (tops cs)) k ≡ Some x
  absent none top =
      let there : IsAmong claim_at cs = are.all claim_at (claims_of-has es (object_at k x) claim_at top.held refl) in
      let w = tops-some cs claim_at there in
      let in_cs : IsAmong w.0 cs = tops-among cs w.0 w.1 in
      let low : 2 * x.version ≤ rank w.0 = tops-highest cs w.0 claim_at are.up w.1 there (sym w.2) in
      let e = claims_of-among es w.0 (are.only w.0 in_cs) in
      let m = claim-matches e.0 w.0 e.2 in
      let high : rank_of e.0 ≤ 2 * x.version = top.highest e.0 e.1 (subst (λ (j : Key). IsOfKey j e.0) w.2 m.of_key) in
      let ranks = m.ranks in
      let state = level w.0.dead w.0.version x.version low (omega arith) in
      let value : claim_at.value ≡ w.0.value =
      unclashed cs claim_at w.0 are.up none there in_cs (record {
        key = sym w.2;
        version = sym state.1;
        first = refl;
        second = state.0;
      }) in
      let got : contents_of (objects_in (tops cs)) w.0.key ≡ Some (versioned (object_of w.0)) =
      contents_of-has (objects_in (tops cs)) (object_of w.0) (tops-sorted cs are.up)
      (objects_in-has (tops cs) w.0 w.1 state.0) in
      ap (contents_of (objects_in (tops cs))) (sym w.2) ∙ got
      ∙ (λ i. Some (record { version = state.1 i; value = sym value i }))
    where
      level : (b : Bool) (v w : ℕ) → 2 * w ≤ cond b (2 * v + 1) (2 * v) → cond b (2 * v + 1) (2 * v) ≤ 2 * w
          → (b ≡ false) × (v ≡ w)
      level true v w low high = absurd (omega arith)
      level false v w low high = (refl, omega arith)

pub tops-mean : (es : List Entry) (cs : List Claimed) → AreClaims es cs → has_clash cs ≡ false →
    IsMeaning (among es) (contents_of (objects_in (tops cs)))
tops-mean es cs are none k x = (present es cs are k x, absent es cs are k x none)

abbrev claim_of_object : Object → Claimed
claim_of_object o = record { key = o.key; version = o.version; dead = false; value = o.value }

-- if no neighbours clash, the entries are clean
pub unclashed_clean : (es : List Entry) (cs : List Claimed) → AreClaims es cs → has_clash cs ≡ false
    → IsClean (among es)
unclashed_clean es cs are none o p m n key version =
    unclashed cs (claim_of_object o) (claim_of_object p) are.up none
    (are.all (claim_of_object o) (claims_of-has es (entry.Object o) (claim_of_object o) m refl))
    (are.all (claim_of_object p) (claims_of-has es (entry.Object p) (claim_of_object p) n refl))
    (record { key = key; version = version; first = refl; second = refl })

pub clash-unclean : (es : List Entry) (cs : List Claimed) → AreClaims es cs → has_clash cs ≡ true → IsClean (among es)
    → ⊥
clash-unclean es cs are h clean =
    let p = clash-found cs h in
    let tells = is_clash-tells p.0 p.1 p.4 in
    let e = claims_of-among es p.0 (are.only p.0 p.2) in
    let f = claims_of-among es p.1 (are.only p.1 p.3) in
    let first : IsAmong (entry.Object (object_of p.0)) es =
    subst (λ (z : Entry). IsAmong z es) (object-from_claim e.0 p.0 e.2 tells.0.first) e.1 in
    let second : IsAmong (entry.Object (object_of p.1)) es =
    subst (λ (z : Entry). IsAmong z es) (object-from_claim f.0 p.1 f.2 tells.0.second) f.1 in
    tells.1 (clean (object_of p.0) (object_of p.1) first second tells.0.key tells.0.version)

-- ---- the bound

bound_of-front : (es fs : List Entry) → bound_of fs ≡ bound_of_claims (claims_of fs) →
    bound_of (filter is_data es ++ fs) ≡ bound_of_claims (claims_of (filter is_data es ++ fs))
bound_of-front [] fs h = h
bound_of-front (entry.Header a ∷ es) fs h = bound_of-front es fs h
bound_of-front (entry.Digest ids ∷ es) fs h = bound_of-front es fs h
bound_of-front (entry.Safe version ∷ es) fs h = bound_of-front es fs h
bound_of-front (entry.Object o ∷ es) fs h = ap (λ n. max (o.version + 1) n) (bound_of-front es fs h)
bound_of-front (entry.Tombstone t ∷ es) fs h = ap (λ n. max (t.version + 1) n) (bound_of-front es fs h)

pub bound_of-bag : (segments : List (List Entry))
    → bound_of (segments_bag segments) ≡ bound_of_claims (claims_of (segments_bag segments))
bound_of-bag [] = refl
bound_of-bag (es ∷ segments) = bound_of-front es (segments_bag segments) (bound_of-bag segments)

-- ---- what a sort leaves

pub AreClaims-from_kept : {X : Type 0} (view : X → Claimed) (es : List Entry) (after : List X)
    → IsPermutation (claims_of es) (map view after) → IsSortedBy (before_by view) after →
    AreClaims es (map view after)
AreClaims-from_kept view es after moved sorted =
    record {
      up = Rises-from_sorted view after sorted;
      only =
          λ c m. among_permutation c (map view after) (claims_of es)
          (IsPermutation-sym (claims_of es) (map view after) moved) m;
      all = λ c m. among_permutation c (claims_of es) (map view after) moved m;
    }

pub AreClaims-from_sort : {X : Type 0} (view : X → Claimed) (es : List Entry) (before after : List X)
    → map view before ≡ claims_of es →
    IsPermutation before after → IsSortedBy (before_by view) after →
    AreClaims es (map view after)
AreClaims-from_sort view es before after is permutation sorted =
    let moved = IsPermutation-map view before after permutation in
    record {
      up = Rises-from_sorted view after sorted;
      only =
          λ c m. subst (λ cs. IsAmong c cs) is (among_permutation c (map view after) (map view before)
          (IsPermutation-sym (map view before) (map view after) moved) m);
      all = λ c m. among_permutation c (map view before) (map view after) moved (subst (λ cs. IsAmong c cs) (sym is) m);
    }

-- ---- refusals

pub refused-for : (segments : List (List Entry)) (cs : List Claimed) (f : ReplayFault)
    → AreClaims (segments_bag segments) cs →
    IsRefusedFor (has_clash cs) f → IsRefusal segments f
refused-for segments cs fault.NoMemory are h = tt
refused-for segments cs fault.Clash are h = clash-unclean (segments_bag segments) cs are h
refused-for segments cs (fault.Double segment) are h = absurd h
refused-for segments cs fault.Stranger are h = absurd h
refused-for segments cs (fault.MissingGroup segment) are h = absurd h
refused-for segments cs (fault.Stray key) are h = absurd h

pub claims_within : (es fs : List Entry) → ((e : Entry) → IsAmong e es → IsAmong e fs) → (c : Claimed)
    → IsAmong c (claims_of es) → IsAmong c (claims_of fs)
claims_within es fs h c m = let e = claims_of-among es c m in claims_of-has fs e.0 c (h e.0 e.1) e.2
