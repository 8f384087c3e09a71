-- Lists of partitions, one behind the other.
use Rattle.std.proofs.Common.{◌≡◌, ℕ, zero, suc, ◌+◌, ◌-◌, ◌<◌, ◌≤◌, true, false, List, [], ◌∷◌, ◌++◌, length, max}
use Rattle.std.proofs.Common.{get_or, Some, None, refl, sym, ap, subst, ◌∙◌, inl, inr, arith}
use Rattle.std.specs.Prelude.{Option, IfSome, is_some}
use Rattle.std.specs.List.Sorted.{IsStrictlySortedBy}
use Rattle.std.specs.declared.cmp.Ordering.TheVariants.{Less}
use Rattle.std.proofs.lemmas.Bool.Decides.{Decides-eqb}
use Rattle.std.proofs.lemmas.List.{get_or_default, map-append, length-append, length-map}
use Rattle.std.proofs.Math.Seq.{get_or-append_seam}
use Rattle.std.proofs.lemmas.List.Elements.{All-append, All-nil, All-from_recursion}
use Rattle.std.proofs.lemmas.Map.Keys.{Less-from_sorted}
use Rattle.entry.specs.declared.key.Key.{Key}
use Rattle.entry.specs.declared.entry.Object.{Object}
use Rattle.entry.specs.declared.entry.Entry.{Entry}
use Rattle.entry.specs.declared.entry.Entry.TheVariants as entry
use Rattle.entry.specs.Bag.{IsAmong}
use Rattle.entry.specs.Format.{IsObject}
use Rattle.entry.specs.Key.{place_of}
use Rattle.entry.specs.Meaning.{Versioned, IsOfKey, IsTop, object_at, versioned, IsMeaning, IsClean, among, bound_of}
use Rattle.entry.specs.Meaning.{contents_of}
use Rattle.entry.specs.Order.{key_cmp, key_cmp_total}
use Rattle.entry.proofs.BagLemmas.{among_place, among_either, among_left, among_right}
use Rattle.entry.proofs.ListLemmas.{all_append, all_among, all_from_among}
use Rattle.tablet_will.specs.declared.part.Part.{Part}
use Rattle.tablet_will.specs.Parts.{AreParts, partition_of_key, partitions_of}
use Rattle.division.specs.Division.{is_number, AreCovered}
use Rattle.claims.specs.Bags.{segments_bag}
use Rattle.claims.specs.Claims.{Claimed, claims_of, bound_of_claims}
use Rattle.claims.specs.Listed.{AreOrdered, AreBelow}
use Rattle.partitions.specs.Parted.{part_of, bag_in, IsListed, IsTopIn, bound_in, AreJoined}
use Rattle.claims.proofs.MeaningLemmas.{claims_within}
use Rattle.claims.proofs.Members.{same_or_not}
use Rattle.claims.proofs.Members.{map_at}
use Rattle.claims.proofs.MeaningLemmas.{claims_of-among, claims_of-has, claim-matches, contents_of-among}
use Rattle.claims.proofs.MeaningLemmas.{contents_of-has, bound_of-bag}
use Rattle.partitions.proofs.Parting.{partition_is, same_goes, bag_within, bag_has}
use Rattle.claims.proofs.Bounds.{bound_has, bound_under}
use Rattle.claims.proofs.ScanLemmas.{keys_of}

-- ---- order

behind : (xs ys : List Key) → IsStrictlySortedBy key_cmp xs → IsStrictlySortedBy key_cmp ys
    → ((x : Key) → IsAmong x xs → (y : Key) → IsAmong y ys → key_cmp x y ≡ Less)
    → IsStrictlySortedBy key_cmp (xs ++ ys)
unfolding IsStrictlySortedBy
behind [] ys one other before = other
behind (x ∷ xs) ys one other before = (
  all_append (λ z. key_cmp x z ≡ Less) xs ys one.0
      (all_from_among (λ z. key_cmp x z ≡ Less) ys (λ y m. before x (inl refl) y m)),
  behind xs ys one.1 other (λ z l y m. before z (inr l) y m),
)

-- what is behind the last is behind each
behind_last : (xs : List Key) (last y : Key) → IsStrictlySortedBy key_cmp xs → last ≡ get_or xs (length xs - 1) last
    → key_cmp last y ≡ Less → (x : Key) → IsAmong x xs → key_cmp x y ≡ Less
behind_last xs last y sorted is less x m =
    let at = among_place x xs m in
    let low = at.1 in
    let end : length xs - 1 < length xs = omega (arith, low) in
    same_or_not at.0 (length xs - 1) (key_cmp x y ≡ Less)
    (λ same. let one : x ≡ last =
    sym at.2 ∙ ap (λ i. get_or xs i x) same ∙ get_or_default xs (length xs - 1) x last end ∙ sym is in
    subst (λ (k : Key). key_cmp k y ≡ Less) (sym one) less)
    (λ other. let before : at.0 < length xs - 1 = omega (arith, low, other) in
    let up : key_cmp x last ≡ Less =
    subst (λ (k : Key). key_cmp x k ≡ Less) (get_or_default xs (length xs - 1) x last end ∙ sym is)
    (subst (λ (k : Key). key_cmp k (get_or xs (length xs - 1) x) ≡ Less) at.2
    (Less-from_sorted key_cmp xs at.0 (length xs - 1) x sorted before end)) in
    key_cmp_total.trans x last y up less)

-- what is before the first is before each
before_first : (ys : List Key) (first x : Key) → IsStrictlySortedBy key_cmp ys → first ≡ get_or ys 0 first
    → key_cmp x first ≡ Less → (y : Key) → IsAmong y ys → key_cmp x y ≡ Less
unfolding IsStrictlySortedBy
before_first [] first x sorted is less y m = absurd m
before_first (z ∷ zs) first x sorted is less y (inl same) =
    subst (λ (k : Key). key_cmp x k ≡ Less) (is ∙ same) less
before_first (z ∷ zs) first x sorted is less y (inr later) =
    key_cmp_total.trans x z y (subst (λ (k : Key). key_cmp x k ≡ Less) is less)
    (all_among (λ k. key_cmp z k ≡ Less) zs y sorted.0 later)

pub in_order : (os ps : List Object) (last first : Object) → AreOrdered os → AreOrdered ps
    → last ≡ get_or os (length os - 1) last → first ≡ get_or ps 0 first → key_cmp last.key first.key ≡ Less
    → AreOrdered (os ++ ps)
in_order os ps last first one other end start less =
    subst (IsStrictlySortedBy key_cmp) (sym (map-append (λ (o : Object). o.key) os ps))
    (behind (keys_of os) (keys_of ps) one other (λ x m y l.
    behind_last (keys_of os) last.key y one end' (before_first
    (keys_of ps) first.key last.key other start' less y l) x m))
  where
    end' : last.key ≡ get_or (keys_of os) (length (keys_of os) - 1) last.key
    end' =
        ap (λ (o : Object). o.key) end ∙ sym (map_at (λ (o : Object). o.key) os (length os - 1) last)
        ∙ ap (λ n. get_or (keys_of os) (n - 1) last.key) (sym (length-map os (λ (o : Object). o.key)))

    start' : first.key ≡ get_or (keys_of ps) 0 first.key
    start' = ap (λ (o : Object). o.key) start ∙ sym (map_at (λ (o : Object). o.key) ps 0 first)

-- the last of a list is at its last place
pub ends_at : (os front : List Object) (last : Object) → os ≡ front ++ last ∷ [] → last ≡ get_or os (length os - 1) last
ends_at os front last is =
    let long : length os ≡ length front + 1 = ap length is ∙ length-append front (last ∷ []) in
    let place : length os - 1 ≡ length front = omega (arith, long) in
    sym (ap (λ n. get_or os n last) place ∙ ap (λ xs. get_or xs (length front) last) is
    ∙ get_or-append_seam front last [] last)

-- the first of a list is at its first place
pub begins_at : (ps rest : List Object) (first : Object) → ps ≡ first ∷ rest → first ≡ get_or ps 0 first
begins_at ps rest first is = sym (ap (λ (os : List Object). get_or os 0 first) is)

-- ---- tops of a list

module _ (es : List Entry) (recorded safe : ℕ) (os : List Object) (l : IsListed es recorded os safe) where
  pub listed_top : (o : Object) → IsAmong o os → IsTop o.key (among es) (entry.Object o)
  listed_top o m = (l.meaning o.key (versioned o)).0 (contents_of-has os o l.ordered m)

  pub top_listed : (o : Object) → IsTop o.key (among es) (entry.Object o) → IsAmong o os
  top_listed o top =
      let p = contents_of-among os o.key (versioned o) ((l.meaning o.key (versioned o)).1 top) in
      let key : p.0.key ≡ o.key = p.2 in
      let state : versioned p.0 ≡ versioned o = p.3 in
      let same : p.0 ≡ o =
      λ i. record { key = key i; version = (state i).version; value = (state i).value } in
      subst (λ (q : Object). IsAmong q os) same p.1

some_number : (o : Option ℕ) → is_some o ≡ true → (n : ℕ) × (o ≡ Some n)
some_number None h = absurd (cc)
some_number (Some n) h = (n, refl)

claims_at_most : (cs : List Claimed) (n : ℕ) → ((c : Claimed) → IsAmong c cs → c.version + 1 ≤ n)
    → bound_of_claims cs ≤ n
claims_at_most [] n h = omega arith
claims_at_most (c ∷ cs) n h =
    let first = h c (inl refl) in
    let more = claims_at_most cs n (λ d m. h d (inr m)) in
    grind (arith, first, more)

module _ (qs : List Part) (segments : List (List Entry)) where
  -- ---- one list more

  module _ (recorded : ℕ) where
    pub joined_none : AreJoined qs segments recorded 0 [] recorded
    unfolding IsStrictlySortedBy
    joined_none =
        record {
          only = λ o m. absurd m;
          each = λ m lt. absurd (omega (arith, lt));
          ordered = tt;
          valid = All-nil IsObject;
          above = omega arith;
          clean = λ m lt. absurd (omega (arith, lt));
        }

    joined_behind : (n safe more next : ℕ) (os ps : List Object) → AreJoined qs segments recorded n os safe
        → IsListed (bag_in qs n segments) recorded ps more → AreOrdered (os ++ ps) → next ≡ max safe more
        → AreJoined qs segments recorded (n + 1) (os ++ ps) next
    joined_behind n safe more next os ps j l ordered is =
        record {
          only = λ o m. elim (among_either o os ps m) [
            | inl old ↦ let h = j.only o old in let lt = h.1 in (h.0, omega (arith, lt), h.2)
            | inr new ↦ (n, omega arith, listed_top (bag_in qs n segments) recorded more ps l o new)
          ];
          each = λ m lt o top. same_or_not m n (IsAmong o (os ++ ps))
              (λ same. among_right o os ps (top_listed (bag_in qs n segments) recorded more ps l o
              (subst (λ k. IsTopIn qs segments k o) same top)))
              (λ other. among_left o os ps (j.each m (omega (arith, lt, other)) o top));
          ordered = ordered;
          valid = All-append IsObject os ps j.valid l.valid;
          above =
              let one = j.above in
              let other = l.above in
              let step : n + 1 ≡ suc n = omega arith in
              rw step (omega (arith, is, one, other));
          clean = λ m lt. same_or_not m n (IsClean (among (bag_in qs m segments)))
              (λ same. subst (λ k. IsClean (among (bag_in qs k segments))) (sym same) l.clean)
              (λ other. j.clean m (omega (arith, lt, other)));
        }

    pub joined_more : (n safe more next : ℕ) (os ps all : List Object) → AreJoined qs segments recorded n os safe
        → IsListed (bag_in qs n segments) recorded ps more → AreOrdered (os ++ ps) → next ≡ max safe more
        → all ≡ os ++ ps → AreJoined qs segments recorded (n + 1) all next
    joined_more n safe more next os ps all j l ordered is both =
        subst (λ (xs : List Object). AreJoined qs segments recorded (n + 1) xs next) (sym both)
        (joined_behind n safe more next os ps j l ordered is)

  -- ---- the bounds

  bound_less : (n : ℕ) → bound_of (bag_in qs n segments) ≤ bound_of (segments_bag segments)
  bound_less n =
      let one = bound_of-bag (part_of qs n segments) in
      let other = bound_of-bag segments in
      let less = bound_under (claims_of (bag_in qs n segments)) (claims_of (segments_bag segments))
      (claims_within (bag_in qs n segments) (segments_bag segments) (λ e m. (bag_within qs segments n e m).0)) in
      omega (arith, one, other, less)

  bounds_less : (n : ℕ) → bound_in qs segments n ≤ bound_of (segments_bag segments)
  bounds_less zero = omega arith
  bounds_less (suc n) =
      let before = bounds_less n in
      let here = bound_less n in
      grind (arith, before, here)

  bound_reached : (n m : ℕ) → m < n → bound_of (bag_in qs m segments) ≤ bound_in qs segments n
  bound_reached zero m lt = absurd (omega (arith, lt))
  bound_reached (suc n) m lt =
      same_or_not m n (bound_of (bag_in qs m segments) ≤ bound_in qs segments (suc n))
      (λ same. let here : bound_of (bag_in qs m segments) ≡ bound_of (bag_in qs n segments) =
      ap (λ k. bound_of (bag_in qs k segments)) same in grind (arith, here))
      (λ other. let before = bound_reached n m (omega (arith, lt, other)) in grind (arith, before))

  -- ---- all lists

  module _ (parts : AreParts qs) (covered : AreCovered qs (segments_bag segments)) where
    -- an entry of a key is in the bag of some partition
    somewhere : (k : Key) (e : Entry) → IsAmong e (segments_bag segments) → IsOfKey k e
        → (n : ℕ) × (n < partitions_of qs) × IsAmong e (bag_in qs n segments)
    somewhere k e m of_key =
        let at = some_number (partition_of_key qs k) (covered e m k of_key) in (
          at.0,
          subst (λ (p : Option ℕ). IfSome p (λ n. n < partitions_of qs)) at.1
              (parts.below k.table (place_of k.bytes)),
          bag_has qs segments at.0 e m
              (ap (is_number at.0) (partition_is qs k e of_key ∙ at.1) ∙ (Decides-eqb at.0 at.0).1 refl),
        )

    bounds_same : bound_in qs segments (partitions_of qs) ≡ bound_of (segments_bag segments)
    bounds_same =
        let all = claims_at_most (claims_of (segments_bag segments)) (bound_in qs segments (partitions_of qs))
        (λ c m. let e = claims_of-among (segments_bag segments) c m in
        let s = somewhere c.key e.0 e.1 (claim-matches e.0 c e.2).of_key in
        let here = bound_has (claims_of (bag_in qs s.0 segments)) c
        (claims_of-has (bag_in qs s.0 segments) e.0 c s.2 e.2) in
        let one = bound_of-bag (part_of qs s.0 segments) in
        let up = bound_reached (partitions_of qs) s.0 s.1 in
        omega (arith, here, one, up)) in
        let same = bound_of-bag segments in
        let low = bounds_less (partitions_of qs) in
        omega (arith, all, same, low)

    module _ (recorded safe : ℕ) (os : List Object)
        (j : AreJoined qs segments recorded (partitions_of qs) os safe) where
      pub joined_clean : IsClean (among (segments_bag segments))
      joined_clean o p m l key version =
          let s = somewhere o.key (entry.Object o) m refl in
          let goes = same_goes qs o.key (entry.Object o) (entry.Object p) s.0 refl (sym key)
          (bag_within qs segments s.0 (entry.Object o) s.2).1 in
          j.clean s.0 s.1 o p s.2 (bag_has qs segments s.0 (entry.Object p) l goes) key version

      has : (k : Key) (x : Versioned) → contents_of os k ≡ Some x
          → IsTop k (among (segments_bag segments)) (object_at k x)
      has k x h =
          let o = contents_of-among os k x h in
          let t = j.only o.0 o.1 in
          let top = t.2 in
          let at = bag_within qs segments t.0 (entry.Object o.0) top.held in
          let key : o.0.key ≡ k = o.2 in
          let state : versioned o.0 ≡ x = o.3 in
          let one : entry.Object o.0 ≡ object_at k x =
          λ i. entry.Object (record { key = key i; version = (state i).version; value = (state i).value }) in
          subst (λ (f : Entry). IsTop k (among (segments_bag segments)) f) one (record {
            held = at.0;
            of_key = key;
            highest = λ f held of_key.
                top.highest f
                (bag_has qs segments t.0 f held (same_goes qs k (entry.Object o.0) f t.0 key of_key at.1))
                (subst (λ (l : Key). IsOfKey l f) (sym key) of_key);
          })

      had : (k : Key) (x : Versioned) → IsTop k (among (segments_bag segments)) (object_at k x)
          → contents_of os k ≡ Some x
      had k x top =
          let s = somewhere k (object_at k x) top.held refl in
          let o : Object = record { key = k; version = x.version; value = x.value } in
          contents_of-has os o j.ordered (j.each s.0 s.1 o (record {
            held = s.2;
            of_key = refl;
            highest = λ f held of_key. top.highest f (bag_within qs segments s.0 f held).0 of_key;
          }))

      pub joined_mean : IsMeaning (among (segments_bag segments)) (contents_of os)
      joined_mean k x = (has k x, had k x)

      pub joined_above : safe ≡ max recorded (bound_of (segments_bag segments))
      joined_above = j.above ∙ ap (λ n. max recorded n) bounds_same

      pub joined_below : AreBelow safe os
      joined_below =
          All-from_recursion (λ (o : Object). o.version < safe) os
          (all_from_among (λ (o : Object). o.version < safe) os (λ o m.
          let t = j.only o m in
          let top = t.2 in
          let c : Claimed = record { key = o.key; version = o.version; dead = false; value = o.value } in
          let low = bound_has (claims_of (bag_in qs t.0 segments)) c
          (claims_of-has (bag_in qs t.0 segments) (entry.Object o) c top.held refl) in
          let same = bound_of-bag (part_of qs t.0 segments) in
          let up = bound_reached (partitions_of qs) t.0 t.1 in
          let above = j.above in
          omega (arith, low, same, up, above)))

      pub joined_listed : IsListed (segments_bag segments) recorded os safe
      joined_listed =
          record {
            meaning = joined_mean;
            ordered = j.ordered;
            valid = j.valid;
            above = joined_above;
            clean = joined_clean;
          }
