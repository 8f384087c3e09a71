-- What goes to a partition, and what is gathered of it.
use Rattle.std.proofs.Common.{◌≡◌, ℕ, ◌+◌, ◌<◌, Bool, true, false, List, [], ◌++◌, length, map, max}
use Rattle.std.proofs.Common.{drop, append_assoc, get_or, set, replicate, refl, sym, ap, subst, ◌∙◌, inl, inr, arith}
use Rattle.std.specs.Prelude.{All, filter}
use Rattle.std.specs.List.Sorted.{IsSortedBy, IsPermutation}
use Rattle.std.proofs.lemmas.List.{at_drop_more, get_or_default, length-set, get_or-set_other}
use Rattle.std.proofs.lemmas.List.Elements.{All-contains}
use Rattle.entry.specs.declared.key.Key.{Key}
use Rattle.entry.specs.declared.entry.Object.{Object}
use Rattle.entry.specs.declared.entry.Entry.{Entry}
use Rattle.entry.specs.declared.entry.Entry.TheVariants as entry
use Rattle.entry.specs.Bag.{IsAmong}
use Rattle.entry.specs.Format.{IsObject}
use Rattle.entry.specs.Meaning.{IsOfKey, IsMeaning, IsClean, among, contents_of}
use Rattle.entry.specs.Text.{is_data}
use Rattle.entry.proofs.BagLemmas.{among_at, among_place, among_either, among_left, among_right, among_image}
use Rattle.entry.proofs.BagLemmas.{among_images}
use Rattle.tablet_will.specs.declared.part.Part.{Part}
use Rattle.tablet_will.specs.Parts.{partition_of_key}
use Rattle.division.specs.Division.{is_number, partition_in, goes_to}
use Rattle.claims.specs.Bags.{segments_bag}
use Rattle.claims.specs.declared.claim.Claim.{Claim}
use Rattle.claims.specs.Claims.{Claimed, claimed, claims_of, is_before, has_clash, objects_in, tops, bound_of_claims}
use Rattle.claims.specs.Listed.{AreOrdered}
use Rattle.partitions.specs.Parted.{Parceled, entries_in, entries_for, part_of, bag_in, IsParcel, AreGathered, IsListed}
use Rattle.partitions.specs.declared.setback.Setback.{Setback}
use Rattle.partitions.specs.declared.setback.Setback.TheVariants as setback
use Rattle.partitions.specs.Setbacks.{IsOutside, IsSetback}
use Rattle.claims.specs.Settled.{AreOf}
use Rattle.claims.proofs.GatheringLemmas.{claims_of-append}
use Rattle.claims.proofs.MeaningLemmas.{claims_within}
use Rattle.division.proofs.Divisions.{goes_data}
use Rattle.claims.proofs.Members.{same_or_not, unmarked, length-unmarked}
use Rattle.claims.proofs.MeaningLemmas.{claims_of-among, claims_of-has, tops-mean, unclashed_clean, clash-unclean}
use Rattle.claims.proofs.Members.{flat_among, among_flat, among_filter, filter_among}
use Rattle.claims.proofs.ScanLemmas.{tops-sorted}
use Rattle.claims.proofs.Settled.{settled, bound_of_log}

-- ---- setbacks

pub setback_is : (qs : List Part) (segments : List (List Entry)) (f : Setback)
    → (f ≡ setback.Clash → IsClean (among (segments_bag segments)) → ⊥) → (f ≡ setback.Stray → ⊥)
    → IsSetback qs segments f
setback_is qs segments setback.NoMemory h covered = tt
setback_is qs segments setback.Clash h covered = h refl
setback_is qs segments setback.Stray h covered = absurd (covered refl)
setback_is qs segments setback.NotWhole h covered = tt

-- a cause outside of the log is one that it may have
pub outside_setback : (qs : List Part) (segments : List (List Entry)) (f : Setback) → IsOutside f
    → IsSetback qs segments f
outside_setback qs segments setback.NoMemory h = tt
outside_setback qs segments setback.Clash h = absurd h
outside_setback qs segments setback.Stray h = absurd h
outside_setback qs segments setback.NotWhole h = tt

-- ---- the claims of parcels, one parcel after the other

pub parcel_claimed : (ps : List Parceled) (i : ℕ) (p : Parceled) (es : List Entry) (was now total : List Claimed)
    → i < length ps → p ≡ get_or ps i p → es ≡ p.entries → now ≡ was ++ claims_of es
    → was ++ claims_of (entries_in (drop i ps)) ≡ total → now ++ claims_of (entries_in (drop (i + 1) ps)) ≡ total
parcel_claimed ps i p es was now total lt is here more held =
    let rest : List Entry = entries_in (drop (i + 1) ps) in
    let front : claims_of (entries_in (drop i ps)) ≡ claims_of es ++ claims_of rest =
    at_drop_more (λ (qs : List Parceled). claims_of (entries_in qs)) ps i p lt
    ∙ ap (λ (q : Parceled). claims_of (q.entries ++ rest)) (sym is)
    ∙ ap (λ (fs : List Entry). claims_of (fs ++ rest)) (sym here)
    ∙ claims_of-append es rest in
    ap (λ (cs : List Claimed). cs ++ claims_of rest) more
    ∙ append_assoc was (claims_of es) (claims_of rest)
    ∙ ap (λ (cs : List Claimed). was ++ cs) (sym front) ∙ held

module _ (qs : List Part) where
  -- ---- partitions of entries

  pub partition_is : (k : Key) (e : Entry) → IsOfKey k e → partition_in qs e ≡ partition_of_key qs k
  partition_is k (entry.Header h) at = absurd at
  partition_is k (entry.Digest ids) at = absurd at
  partition_is k (entry.Safe version) at = absurd at
  partition_is k (entry.Object o) at = ap (partition_of_key qs) at
  partition_is k (entry.Tombstone t) at = ap (partition_of_key qs) at

  -- entries of one key go to one partition
  pub same_goes : (k : Key) (e f : Entry) (n : ℕ) → IsOfKey k e → IsOfKey k f → goes_to qs n e ≡ true
      → goes_to qs n f ≡ true
  same_goes k e f n one other goes = ap (is_number n) (partition_is k f other ∙ sym (partition_is k e one)) ∙ goes

  module _ (segments : List (List Entry)) where
    -- ---- the bag of a partition

    pub bag_within : (n : ℕ) (e : Entry) → IsAmong e (bag_in qs n segments)
        → IsAmong e (segments_bag segments) × (goes_to qs n e ≡ true)
    bag_within n e m =
        let part = among_flat (filter is_data) (part_of qs n segments) e m in
        let es = among_images (entries_for qs n) segments part.0 part.1 in
        let in_part = among_filter is_data part.0 e part.2 in
        let here : IsAmong e (entries_for qs n es.0) = subst (λ (fs : List Entry). IsAmong e fs) (sym es.2) in_part.0 in
        let in_es = among_filter (goes_to qs n) es.0 e here in
        (flat_among (filter is_data) segments es.0 e es.1 (filter_among is_data es.0 e in_es.0 in_part.1), in_es.1)

    pub bag_has : (n : ℕ) (e : Entry) → IsAmong e (segments_bag segments) → goes_to qs n e ≡ true
        → IsAmong e (bag_in qs n segments)
    bag_has n e m goes =
        let es = among_flat (filter is_data) segments e m in
        let in_es = among_filter is_data es.0 e es.2 in
        flat_among (filter is_data) (part_of qs n segments) (entries_for qs n es.0) e
        (among_image (entries_for qs n) segments es.0 es.1)
        (filter_among is_data (entries_for qs n es.0) e (filter_among (goes_to qs n) es.0 e in_es.0 goes) in_es.1)

    pub parcel_within : (at n : ℕ) → at < length segments → (e : Entry)
        → IsAmong e (entries_for qs n (get_or segments at [])) → IsAmong e (bag_in qs n segments)
    parcel_within at n lt e m =
        let es = get_or segments at [] in
        let in_es = among_filter (goes_to qs n) es e m in
        flat_among (filter is_data) (part_of qs n segments) (entries_for qs n es) e
        (among_image (entries_for qs n) segments es (among_at segments at es lt (get_or_default segments at [] es lt)))
        (filter_among is_data (entries_for qs n es) e m (goes_data qs n e in_es.1))

    -- ---- gathering

    pub gathered_none : (n : ℕ) (marks : List Bool) → marks ≡ replicate (length segments) false
        → AreGathered qs segments n marks []
    gathered_none n marks is =
        record {
          long = ap length is ∙ length-unmarked (length segments);
          only = λ c m. absurd m;
          each = λ at on c m.
              let off : get_or marks at false ≡ false =
              ap (λ (bs : List Bool). get_or bs at false) is ∙ unmarked (length segments) at in
              let no : true ≡ false = sym on ∙ off in absurd (cc);
        }

    pub gathered_more : (n at : ℕ) (marks : List Bool) (cs : List Claimed) (es : List Entry)
        → AreGathered qs segments n marks cs → IsParcel qs segments at n es
        → AreGathered qs segments n (set marks at true) (cs ++ claims_of es)
    gathered_more n at marks cs es h p =
        record {
          long = length-set marks at true ∙ h.long;
          only = λ c m. elim (among_either c cs (claims_of es) m) [
            | inl old ↦ h.only c old
            | inr new ↦ claims_within es (bag_in qs n segments) (λ e l. parcel_within at n p.below e
                (subst (λ (fs : List Entry). IsAmong e fs) p.entries l)) c new
          ];
          each = λ i on c m. same_or_not i at (IsAmong c (cs ++ claims_of es))
              (λ same. among_right c cs (claims_of es) (subst (λ (fs : List Entry). IsAmong c (claims_of fs))
              (ap (λ j. entries_for qs n (get_or segments j [])) same ∙ sym p.entries) m))
              (λ other. among_left c cs (claims_of es)
              (h.each i (sym (get_or-set_other marks at i true false other) ∙ on) c m));
        }

    pub gathered_all : (n : ℕ) (marks : List Bool) (cs : List Claimed) → AreGathered qs segments n marks cs
        → All (λ (mark : Bool). mark ≡ true) marks → AreOf (bag_in qs n segments) cs
    gathered_all n marks cs h all c = (
      h.only c,
      λ m.
          let e = claims_of-among (bag_in qs n segments) c m in
          let part = among_flat (filter is_data) (part_of qs n segments) e.0 e.1 in
          let es = among_images (entries_for qs n) segments part.0 part.1 in
          let here : IsAmong e.0 (entries_for qs n es.0) =
          subst (λ (fs : List Entry). IsAmong e.0 fs) (sym es.2) (among_filter is_data part.0 e.0 part.2).0 in
          let at = among_place es.0 segments es.1 in
          let long = h.long in
          let low = at.1 in
          let inside : at.0 < length marks = omega (arith, long, low) in
          let on : get_or marks at.0 false ≡ true =
          All-contains (λ (mark : Bool). mark ≡ true) marks (get_or marks at.0 false) all
          (at.0, inside, get_or_default marks at.0 (get_or marks at.0 false) false inside) in
          let there : es.0 ≡ get_or segments at.0 [] = sym at.2 ∙ get_or_default segments at.0 es.0 [] low in
          h.each at.0 on c (claims_of-has (entries_for qs n (get_or segments at.0 [])) e.0 c
          (subst (λ (fs : List Entry). IsAmong e.0 (entries_for qs n fs)) there here) e.2),
    )

    -- ---- the list of a partition

    module _ (n : ℕ) (before after : List Claim) (of : AreOf (bag_in qs n segments) (map claimed before))
        (moved : IsPermutation before after) (sorted : IsSortedBy is_before after) where
      abbrev bag : List Entry
      bag = bag_in qs n segments

      pub listed_of : (recorded safe : ℕ) (os : List Object) → has_clash (map claimed after) ≡ false
          → os ≡ objects_in (tops (map claimed after)) → All IsObject os
          → safe ≡ max recorded (bound_of_claims (map claimed before)) → IsListed bag recorded os safe
      listed_of recorded safe os clean listed valid above =
          let are = settled before after moved sorted bag of in
          record {
            meaning = subst (λ (ps : List Object). IsMeaning (among bag) (contents_of ps)) (sym listed)
                (tops-mean bag (map claimed after) are clean);
            ordered = subst AreOrdered (sym listed) (tops-sorted (map claimed after) are.up);
            valid = valid;
            above = above ∙ ap (λ m. max recorded m) (bound_of_log (part_of qs n segments) (map claimed before) of);
            clean = unclashed_clean bag (map claimed after) are clean;
          }

      pub clash_of : has_clash (map claimed after) ≡ true → IsClean (among (segments_bag segments)) → ⊥
      clash_of clash clean =
          clash-unclean bag (map claimed after) (settled before after moved sorted bag of) clash
          (λ o p m l. clean o p (bag_within n (entry.Object o) m).0 (bag_within n (entry.Object p) l).0)
