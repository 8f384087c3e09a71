-- The groups of a whole log.
use Rattle.std.proofs.Common.{◌≡◌, ℕ, ◌+◌, ◌*◌, ◌<◌, true, List, [], ◌∷◌, ◌++◌, length}
use Rattle.std.proofs.Common.{get_or, take, Some, None, refl, sym, ap, subst, ◌∙◌, inl, inr, arith}
use Rattle.std.specs.Prelude.{Option, is_some, IfSome}
use Rattle.std.specs.List.{range_with_len}
use Rattle.std.proofs.lemmas.Bool.Decides.{Decides-eqb}
use Rattle.std.proofs.lemmas.List.{append-nil, take_more}
use Rattle.std.proofs.Common.{length-append}
use Rattle.std.proofs.lemmas.List.FromFn.{length-map-range_with_len}
use Rattle.std.proofs.lemmas.Grind.{flat_map-append}
use Rattle.entry.specs.declared.key.Key.{Key}
use Rattle.entry.specs.declared.entry.Entry.{Entry}
use Rattle.entry.specs.declared.entry.Entry.TheVariants as entry
use Rattle.entry.specs.Bag.{IsAmong}
use Rattle.entry.specs.Key.{place_of}
use Rattle.entry.specs.Meaning.{IsOfKey}
use Rattle.entry.specs.Text.{is_data}
use Rattle.entry.specs.View.{shown_key}
use Rattle.entry.proofs.BagLemmas.{among_image, among_images, among_push}
use Rattle.tablet_will.specs.declared.part.Part.{Part}
use Rattle.tablet_will.specs.Parts.{AreParts, partition_of_key, partitions_of}
use Rattle.division.specs.declared.fault.DivideFault.{DivideFault}
use Rattle.division.specs.declared.fault.DivideFault.TheVariants as divide_fault
use Rattle.division.specs.Groups.{Grouped, bag_of}
use Rattle.division.specs.Division.{is_number, goes_to, group_in, groups_of, AreCovered, IsDivision}
use Rattle.division.specs.Division.{IsDivideFault}
use Rattle.claims.specs.Bags.{segments_bag}
use Rattle.claims.specs.Claims.{Claimed}
use Rattle.claims.specs.declared.fault.ReplayFault.{ReplayFault}
use Rattle.claims.specs.declared.fault.ReplayFault.TheVariants as fault
use Rattle.rebuilding.specs.Rebuilds.{header_id, id_of, ids_of, count_of, AreApart, IsRebuildFault, NamesEach}
use Rattle.rebuilding.specs.Turns.{all_groups, AreAllCovered, IsGroupsFault, IsPassedOn}
use Rattle.claims.specs.Settled.{AreOf}
use Rattle.claims.proofs.Members.{flat_among, among_flat, among_filter, filter_among, range_among}
use Rattle.claims.proofs.MeaningLemmas.{claims_within}
use Rattle.division.proofs.Divisions.{goes_data}
use Rattle.rebuilding.proofs.Twins.{short_named}

pub data_of_key : (k : Key) (e : Entry) → IsOfKey k e → is_data e ≡ true
data_of_key k (entry.Header h) at = absurd at
data_of_key k (entry.Digest ids) at = absurd at
data_of_key k (entry.Safe version) at = absurd at
data_of_key k (entry.Object o) at = refl
data_of_key k (entry.Tombstone t) at = refl

module _ (qs : List Part) where
  row : List Entry → List Grouped
  row es = groups_of qs (id_of es) es

  -- ---- one segment more

  pub groups_more : (segments : List (List Entry)) (i : ℕ) (es : List Entry) (was new groups : List Grouped)
      → i < length segments → es ≡ get_or segments i es → IsDivision qs es groups
      → new ≡ was ++ groups → was ≡ all_groups qs (take i segments) → new ≡ all_groups qs (take (i + 1) segments)
  groups_more segments i es was new groups lt at divided pushed held =
      let front = take i segments in
      let same : groups ≡ groups_of qs (id_of es) es =
      divided.2 ∙ ap (λ n. groups_of qs n es) (sym (ap header_id divided.1)) in
      let more : take (i + 1) segments ≡ front ++ es ∷ [] =
      take_more segments i es lt ∙ ap (λ (fs : List Entry). front ++ fs ∷ []) (sym at) in
      pushed ∙ ap (λ gs. gs ++ groups) held ∙ ap (λ gs. all_groups qs front ++ gs) (same ∙ sym (append-nil _))
      ∙ sym (ap (all_groups qs) more ∙ flat_map-append (λ (fs : List Entry). groups_of qs
      (id_of fs) fs) front (es ∷ []))

  pub covered_more : (segments : List (List Entry)) (i : ℕ) (es : List Entry) → i < length segments
      → es ≡ get_or segments i es → AreCovered qs es → AreAllCovered qs (take i segments)
      → AreAllCovered qs (take (i + 1) segments)
  covered_more segments i es lt at covered held fs m =
      let front = take i segments in
      let more : take (i + 1) segments ≡ front ++ es ∷ [] =
      take_more segments i es lt ∙ ap (λ (gs : List Entry). front ++ gs ∷ []) (sym at) in
      elim (among_push fs front es (subst (IsAmong fs) more m)) [
        | inl before ↦ held fs before
        | inr last ↦ subst (AreCovered qs) last covered
      ]

  pub stray : (segments : List (List Entry)) (es : List Entry) (f : DivideFault) (r : ReplayFault)
      → IsAmong es segments → IsDivideFault qs es f → IsPassedOn f r → IsGroupsFault qs segments r
  stray segments es f fault.NoMemory m h p = tt
  stray segments es (divide_fault.Stray k) (fault.Stray j) m h is =
      let here = flat_among _ segments es h.0 m (filter_among is_data es h.0 h.1 (data_of_key (shown_key k) h.0 h.2.0))
      in
      rw is (h.0, here, h.2)
  stray segments es f (fault.Double id) m h p = absurd p
  stray segments es f fault.Stranger m h p = absurd p
  stray segments es f (fault.MissingGroup id) m h p = absurd p
  stray segments es f fault.Clash m h p = absurd p
  stray segments es divide_fault.NoMemory (fault.Stray j) m h p = absurd p

  -- ---- entries

  module _ (segments : List (List Entry)) where
    pub to_log : (e : Entry) → IsAmong e (bag_of (all_groups qs segments)) → IsAmong e (segments_bag segments)
    to_log e m =
        let g = among_flat (λ (h : Grouped). h.entries) (all_groups qs segments) e m in
        let es = among_flat (λ (fs : List Entry). groups_of qs (id_of fs) fs) segments g.0 g.1 in
        let n = among_images (group_in qs (id_of es.0) es.0) (range_with_len 0 (partitions_of qs)) g.0 es.2 in
        let here : IsAmong e (group_in qs (id_of es.0) es.0 n.0).entries =
        subst (λ (h : Grouped). IsAmong e h.entries) (sym n.2) g.2 in
        let in_es = among_filter (goes_to qs n.0) es.0 e here in
        flat_among _ segments es.0 e es.1 (filter_among is_data es.0 e in_es.0 (goes_data qs n.0 e in_es.1))

    named : (o : Option ℕ) → is_some o ≡ true → (n : ℕ) × (o ≡ Some n)
    named None h = absurd (cc)
    named (Some n) h = (n, refl)

    module _ (parts : AreParts qs) (covered : AreAllCovered qs segments) where
      goes_somewhere : (es : List Entry) → IsAmong es segments → (e : Entry) → IsAmong e es → is_data e ≡ true
          → (n : ℕ) × (n < partitions_of qs) × (goes_to qs n e ≡ true)
      goes_somewhere es m (entry.Header h) me data_here = absurd (cc)
      goes_somewhere es m (entry.Digest ids) me data_here = absurd (cc)
      goes_somewhere es m (entry.Safe version) me data_here = absurd (cc)
      goes_somewhere es m (entry.Object o) me data_here =
          let at = named (partition_of_key qs o.key) (covered es m (entry.Object o) me o.key refl) in (
            at.0,
            subst (λ (p : Option ℕ). IfSome p (λ n. n < partitions_of qs)) at.1
                (parts.below o.key.table (place_of o.key.bytes)),
            subst (λ (p : Option ℕ). is_number at.0 p ≡ true) (sym at.1) ((Decides-eqb at.0 at.0).1 refl),
          )
      goes_somewhere es m (entry.Tombstone t) me data_here =
          let at = named (partition_of_key qs t.key) (covered es m (entry.Tombstone t) me t.key refl) in (
            at.0,
            subst (λ (p : Option ℕ). IfSome p (λ n. n < partitions_of qs)) at.1
                (parts.below t.key.table (place_of t.key.bytes)),
            subst (λ (p : Option ℕ). is_number at.0 p ≡ true) (sym at.1) ((Decides-eqb at.0 at.0).1 refl),
          )

      pub from_log : (e : Entry) → IsAmong e (segments_bag segments) → IsAmong e (bag_of (all_groups qs segments))
      from_log e m =
          let es = among_flat _ segments e m in
          let in_es = among_filter is_data es.0 e es.2 in
          let n = goes_somewhere es.0 es.1 e in_es.0 in_es.1 in
          let g = group_in qs (id_of es.0) es.0 n.0 in
          flat_among (λ (h : Grouped). h.entries) (all_groups qs segments) g e
          (flat_among (λ (fs : List Entry). groups_of qs (id_of fs) fs) segments es.0 g es.1
          (among_image (group_in qs (id_of es.0) es.0) (range_with_len 0 (partitions_of qs)) n.0
          (range_among 0 (partitions_of qs) n.0 n.0 n.1 (omega arith))))
          (filter_among (goes_to qs n.0) es.0 e in_es.0 n.2)

      pub all_covered : AreCovered qs (segments_bag segments)
      all_covered e m =
          let es = among_flat _ segments e m in covered es.0 es.1 e (among_filter is_data es.0 e es.2).0

  -- ---- numbers

  row_long : (es : List Entry) → length (groups_of qs (id_of es) es) ≡ partitions_of qs
  row_long es = length-map-range_with_len (group_in qs (id_of es) es) 0 (partitions_of qs)

  pub all_long : (segments : List (List Entry)) → length (all_groups qs segments) ≡ length segments * partitions_of qs
  all_long [] = omega arith
  all_long (es ∷ segments) =
      let first = row_long es in
      let rest = all_long segments in
      length-append (groups_of qs (id_of es) es) (all_groups qs segments) ∙ omega (arith, first, rest)

  -- ---- faults

  module _ (segments : List (List Entry)) (order : List ℕ) (names : NamesEach (count_of segments qs) order)
      (apart : AreApart (ids_of segments)) where
    pub groups_fault : (f : ReplayFault) → IsGroupsFault qs segments f → IsRebuildFault segments qs order f
    groups_fault (fault.Double id) h = absurd h
    groups_fault fault.Stranger h = absurd h
    groups_fault (fault.MissingGroup id) h = absurd h
    groups_fault fault.NoMemory h = short_named segments qs order names apart
    groups_fault fault.Clash h = absurd h
    groups_fault (fault.Stray k) h = h

  -- ---- the claims

  pub claims_same : (segments : List (List Entry)) (cs : List Claimed) → AreParts qs → AreAllCovered qs segments
      → AreOf (bag_of (all_groups qs segments)) cs → AreOf (segments_bag segments) cs
  claims_same segments cs parts covered of c = (
    λ m. claims_within _ _ (to_log segments) c ((of c).0 m),
    λ m. (of c).1 (claims_within _ _ (from_log segments parts covered) c m),
  )

  pub names_groups : (segments : List (List Entry)) (order : List ℕ) (n : ℕ)
      → n ≡ length (all_groups qs segments) → NamesEach (count_of segments qs) order → NamesEach n order
  names_groups segments order n is h = subst (λ m. NamesEach m order) (sym (is ∙ all_long segments)) h
