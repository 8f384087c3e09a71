-- A log that is divided segment by segment.
use Rattle.std.proofs.Common.{◌≡◌, ℕ, ◌*◌, ◌/◌, ◌<◌, ◌≤◌, Bool, true, false, List, [], ◌∷◌, ◌++◌, length, map}
use Rattle.std.proofs.Common.{get_or, set, replicate, refl, sym, ap, subst, ◌∙◌, inl, arith}
use Rattle.std.specs.Prelude.{filter}
use Rattle.std.specs.List.{range_with_len}
use Rattle.std.proofs.lemmas.List.{get_or_default, length-set, get_or-set_other}
use Rattle.std.proofs.Math.Nat.{mul-div_cancel}
use Rattle.entry.specs.declared.entry.Entry.{Entry}
use Rattle.entry.specs.declared.key.Key.{Key}
use Rattle.entry.specs.Bag.{IsAmong}
use Rattle.entry.specs.Text.{is_data}
use Rattle.entry.proofs.BagLemmas.{among_place, among_right, among_image, among_images}
use Rattle.tablet_will.specs.declared.part.Part.{Part}
use Rattle.tablet_will.specs.Parts.{partitions_of}
use Rattle.division.specs.declared.group.Group.{Group}
use Rattle.division.specs.Groups.{Grouped, grouped}
use Rattle.division.specs.Division.{group_in, AreCovered, HasStray, IsDivision}
use Rattle.claims.specs.Bags.{segments_bag}
use Rattle.partitions.specs.Parted.{IsParcel}
use Rattle.rebuild_threads.specs.Divided.{AreDivided}
use Rattle.rebuilding.specs.Rebuilds.{NamesEach, count_of}
use Rattle.rebuilding.proofs.AllGroups.{data_of_key}
use Rattle.rebuilding.proofs.Wholes.{row_inside}
use Rattle.claims.proofs.Members.{same_or_not, unmarked, length-unmarked}
use Rattle.claims.proofs.Members.{among_flat, among_filter, flat_among, filter_among}

-- an element of a list between others
pub among_between : (gs yielded rest : List Group) (g : Group) → gs ≡ yielded ++ g ∷ rest
    → IsAmong (grouped g) (map grouped gs)
among_between gs yielded rest g parts =
    among_image grouped gs g (subst (λ (hs : List Group). IsAmong g hs) (sym parts)
    (among_right g yielded (g ∷ rest) (inl refl)))

-- a mark, as it is known later
pub marked_still : (was now : List Bool) (p q n : ℕ) → was ≡ now → p ≡ q → get_or was (n / p) false ≡ true
    → get_or now (n / q) false ≡ true
marked_still was now p q n marks parts on = sym (λ i. get_or (marks i) (n / parts i) false) ∙ on

module _ (qs : List Part) (segments : List (List Entry)) where
  -- each group of a segment is what that has in its partition
  pub division_parcel : (at : ℕ) (gs : List Grouped) (g : Grouped) → at < length segments
      → IsDivision qs (get_or segments at []) gs → IsAmong g gs → IsParcel qs segments at g.partition g.entries
  division_parcel at gs g lt d m =
      let es = get_or segments at [] in
      let n = among_images (group_in qs (d.0.segment) es) (range_with_len 0 (partitions_of qs)) g
      (subst (λ (hs : List Grouped). IsAmong g hs) d.2 m) in
      subst (λ (h : Grouped). IsParcel qs segments at h.partition h.entries) n.2 (record { below = lt; entries = refl })

  pub divided_none : (here : List (List Entry)) (will : List Part) (partitions : ℕ) (marks : List Bool)
      → here ≡ segments → will ≡ qs → partitions ≡ partitions_of will → 0 < partitions
      → marks ≡ replicate (length here) false → AreDivided qs segments here will partitions marks
  divided_none here will partitions marks is_log is_will count some is =
      record {
        is_log = is_log;
        is_will = is_will;
        count = count ∙ ap partitions_of is_will;
        some = some;
        long = ap length is ∙ length-unmarked (length here) ∙ ap length is_log;
        covered = λ at on.
            let off : get_or marks at false ≡ false =
            ap (λ (bs : List Bool). get_or bs at false) is ∙ unmarked (length here) at in
            let no : true ≡ false = sym on ∙ off in absurd (cc);
      }

  module _ (here : List (List Entry)) (will : List Part) (partitions : ℕ) (marks : List Bool)
      (d : AreDivided qs segments here will partitions marks) where
    pub divided_more : (at : ℕ) → AreCovered qs (get_or segments at [])
        → AreDivided qs segments here will partitions (set marks at true)
    divided_more at covered =
        record {
          is_log = d.is_log;
          is_will = d.is_will;
          count = d.count;
          some = d.some;
          long = length-set marks at true ∙ d.long;
          covered = λ i on. same_or_not i at (AreCovered qs (get_or segments i []))
              (λ same. subst (λ j. AreCovered qs (get_or segments j [])) (sym same) covered)
              (λ other. d.covered i (sym (get_or-set_other marks at i true false other) ∙ on));
        }

    -- a marked segment is that of each number in its row
    pub row_covered : (n : ℕ) → get_or marks (n / partitions) false ≡ true
        → AreCovered qs (get_or segments (n / partitions_of qs) [])
    row_covered n on = subst (λ p. AreCovered qs (get_or segments (n / p) [])) d.count (d.covered (n / partitions) on)

    -- a number whose row is behind the marks is in no segment's row
    pub row_outside : (n : ℕ) → length marks ≤ n / partitions → n / partitions_of qs < length segments → ⊥
    row_outside n behind low =
        let long = d.long in
        let inside : n / partitions < length segments = subst (λ p. n / p < length segments) (sym d.count) low in
        omega (arith, long, inside, behind)

  -- a stray of a segment is one of the log
  pub stray_here : (es : List Entry) (k : Key) → IsAmong es segments → HasStray qs es k
      → HasStray qs (segments_bag segments) k
  stray_here es k m h = (
    h.0,
    flat_among (filter is_data) segments es h.0 m (filter_among is_data es h.0 h.1
        (data_of_key k h.0 h.2.0)),
    h.2,
  )

  -- the segments of these numbers are covered, if those are segments
  abbrev pub CoversRow : ℕ → Type 0
  CoversRow n = n / partitions_of qs < length segments → AreCovered qs (get_or segments (n / partitions_of qs) [])

  pub covers_all : (order : List ℕ) → 0 < partitions_of qs → NamesEach (count_of segments qs) order
      → ((n : ℕ) → IsAmong n order → CoversRow n) → AreCovered qs (segments_bag segments)
  covers_all order some names rows e m =
      let p = partitions_of qs in
      let es = among_flat (filter is_data) segments e m in
      let at = among_place es.0 segments es.1 in
      let row : at.0 * p / p ≡ at.0 = mul-div_cancel at.0 some in
      let here : AreCovered qs (get_or segments at.0 []) =
      subst (λ i. AreCovered qs (get_or segments i [])) row
      (rows (at.0 * p) (names.each (at.0 * p) (row_inside at.0 (length segments) p some at.1))
      (subst (λ i. i < length segments) (sym row) at.1)) in
      let there : get_or segments at.0 [] ≡ es.0 = get_or_default segments at.0 [] es.0 at.1 ∙ at.2 in
      subst (λ (fs : List Entry). AreCovered qs fs) there here e (among_filter is_data es.0 e es.2).0
