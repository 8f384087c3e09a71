-- The pass over a segment that gathers places, and the groups that are made of them.
use Rattle.std.proofs.Common.{◌≡◌, ℕ, zero, suc, ◌+◌, ◌-◌, ◌<◌, ◌≤◌, List, [], ◌∷◌, ◌++◌, map, length, take, drop}
use Rattle.std.proofs.Common.{Option, Some, None, refl, sym, ap, subst, ◌∙◌, append_assoc, arith, get_or, set}
use Rattle.std.specs.Prelude.{is_some}
use Rattle.std.specs.Option.{option_map_or}
use Rattle.std.specs.List.{range_with_len, AllByRecursion}
use Rattle.std.proofs.lemmas.List.{append-nil, map-append}
use Rattle.entry.specs.declared.entry.Entry.{Entry}
use Rattle.entry.specs.declared.entry.Entry.TheVariants as entry
use Rattle.entry.specs.Format.{IsEntry, front_of}
use Rattle.entry.specs.Text.{text_of}
use Rattle.entry.proofs.ListLemmas.{all_push}
use Rattle.tablet_will.specs.declared.part.Part.{Part}
use Rattle.tablet_will.specs.Parts.{partitions_of}
use Rattle.division.specs.declared.gathered.Gathered.{Gathered}
use Rattle.division.specs.declared.group.Group.{Group}
use Rattle.division.specs.Placed.{entry_standing, entries_at, Stands, AllStand}
use Rattle.division.specs.Groups.{Grouped, grouped}
use Rattle.division.specs.Division.{partition_in, with_entry, empty_group, IsCovered, AreCovered}
use Rattle.division.specs.Gathering.{group_at, ArePlaces, AreEmpty, AreGathered}
use Rattle.division.proofs.Ahead.{IsAhead, IsNext, ahead_first, ahead_next, ahead_none}
use Rattle.division.proofs.Divisions.{IsDividing, dividing_first, dividing_more, division_is, added_none, range_more}
use Rattle.division.proofs.Divisions.{counted, entry_added}

-- ---- what holds of each element

module _ {X : Type 0} (P : X → Type 0) where
  all_at : (xs : List X) (i : ℕ) (d : X) → i < length xs → AllByRecursion P xs → P (get_or xs i d)
  all_at [] i d lt all = absurd (omega (arith, lt))
  all_at (x ∷ xs) zero d lt all = all.0
  all_at (x ∷ xs) (suc i) d lt all = all_at xs i d (omega (arith, lt)) all.1

  all_set : (xs : List X) (i : ℕ) (y : X) → AllByRecursion P xs → P y → AllByRecursion P (set xs i y)
  all_set [] i y all p = tt
  all_set (x ∷ xs) zero y all p = (p, all.1)
  all_set (x ∷ xs) (suc i) y all p = (all.0, all_set xs i y all.1 p)

-- ---- no places

pub empty_more : (n : ℕ) (gs new : List Gathered) (g : Gathered) → new ≡ gs ++ g ∷ [] → g.partition ≡ n
    → g.places.items ≡ [] → AreEmpty n gs → AreEmpty (n + 1) new
empty_more n gs new g pushed number none h = record {
  numbers =
      ap (map (λ (g : Gathered). g.partition)) pushed ∙ map-append (λ (g : Gathered). g.partition) gs (g ∷ [])
      ∙ (λ i. h.numbers i ++ number i ∷ [])
      ∙ sym (range_more 0 n ∙ ap (λ (m : ℕ). range_with_len 0 n ++ m ∷ []) (omega arith));
  empty =
      subst (λ (hs : List Gathered). AllByRecursion (λ (g : Gathered). g.places.items ≡ []) hs) (sym pushed)
      (all_push (λ (g : Gathered). g.places.items ≡ []) gs g h.empty none);
}

empty_groups : (segment : ℕ) (text : List ℕ) (gs : List Gathered)
    → AllByRecursion (λ (g : Gathered). g.places.items ≡ []) gs
    → map (group_at segment text) gs ≡ map (empty_group segment) (map (λ (g : Gathered). g.partition) gs)
empty_groups segment text [] all = refl
empty_groups segment text (g ∷ gs) all =
    let first : group_at segment text g ≡ empty_group segment g.partition =
    (λ i. record { segment = segment; partition = g.partition; entries = entries_at text (all.0 i) }) in
    (λ i. first i ∷ empty_groups segment text gs all.1 i)

empty_stand : (text : List ℕ) (gs : List Gathered) → AllByRecursion (λ (g : Gathered). g.places.items ≡ []) gs
    → ArePlaces text gs
empty_stand text [] all = tt
empty_stand text (g ∷ gs) all = (subst (AllStand text) (sym all.0) tt, empty_stand text gs all.1)

-- ---- the pass

module _ (qs : List Part) (es : List Entry) (text : List ℕ) where
  abbrev Dividing : ℕ → List Entry → List Gathered → Type 0
  Dividing segment left gs =
      IsDividing qs es (map (empty_group segment) (range_with_len 0 (partitions_of qs))) left
      (map (group_at segment text) gs)

  -- before an offset all are gathered
  pub record IsGathering (at : ℕ) (gs : List Gathered) : Type 0 where
    pub left : List Entry
    pub ahead : IsAhead text at left
    pub stand : ArePlaces text gs
    pub dividing : (segment : ℕ) → Dividing segment left gs

  pub gathering_first : (gs : List Gathered) → text ≡ text_of es → AllByRecursion IsEntry es
      → AreEmpty (partitions_of qs) gs → IsGathering 0 gs
  gathering_first gs is each none = record {
    left = es;
    ahead = ahead_first text es is each;
    stand = empty_stand text gs none.empty;
    dividing = λ segment. subst
        (λ (before : List Grouped). IsDividing qs es before es (map (group_at segment text) gs))
        (empty_groups segment text gs none.empty ∙ ap (map (empty_group segment)) none.numbers)
        (dividing_first qs es (map (group_at segment text) gs));
  }

  pub gathering_end : (at : ℕ) (gs : List Gathered) → text ≡ text_of es → IsGathering at gs → length text ≤ at
      → AreGathered qs es gs × AreCovered qs es
  gathering_end at gs is h past =
      let none : h.left ≡ [] = ahead_none text at h.left h.ahead past in
      let divided : (segment : ℕ) → Dividing segment [] gs =
      (λ segment. subst (λ (left : List Entry). Dividing segment left gs) none (h.dividing segment)) in (
        record {
          stand = subst (λ (l : List ℕ). ArePlaces l gs) is h.stand;
          groups = λ segment.
              ap (λ (l : List ℕ). map (group_at segment l) gs) (sym is) ∙ division_is qs segment es _ (divided segment);
        },
        (divided 0).covered (λ e m. absurd m),
      )

  module _ (at : ℕ) (gs : List Gathered) (h : IsGathering at gs) where
    -- a group for each partition
    pub gathered_len : length gs ≡ partitions_of qs
    gathered_len = counted (group_at 0 text) qs 0 (partitions_of qs) es h.left gs (h.dividing 0)

    module _ (e : Entry) (n : ℕ) (read : front_of (take (length text - at) (drop at text)) ≡ Some (e, n)) where
      next : IsNext text at h.left e n
      next = ahead_next text at h.left e n h.ahead read

      pub gathering_none : partition_in qs e ≡ None → IsCovered qs e → IsGathering (at + n) gs
      gathering_none none covered = record {
        left = next.later;
        ahead = next.ahead;
        stand = h.stand;
        dividing = λ segment.
            dividing_more qs es h.left next.later e _ (map (group_at segment text) gs) _ (h.dividing segment) next.is
            (sym (added_none qs e (map (group_at segment text) gs) none)) covered;
      }

      module _ (m : ℕ) (old new : Gathered) (lt : m < partitions_of qs) (was : old ≡ get_or gs m old)
          (number : new.partition ≡ old.partition) (places : new.places.items ≡ old.places.items ++ at ∷ []) where
        here : entry_standing text at ≡ e
        here = ap (λ (o : Option Entry). option_map_or (λ (f : Entry). f) o (entry.Safe 0)) next.stands

        longer : (segment : ℕ) → group_at segment text new ≡ with_entry e (group_at segment text old)
        longer segment =
            let entries : entries_at text new.places.items ≡ entries_at text old.places.items ++ e ∷ [] =
            ap (map (entry_standing text)) places ∙ map-append (entry_standing text) old.places.items (at ∷ [])
            ∙ ap (λ (f : Entry). entries_at text old.places.items ++ f ∷ []) here in
            (λ i. record { segment = segment; partition = number i; entries = entries i })

        stands : AllStand text new.places.items
        stands =
            let before : AllStand text old.places.items =
            subst (λ (g : Gathered). AllStand text g.places.items) (sym was)
            (all_at (λ (g : Gathered). AllStand text g.places.items) gs m old
            (omega (arith, lt, gathered_len)) h.stand) in
            subst (AllStand text) (sym places)
            (all_push (Stands text) old.places.items at before (ap (λ (o : Option Entry). is_some o) next.stands))

        pub gathering_more : partition_in qs e ≡ Some m → IsCovered qs e → IsGathering (at + n) (set gs m new)
        gathering_more to covered = record {
          left = next.later;
          ahead = next.ahead;
          stand = all_set (λ (g : Gathered). AllStand text g.places.items) gs m new h.stand stands;
          dividing = λ segment.
              dividing_more qs es h.left next.later e _ (map (group_at segment text) gs) _ (h.dividing segment) next.is
              (entry_added (group_at segment text) qs segment (partitions_of qs) es h.left gs
              (h.dividing segment) e m old
              new lt to was (longer segment)) covered;
        }

-- ---- the groups

-- some of the groups are made, and these are left
pub record IsGrouping (segment : ℕ) (text : List ℕ) (all left : List Gathered) (groups : List Group) : Type 0 where
  pub stand : ArePlaces text left
  pub made : map grouped groups ++ map (group_at segment text) left ≡ map (group_at segment text) all

pub grouping_first : (segment : ℕ) (text : List ℕ) (all left : List Gathered) (groups : List Group) → left ≡ all
    → groups ≡ [] → ArePlaces text all → IsGrouping segment text all left groups
grouping_first segment text all left groups is none stand = record {
  stand = subst (ArePlaces text) (sym is) stand;
  made = (λ i. map grouped (none i) ++ map (group_at segment text) (is i));
}

module _ (segment : ℕ) (text : List ℕ) (all left : List Gathered) (groups : List Group)
    (h : IsGrouping segment text all left groups) where
  module _ (x : Gathered) (rest : List Gathered) (is : left ≡ x ∷ rest) where
    next_stands : AllStand text x.places.items × ArePlaces text rest
    next_stands = subst (ArePlaces text) is h.stand

    pub grouping_stands : AllStand text x.places.items
    grouping_stands = next_stands.0

    pub grouping_more : (new : List Group) (g : Group) → new ≡ groups ++ g ∷ [] → g.segment ≡ segment
        → g.partition ≡ x.partition → g.entries ≡ entries_at text x.places.items → IsGrouping segment text all rest new
    grouping_more new g pushed id number entries =
        let same : grouped g ≡ group_at segment text x =
        (λ i. record { segment = id i; partition = number i; entries = entries i }) in
        record {
          stand = next_stands.1;
          made =
              ap (λ (gs : List Group). map grouped gs ++ map (group_at segment text) rest) pushed
              ∙ ap (λ (hs : List Grouped). hs ++ map (group_at segment text) rest) (map-append grouped groups (g ∷ []))
              ∙ append_assoc (map grouped groups) (grouped g ∷ []) (map (group_at segment text) rest)
              ∙ ap (λ (k : Grouped). map grouped groups ++ k ∷ map (group_at segment text) rest) same
              ∙ ap (λ (xs : List Gathered). map grouped groups ++ map (group_at segment text) xs) (sym is) ∙ h.made;
        }

  pub grouping_end : left ≡ [] → map grouped groups ≡ map (group_at segment text) all
  grouping_end none =
      sym (append-nil (map grouped groups))
      ∙ ap (λ (xs : List Gathered). map grouped groups ++ map (group_at segment text) xs) (sym none) ∙ h.made
