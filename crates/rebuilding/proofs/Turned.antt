-- What is replayed in some order means what the log does.
use Rattle.std.proofs.Common.{◌≡◌, ℕ, List, [], length, max, map, sym, ap, subst, ◌∙◌, arith}
use Rattle.std.specs.Prelude.{filter, slice_index_or}
use Rattle.entry.specs.declared.key.Key.{Key}
use Rattle.entry.specs.declared.entry.Entry.{Entry}
use Rattle.entry.specs.Bag.{IsAmong}
use Rattle.entry.specs.Meaning.{IsTop, among, bound_of, object_at}
use Rattle.entry.specs.Text.{is_data}
use Rattle.entry.proofs.BagLemmas.{among_image, among_images}
use Rattle.tablet_will.specs.declared.part.Part.{Part}
use Rattle.tablet_will.specs.Parts.{AreParts}
use Rattle.division.specs.Groups.{Grouped}
use Rattle.division.specs.Division.{AreCovered}
use Rattle.claims.specs.Bags.{segments_bag}
use Rattle.claims.specs.Claims.{claims_of}
use Rattle.claims.specs.Rebuilt.{IsRebuilt}
use Rattle.claims.specs.declared.rebuilt.Rebuilt.{Rebuilt}
use Rattle.claims.proofs.Bounds.{bound_under}
use Rattle.claims.proofs.MeaningLemmas.{bound_of-bag, claims_within}
use Rattle.claims.proofs.Members.{flat_among, among_flat, among_filter, filter_among, map_at}
use Rattle.rebuilding.specs.Rebuilds.{NamesEach, count_of}
use Rattle.rebuilding.specs.Turns.{all_groups, replayed, AreAllCovered}
use Rattle.rebuilding.proofs.AllGroups.{all_long, data_of_key, to_log, from_log}
use Rattle.rebuilding.proofs.Ordered.{none, entries_at, to_bag, from_bag}

-- what is on top of a list is on top of each list of the same entries
top_moved : (es fs : List Entry) → ((e : Entry) → IsAmong e es → IsAmong e fs)
    → ((e : Entry) → IsAmong e fs → IsAmong e es) → (k : Key) (e : Entry) → IsTop k (among es) e → IsTop k (among fs) e
top_moved es fs to from k e top =
    record {
      held = to e top.held;
      of_key = top.of_key;
      highest = λ f m of_key. top.highest f (from f m) of_key;
    }

module _ (qs : List Part) (segments : List (List Entry)) where
  each_covered : AreCovered qs (segments_bag segments) → AreAllCovered qs segments
  each_covered covered es m e in_es k of_key =
      covered e (flat_among (filter is_data) segments es e m
      (filter_among is_data es e in_es (data_of_key k e of_key))) k
      of_key

  module _ (order : List ℕ) (parts : AreParts qs) (covered : AreCovered qs (segments_bag segments))
      (names : NamesEach (count_of segments qs) order) where
    abbrev groups : List Grouped
    groups = all_groups qs segments

    abbrev taken : List Entry
    taken = segments_bag (replayed segments qs order)

    abbrev here : ℕ → List Entry
    here n = slice_index_or (map (λ (g : Grouped). g.entries) groups) n []

    here_is : (n : ℕ) → here n ≡ entries_at groups n
    here_is n = map_at (λ (g : Grouped). g.entries) groups n none

    each_named : NamesEach (length groups) order
    each_named = subst (λ m. NamesEach m order) (sym (all_long qs segments)) names

    to_taken : (e : Entry) → IsAmong e (segments_bag segments) → IsAmong e taken
    to_taken e m =
        let es = among_flat (filter is_data) segments e m in
        let on = (among_filter is_data es.0 e es.2).1 in
        let n = among_flat (entries_at groups) order e
        (from_bag groups order each_named e (from_log qs segments parts (each_covered covered) e m)) in
        flat_among (filter is_data) (map here order) (here n.0) e (among_image here order n.0 n.1)
        (filter_among is_data (here n.0) e (subst (λ (fs : List Entry). IsAmong e fs) (sym (here_is n.0)) n.2) on)

    from_taken : (e : Entry) → IsAmong e taken → IsAmong e (segments_bag segments)
    from_taken e m =
        let es = among_flat (filter is_data) (map here order) e m in
        let n = among_images here order es.0 es.1 in
        let in_es = (among_filter is_data es.0 e es.2).0 in
        to_log qs segments e (to_bag groups order each_named e (flat_among (entries_at groups) order n.0 e n.1
        (subst (λ (fs : List Entry). IsAmong e fs) (sym n.2 ∙ here_is n.0) in_es)))

    bounds : bound_of (segments_bag segments) ≡ bound_of taken
    bounds =
        let one = bound_of-bag segments in
        let other = bound_of-bag (replayed segments qs order) in
        let up = bound_under (claims_of (segments_bag segments)) (claims_of taken)
        (claims_within (segments_bag segments) taken to_taken) in
        let down = bound_under (claims_of taken) (claims_of (segments_bag segments))
        (claims_within taken (segments_bag segments) from_taken) in
        omega (arith, one, other, up, down)

    pub turned : (recorded : ℕ) (r : Rebuilt) → IsRebuilt segments recorded r
        → IsRebuilt (replayed segments qs order) recorded r
    turned recorded r h =
        record {
          meaning = λ k x. (
            λ has. top_moved (segments_bag segments) taken to_taken from_taken k (object_at k x)
                ((h.meaning k x).0 has),
            λ top. (h.meaning k x).1 (top_moved taken (segments_bag segments) from_taken to_taken k
                (object_at k x) top),
          );
          order = h.order;
          valid = h.valid;
          safe = h.safe ∙ ap (λ n. max recorded n) bounds;
        }
