-- What groups claim, in the order in which they are named.
use Rattle.std.proofs.Common.{◌≡◌, ℕ, ◌+◌, ◌<◌, List, [], ◌∷◌, ◌++◌, map, length, get_or, take, refl, sym, ap, subst}
use Rattle.std.proofs.Common.{◌∙◌, arith}
use Rattle.std.specs.Prelude.{filter, slice_index, slice_index_or}
use Rattle.std.specs.List.{flat_map}
use Rattle.std.proofs.lemmas.Grind.{flat_map-append}
use Rattle.std.proofs.lemmas.List.{append-nil, take_more, length-map, get_or_default}
use Rattle.entry.specs.declared.entry.Entry.{Entry}
use Rattle.entry.specs.Bag.{IsAmong}
use Rattle.entry.specs.Text.{is_data}
use Rattle.entry.proofs.BagLemmas.{among_at, among_place}
use Rattle.division.specs.declared.group.Group.{Group}
use Rattle.division.specs.Groups.{Grouped, grouped, bag_of}
use Rattle.claims.specs.Claims.{Claimed, claims_of}
use Rattle.rebuilding.specs.Rebuilds.{NamesEach}
use Rattle.claims.specs.Bags.{segments_bag}
use Rattle.rebuilding.specs.Turns.{entries_in_turn}
use Rattle.claims.specs.Settled.{AreOf}
use Rattle.claims.proofs.MeaningLemmas.{claims_within}
use Rattle.claims.proofs.GatheringLemmas.{claims_of-append, claims_of-data}
use Rattle.claims.proofs.Members.{flat_among, among_flat, map_at}

abbrev pub none : Grouped
none = record { segment = 0; partition = 0; entries = [] }

-- the entries of the group with this number
abbrev pub entries_at : List Grouped → ℕ → List Entry
entries_at gs n = (get_or gs n none).entries

-- what the named groups claim
abbrev pub claims_named : List Grouped → List ℕ → List Claimed
claims_named gs order = claims_of (flat_map (entries_at gs) order)

pub named_more : (gs : List Group) (order : List ℕ) (k : ℕ) (g : Group) (was new : List Claimed) → k < length order
    → slice_index order k < length gs → g ≡ get_or gs (slice_index order k) g
    → new ≡ was ++ claims_of (g.entries) → was ≡ claims_named (map grouped gs) (take k order)
    → new ≡ claims_named (map grouped gs) (take (k + 1) order)
named_more gs order k g was new lt inside at added held =
    let hs = map grouped gs in
    let n = slice_index order k in
    let front = take k order in
    let within : n < length hs = (let long = length-map gs grouped in omega (arith, long, inside)) in
    let here : entries_at hs n ≡ g.entries =
    ap (λ (h : Grouped). h.entries)
    (get_or_default hs n none (grouped g) within ∙ map_at grouped gs n g ∙ ap grouped (sym at)) in
    let more : flat_map (entries_at hs) (take (k + 1) order) ≡ flat_map (entries_at hs) front ++ g.entries =
    ap (flat_map (entries_at hs)) (take_more order k 0 lt) ∙ flat_map-append (entries_at hs) front (n ∷ [])
    ∙ ap (λ (es : List Entry). flat_map (entries_at hs) front ++ es) (append-nil (entries_at hs n) ∙ here) in
    added ∙ ap (λ (cs : List Claimed). cs ++ claims_of (g.entries)) held
    ∙ sym (ap claims_of more ∙ claims_of-append (flat_map (entries_at hs) front) (g.entries))

module _ (gs : List Grouped) (order : List ℕ) (names : NamesEach (length gs) order) where
  pub to_bag : (e : Entry) → IsAmong e (flat_map (entries_at gs) order) → IsAmong e (bag_of gs)
  to_bag e m =
      let n = among_flat (entries_at gs) order e m in
      let inside = names.below n.0 n.1 in
      flat_among (λ (g : Grouped). g.entries) gs (get_or gs n.0 none) e
      (among_at gs n.0 (get_or gs n.0 none) inside (get_or_default gs n.0 none (get_or gs n.0 none) inside)) n.2

  pub from_bag : (e : Entry) → IsAmong e (bag_of gs) → IsAmong e (flat_map (entries_at gs) order)
  from_bag e m =
      let g = among_flat (λ (h : Grouped). h.entries) gs e m in
      let at = among_place g.0 gs g.1 in
      let is : g.0 ≡ get_or gs at.0 none = sym (get_or_default gs at.0 none g.0 at.1 ∙ at.2) in
      flat_among (entries_at gs) order at.0 e (names.each at.0 at.1)
      (subst (λ (h : Grouped). IsAmong e h.entries) is g.2)

  -- if each group is named, the claims are those of all groups
  pub all_named : (cs : List Claimed) → cs ≡ claims_named gs order → AreOf (bag_of gs) cs
  all_named cs is c = (
    λ m. claims_within _ _ to_bag c (subst (IsAmong c) is m),
    λ m. subst (IsAmong c) (sym is) (claims_within _ _ from_bag c m),
  )

-- what the named groups claim is what their entries do
pub claims_in_turn : (gs : List Grouped) (order : List ℕ)
    → claims_named gs order ≡ claims_of (segments_bag (entries_in_turn gs order))
claims_in_turn gs [] = refl
claims_in_turn gs (n ∷ ns) =
    let here : List Entry = slice_index_or (map (λ (g : Grouped). g.entries) gs) n [] in
    let same : entries_at gs n ≡ here = sym (map_at (λ (g : Grouped). g.entries) gs n none) in
    claims_of-append (entries_at gs n) (flat_map (entries_at gs) ns)
    ∙ (λ i. claims_of (same i) ++ claims_in_turn gs ns i)
    ∙ sym (claims_of-append (filter is_data here) (segments_bag (entries_in_turn gs ns))
    ∙ ap (λ (cs : List Claimed). cs ++ claims_of (segments_bag (entries_in_turn gs ns))) (claims_of-data here))

-- claims that are just those of the entries
pub are_claims : (es : List Entry) (cs : List Claimed) → cs ≡ claims_of es → AreOf es cs
are_claims es cs is c = (λ m. subst (IsAmong c) is m, λ m. subst (IsAmong c) (sym is) m)
