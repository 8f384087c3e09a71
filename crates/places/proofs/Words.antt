-- Lemmas about the places of an index, for the crates above an index.
use Rattle.std.proofs.Common.{◌≡◌, ℕ, Bool, true, false, List, refl, sym, ap, subst, ◌∙◌, if◌then◌else◌}
use Rattle.std.specs.Prelude.{Option, Some}
use Rattle.entry.specs.declared.key.Key.{Key}
use Rattle.entry.specs.Order.{key_eq}
use Rattle.places.specs.declared.place.Place.{Place}
use Rattle.places.specs.declared.place.Held.{Held}
use Rattle.std.specs.Option.{option_map}
use Rattle.places.specs.Hashing.{hash_by, hash_of, pieces}
use Rattle.places.specs.Map.{Places, found, AreKeptBy, IsSetBy, AreKept, IsSet, IsSameMap}
use Rattle.places.specs.Relocation.{names, moved, relocated, goes_all, AllPlaces}
use Rattle.places.proofs.Again as again
use Rattle.places.proofs.Each as each
use Rattle.places.proofs.Finding as finding
use Rattle.places.proofs.FoundPlaces as founds
use Rattle.places.proofs.Going as going
use Rattle.places.proofs.Moves as moves
use Rattle.places.proofs.Named as naming

-- these places, with another list
abbrev with_list : Places → List Held → Places
with_list ps hs = record ps { list = hs }

-- ---- what is found

pub found_is : (keys : Place → Option Key) (k : Key) (ps : Places) (p : Place) → found keys k ps ≡ Some p
    → keys p ≡ Some k
found_is keys k ps p is = finding.found_is keys k ps.list p is

-- what holds of each place holds where a key is found
pub found_holds : (keys : Place → Option Key) (P : Place → Type 0) (k : Key) (ps : Places) (p : Place)
    → AllPlaces P ps → found keys k ps ≡ Some p → P p
found_holds keys P k ps p all is = going.found_holds keys P k ps.list p all is

-- each place is where its key is found
pub each_found : (keys : Place → Option Key) (ps : Places) → AreKept keys ps
    → AllPlaces (λ (p : Place). (k : Key) → keys p ≡ Some k → found keys k ps ≡ Some p) ps
each_found keys ps all = each.each_found keys ps.list all.apart

-- a key stands at the place, and is found there
abbrev pub HasKey : (Place → Option Key) → Places → Place → Type 0
HasKey keys ps p = (k : Key) × (keys p ≡ Some k) × (found keys k ps ≡ Some p)

pub each_told : (keys : Place → Option Key) (ps : Places) → AreKept keys ps → AllPlaces (HasKey keys ps) ps
each_told keys ps all = each.each_told keys ps.list all

-- ---- what is named

-- where a key stands that is named there, it is found there
pub named_found : (keys : Place → Option Key) (k : Key) (p : Place) → keys p ≡ Some k → (ps : Places)
    → AreKept keys ps → names ps k p ≡ true → found keys k ps ≡ Some p
named_found keys k p there ps all is = naming.named_found (hash_of ps.seed) keys k p there ps.list all is

pub found_named : (keys : Place → Option Key) (k : Key) (p : Place) (ps : Places) → AreKept keys ps
    → found keys k ps ≡ Some p → names ps k p ≡ true
found_named keys k p ps all is = naming.found_named (hash_of ps.seed) keys k p ps.list all is

-- ---- all places

pub all_of : (P : Place → Type 0) (ps : Places) → ((p : Place) → P p) → AllPlaces P ps
all_of P ps each_one = moves.all_of P ps.list each_one

-- what follows at each place from what holds there
pub all_then : (P Q : Place → Type 0) (ps : Places) → ((p : Place) → P p → Q p) → AllPlaces P ps → AllPlaces Q ps
all_then P Q ps follows all = going.all_then P Q ps.list follows all

pub all_both : (P Q : Place → Type 0) (ps : Places) → AllPlaces P ps → AllPlaces Q ps
    → AllPlaces (λ (p : Place). P p × Q p) ps
all_both P Q ps all also = going.all_both P Q ps.list all also

-- another resolver that tells the same keys finds the same
pub found_again : (keys other : Place → Option Key) (ps : Places) → AllPlaces (λ (p : Place). other p ≡ keys p) ps
    → (q : Key) → found other q ps ≡ found keys q ps
found_again keys other ps same q = again.found_again keys other ps.list same q

pub kept_again : (keys other : Place → Option Key) (ps : Places) → AreKept keys ps
    → AllPlaces (λ (p : Place). other p ≡ keys p) ps → AreKept other ps
kept_again keys other ps all same = again.kept_again keys other ps.list all same

-- ---- all places go elsewhere

module _ (goes : Place → Place) (keys other : Place → Option Key) (ps : Places)
    (told : AllPlaces (λ (p : Place). other (goes p) ≡ keys p) ps) where
  pub found_gone : (q : Key) → found other q (goes_all goes ps) ≡ option_map goes (found keys q ps)
  found_gone q = going.found_gone goes keys other ps.list told q

  pub kept_gone : AreKept keys ps → AreKept other (goes_all goes ps)
  kept_gone all = going.kept_gone goes keys other ps.list told all

-- what holds of each place where it has gone
pub all_gone : (goes : Place → Place) (P : Place → Type 0) (ps : Places) → AllPlaces (λ (p : Place). P (goes p)) ps
    → AllPlaces P (goes_all goes ps)
all_gone goes P ps all = going.all_gone goes P ps.list all

-- where two ways lead each place to the same one, they lead all to the same ones
pub goes_alike : (f g : Place → Place) (ps : Places) → AllPlaces (λ (p : Place). f p ≡ g p) ps
    → goes_all f ps ≡ goes_all g ps
goes_alike f g ps same = ap (with_list ps) (moves.goes_alike f g ps.list same)

-- where each place stays, all stay
pub goes_nowhere : (f : Place → Place) (ps : Places) → AllPlaces (λ (p : Place). f p ≡ p) ps → goes_all f ps ≡ ps
goes_nowhere f ps same = ap (with_list ps) (moves.goes_nowhere f ps.list same)

-- what is named once all have gone was named, if no other place has gone there
pub named_gone : (goes : Place → Place) (k : Key) (p : Place) → ((q : Place) → goes q ≡ p → q ≡ p) → (ps : Places)
    → names (goes_all goes ps) k p ≡ true → names ps k p ≡ true
named_gone goes k p stayed ps is = moves.named_gone (hash_of ps.seed) goes k p stayed ps.list is

-- ---- one place moves

-- where a key is found, its place moves
pub moved_set : (keys : Place → Option Key) (ps : Places) (k : Key) (p to : Place) → AreKept keys ps
    → found keys k ps ≡ Some p → keys to ≡ Some k → IsSet keys ps k (Some to) (moved ps k p to)
moved_set keys ps k p to all is there =
    let set = moves.moved_set (hash_of ps.seed) keys ps.list k p to all is there in
    record { seed = refl; kept = set.kept; finds = set.finds }

-- under any hash of keys
pub relocates_set : (hash : List ℕ → Key → ℕ) (keys : Place → Option Key) (k : Key) (ps : Places) (h : Held)
    (to : Place) → AreKeptBy hash keys ps → found keys k ps ≡ Some h.place → h.hash ≡ pieces hash ps.seed k
    → keys to ≡ Some k → IsSetBy hash keys ps k (Some to) (relocated h to ps)
relocates_set hash keys k ps h to all is of there =
    let set = founds.relocated_set keys k ps.list h to all is of there in
    record { seed = refl; kept = set.kept; finds = set.finds }

pub relocated_set : (keys : Place → Option Key) (k : Key) (ps : Places) (h : Held) (to : Place) → AreKept keys ps
    → found keys k ps ≡ Some h.place → h.hash ≡ hash_of ps.seed k → keys to ≡ Some k
    → IsSet keys ps k (Some to) (relocated h to ps)
relocated_set keys k ps h to all is of there = relocates_set hash_by keys k ps h to all is of there

-- a place that neither moves nor is moved to is named as before
pub names_other : (k q : Key) (p to r : Place) → (r ≡ p → ⊥) → (r ≡ to → ⊥) → (ps : Places)
    → names (moved ps k p to) q r ≡ names ps q r
names_other k q p to r old new ps = moves.names_other (hash_of ps.seed) k q p to r old new ps.list

-- a place that doesn't move is named as long as it was
pub names_still : (k q : Key) (p to r : Place) → (r ≡ p → ⊥) → (ps : Places) → names ps q r ≡ true
    → names (moved ps k p to) q r ≡ true
names_still k q p to r old ps is = moves.names_still (hash_of ps.seed) k q p to r old ps.list is

-- a place that moves is named where it went
pub names_moved : (k : Key) (p to : Place) (ps : Places) → names ps k p ≡ true → names (moved ps k p to) k to ≡ true
names_moved k p to ps is = moves.names_moved (hash_of ps.seed) k p to ps.list is

-- a place that isn't moved to is named afterwards only if it was before
pub named_before : (k q : Key) (p to r : Place) → (r ≡ to → ⊥) → (ps : Places)
    → names (moved ps k p to) q r ≡ true → names ps q r ≡ true
named_before k q p to r new ps is = moves.named_before (hash_of ps.seed) k q p to r new ps.list is

-- Two ways lead each place but one to the same place, which isn't that one. If the first way leaves it, and the second
-- leads it to where it moves, then to go the first way and to move it is to go the second way.
pub moves_alike : (keys : Place → Option Key) (f g : Place → Place) (k : Key) (p to : Place) → keys p ≡ Some k
    → f p ≡ p → g p ≡ to → (ps : Places) → AreKept keys ps
    → AllPlaces (λ (q : Place). (q ≡ p → ⊥) → (f q ≡ g q) × (f q ≡ p → ⊥)) ps
    → moved (goes_all f ps) k p to ≡ goes_all g ps
moves_alike keys f g k p to stands stays goes ps all alike =
    ap (with_list ps)
    (moves.moves_alike (hash_of ps.seed) keys f g k p to stands stays goes ps.list all.told all.apart alike)

-- ---- the map is set for one key

-- a place that was set is there once the index is grown
pub set_grown : (keys : Place → Option Key) (old mid new : Places) (k : Key) (x : Option Place) → IsSet keys old k x mid
    → (AreKept keys mid → IsSameMap keys mid new) → IsSet keys old k x new
set_grown keys old mid new k x set grown =
    let same = grown set.kept in
    record { seed = same.seed ∙ set.seed; kept = same.kept; finds = λ q. same.finds q ∙ set.finds q }

-- a key with the same hash stands where a key is named
named_told : (keys : Place → Option Key) (k : Key) (p : Place) (ps : Places) → AreKept keys ps
    → names ps k p ≡ true → (j : Key) × (keys p ≡ Some j) × (hash_of ps.seed j ≡ hash_of ps.seed k)
named_told keys k p ps all is = naming.named_told (hash_of ps.seed) keys k p ps.list all.told is

-- two keys with one hash are named alike
named_alike : (j k : Key) (p : Place) (ps : Places) → hash_of ps.seed j ≡ hash_of ps.seed k
    → names ps j p ≡ names ps k p
named_alike j k p ps same = naming.named_alike (hash_of ps.seed) j k p ps.list same

module _ (keys : Place → Option Key) (old new : Places) (k : Key) (x : Option Place)
    (set : IsSet keys old k x new) where
  -- what is found elsewhere was found before
  pub set_finds : (q : Key) (r : Place) → found keys q new ≡ Some r → (x ≡ Some r → ⊥) → found keys q old ≡ Some r
  set_finds q r finds other = go (key_eq q k) refl where
    go : (t : Bool) → key_eq q k ≡ t → found keys q old ≡ Some r
    go true is =
        let own : found keys q new ≡ x = set.finds q ∙ ap (λ (b : Bool). if b then x else found keys q old) is in
        absurd (other (sym own ∙ finds))
    go false is = sym (set.finds q ∙ ap (λ (b : Bool). if b then x else found keys q old) is) ∙ finds

  -- what is named elsewhere was named before
  pub set_names : AreKept keys old → (q : Key) (r : Place) → names new q r ≡ true → (x ≡ Some r → ⊥)
      → names old q r ≡ true
  set_names all q r is other =
      let told = named_told keys q r new set.kept is in
      let now = named_found keys told.0 r told.1 new set.kept (named_alike told.0 q r new told.2 ∙ is) in
      let before = found_named keys told.0 r old all (set_finds told.0 r now other) in
      let hashes : hash_of old.seed told.0 ≡ hash_of old.seed q =
      subst (λ (s : List ℕ). hash_of s told.0 ≡ hash_of s q) set.seed told.2 in
      sym (named_alike told.0 q r old hashes) ∙ before
