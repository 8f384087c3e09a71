-- The replicas of other masters among those that backups show.
use Rattle.std.proofs.Common.{◌≡◌, ℕ, ◌+◌, ◌<◌, inl, inr, List, [], ◌∷◌, ◌++◌, map, true, zero, suc, length}
use Rattle.std.proofs.Common.{length-append, get_or, arith}
use Rattle.std.proofs.Common.{refl, sym, ap, subst, ◌∙◌}
use Rattle.std.specs.Prelude.{filter, not, ◌==◌, Option, Some, None, IsSome}
use Rattle.std.specs.List.{AllByRecursion}
use Rattle.std.specs.List.Sorted.{IsStrictlySortedBy}
use Rattle.std.specs.declared.cmp.Ordering.TheVariants.{Less}
use Rattle.std.proofs.lemmas.Bool.{cases_eq, ne_eqb}
use Rattle.std.proofs.lemmas.Bool.Decides.{Decides-eqb}
use Rattle.std.proofs.lemmas.List.Elements.{filter-append}
use Rattle.entry.specs.Bag.{IsAmong}
use Rattle.replica.specs.Picture.{Replica, Picture, AreHeld, IsHeld}
use Rattle.replica.specs.Retire.{AreOthers, HoldsOther, spot_cmp}
use Rattle.replica.specs.declared.holding.Holding.{Holding}
use Rattle.replica.specs.declared.spot.Spot.{Spot}
use Rattle.backup.specs.Inventory.{holding_cmp, IsRising}
use Rattle.backup.specs.Shelf.{holding_of}
use Rattle.backup.specs.Retire.{spot_of, spots_of_others, HoldsOthers}

-- ---- one replica more

same_master : (keep : ℕ) (h : Holding) (hs : List Holding) → h.master ≡ keep
    → spots_of_others keep (h ∷ hs) ≡ spots_of_others keep hs
same_master keep h hs same = let e : (h.master == keep) ≡ true = (Decides-eqb h.master keep).1 same in rw e refl

pub other_first : (keep : ℕ) (h : Holding) (hs : List Holding) → (h.master ≡ keep → ⊥)
    → spots_of_others keep (h ∷ hs) ≡ spot_of h ∷ spots_of_others keep hs
other_first keep h hs other = let e = ne_eqb h.master keep other in rw e refl

map_append : {X Y : Type 0} (f : X → Y) (xs ys : List X) → map f (xs ++ ys) ≡ map f xs ++ map f ys
map_append f [] ys = refl
map_append f (x ∷ xs) ys = ap (λ zs. f x ∷ zs) (map_append f xs ys)

pub others_append : (keep : ℕ) (xs ys : List Holding)
    → spots_of_others keep (xs ++ ys) ≡ spots_of_others keep xs ++ spots_of_others keep ys
others_append keep xs ys =
    ap (map spot_of) (filter-append (λ (h : Holding). not (h.master == keep)) xs ys)
    ∙ map_append spot_of (filter (λ (h : Holding). not (h.master == keep)) xs)
    (filter (λ (h : Holding). not (h.master == keep)) ys)

-- ---- members

-- One of the shown replicas is another master's, and is at this spot.
record IsShownAt (keep : ℕ) (hs : List Holding) (spot : Spot) : Type 0 where
  pub h : Holding
  pub among : IsAmong h hs
  pub at : spot_of h ≡ spot
  pub other : h.master ≡ keep → ⊥

later : (keep : ℕ) (h : Holding) (hs : List Holding) (spot : Spot) → IsShownAt keep hs spot
    → IsShownAt keep (h ∷ hs) spot
later keep h hs spot s = record { h = s.h; among = inr s.among; at = s.at; other = s.other }

among_others : (keep : ℕ) (hs : List Holding) (spot : Spot) → IsAmong spot (spots_of_others keep hs)
    → IsShownAt keep hs spot
among_others keep [] spot among = absurd among
among_others keep (h ∷ hs) spot among = elim (cases_eq h.master keep) as (λ _. IsShownAt keep (h ∷ hs) spot) [
  | inl same ↦ later keep h hs spot (among_others keep hs spot
      (subst (λ (xs : List Spot). IsAmong spot xs) (same_master keep h hs same) among))
  | inr other ↦ elim (subst (λ (xs : List Spot). IsAmong spot xs) (other_first keep h hs other) among)
      as (λ _. IsShownAt keep (h ∷ hs) spot) [
        | inl here ↦ record { h = h; among = inl refl; at = here; other = other }
        | inr there ↦ later keep h hs spot (among_others keep hs spot there)
      ]
]

others_among : (keep : ℕ) (hs : List Holding) (h : Holding) → IsAmong h hs → (h.master ≡ keep → ⊥)
    → IsAmong (spot_of h) (spots_of_others keep hs)
others_among keep [] h among other = absurd among
others_among keep (x ∷ xs) h (inl here) other =
    let away : x.master ≡ keep → ⊥ = λ e. other (ap (λ (g : Holding). g.master) (sym here) ∙ e) in
    subst (λ (ys : List Spot). IsAmong (spot_of h) ys) (sym (other_first keep x xs away)) (inl (ap spot_of here))
others_among keep (x ∷ xs) h (inr there) other =
    let rest = others_among keep xs h there other in
    elim (cases_eq x.master keep) as (λ _. IsAmong (spot_of h) (spots_of_others keep (x ∷ xs))) [
      | inl same ↦ subst (λ (ys : List Spot). IsAmong (spot_of h) ys) (sym (same_master keep x xs same)) rest
      | inr away ↦ subst (λ (ys : List Spot). IsAmong (spot_of h) ys) (sym (other_first keep x xs away)) (inr rest)
    ]

-- ---- order

all_others : (keep : ℕ) (h : Holding) (hs : List Holding) → AllByRecursion (λ g. holding_cmp h g ≡ Less) hs
    → AllByRecursion (λ s. spot_cmp (spot_of h) s ≡ Less) (spots_of_others keep hs)
all_others keep h [] all = tt
all_others keep h (x ∷ xs) all =
    let rest = all_others keep h xs all.1 in
    elim (cases_eq x.master keep)
    as (λ _. AllByRecursion (λ s. spot_cmp (spot_of h) s ≡ Less) (spots_of_others keep (x ∷ xs))) [
      | inl same ↦ subst (λ (ys : List Spot). AllByRecursion (λ s. spot_cmp (spot_of h) s ≡ Less) ys)
          (sym (same_master keep x xs same)) rest
      | inr other ↦ subst (λ (ys : List Spot). AllByRecursion (λ s. spot_cmp (spot_of h) s ≡ Less) ys)
          (sym (other_first keep x xs other)) (all.0, rest)
    ]

others_rise : (keep : ℕ) (hs : List Holding) → IsRising hs → IsStrictlySortedBy spot_cmp (spots_of_others keep hs)
unfolding IsStrictlySortedBy
others_rise keep [] rising = tt
others_rise keep (x ∷ xs) rising =
    let rest = others_rise keep xs rising.1 in
    let above = all_others keep x xs rising.0 in
    elim (cases_eq x.master keep) as (λ _. IsStrictlySortedBy spot_cmp (spots_of_others keep (x ∷ xs))) [
      | inl same ↦ subst (λ (ys : List Spot). IsStrictlySortedBy spot_cmp ys) (sym (same_master keep x xs same)) rest
      | inr other ↦ subst (λ (ys : List Spot). IsStrictlySortedBy spot_cmp ys) (sym (other_first keep x xs other))
          (above, rest)
    ]

-- ---- all of them

held_there : (p : Picture) (spot : Spot) (x : Option Replica) → p spot.backup spot.master spot.segment ≡ x → IsSome x
    → (r : Replica) × (p spot.backup spot.master spot.segment ≡ Some r)
held_there p spot None is some = absurd (cc)
held_there p spot (Some r) is some = (r, is)

pub are_others : (keep : ℕ) (hs : List Holding) (p : Picture) → AreHeld hs p → IsRising hs
    → AreOthers (spots_of_others keep hs) p keep
are_others keep hs p held rising = record {
  each = λ spot. (there spot, back spot);
  rising = others_rise keep hs rising;
} where
  there : (spot : Spot) → IsAmong spot (spots_of_others keep hs) → HoldsOther p keep spot
  there spot among =
      let s = among_others keep hs spot among in
      subst (λ (x : Spot). HoldsOther p keep x) s.at
      (s.other, subst (λ (x : Option Replica). IsSome x) (sym ((held s.h).0 s.among)) refl)

  back : (spot : Spot) → HoldsOther p keep spot → IsAmong spot (spots_of_others keep hs)
  back spot holds =
      let r = held_there p spot (p spot.backup spot.master spot.segment) refl holds.1 in
      let h : Holding = record {
        backup = spot.backup;
        master = spot.master;
        segment = spot.segment;
        bytes = r.0.bytes;
        is_open = r.0.is_open;
      } in
      others_among keep hs h ((held h).1 r.1) holds.0

-- one of those that are held is another master's
pub other_held : (keep : ℕ) (hs : List Holding) (p : Picture) → 0 < length (spots_of_others keep hs)
    → ((h : Holding) → IsAmong h hs → IsHeld p h) → HoldsOthers p keep
other_held keep hs p some held = go (spots_of_others keep hs) refl some
  where
    go : (spots : List Spot) → spots_of_others keep hs ≡ spots → 0 < length spots → HoldsOthers p keep
    go [] e more = absurd (omega (arith, more))
    go (spot ∷ spots) e more =
        let among : IsAmong spot (spots_of_others keep hs) =
        subst (λ (xs : List Spot). IsAmong spot xs) (sym e) (inl refl) in
        let s = among_others keep hs spot among in (
          spot,
          subst (λ (x : Spot). HoldsOther p keep x) s.at
              (s.other, subst (λ (x : Option Replica). IsSome x) (sym (held s.h s.among)) refl),
        )

-- one of the last of some replicas is another master's
pub other_left : (keep : ℕ) (xs ys : List Holding) → 0 < length (spots_of_others keep ys)
    → 0 < length (spots_of_others keep (xs ++ ys))
other_left keep xs ys some =
    let whole : length (spots_of_others keep (xs ++ ys))
    ≡ length (spots_of_others keep xs) + length (spots_of_others keep ys) =
    ap length (others_append keep xs ys) ∙ length-append (spots_of_others keep xs) (spots_of_others keep ys) in
    omega (arith, whole, some)

-- a replica of a backup is another master's
pub other_slot : (keep b : ℕ) (es : List ((ℕ × ℕ) × Replica)) (i : ℕ) (x : (ℕ × ℕ) × Replica) → i < length es
    → x ≡ get_or es i x → (x.0.0 ≡ keep → ⊥) → 0 < length (spots_of_others keep (map (holding_of b) es))
other_slot keep b [] i x less is other = absurd (omega (arith, less))
other_slot keep b (y ∷ ys) zero x less is other =
    let away : y.0.0 ≡ keep → ⊥ = λ e. other (ap (λ (z : (ℕ × ℕ) × Replica). z.0.0) is ∙ e) in
    let first = other_first keep (holding_of b y) (map (holding_of b) ys) away in
    subst (λ (spots : List Spot). 0 < length spots) (sym first) (omega arith)
other_slot keep b (y ∷ ys) (suc i) x less is other =
    other_left keep (holding_of b y ∷ []) (map (holding_of b) ys)
    (other_slot keep b ys i x (omega (arith, less)) is other)
