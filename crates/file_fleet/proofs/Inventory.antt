-- What all backups of a fleet show.
use Rattle.std.proofs.Common.{◌≡◌, ◌↔◌, ℕ, zero, suc, ◌+◌, ◌<◌, ◌≤◌, ltb, List, [], ◌∷◌, ◌++◌, map, length, drop}
use Rattle.std.proofs.Common.{get_or, append_assoc, true, false, Some, refl, sym, ◌∙◌, ap, subst, inl, inr, arith}
use Rattle.std.specs.List.{AllByRecursion, slice_get}
use Rattle.std.specs.List.Sorted.{IsStrictlySortedBy}
use Rattle.std.specs.declared.cmp.Ordering.TheVariants.{Less}
use Rattle.std.proofs.lemmas.Bool.{lt-ltb, ltb-false, ltb-true}
use Rattle.std.proofs.lemmas.List.{at_drop_more, get_or_default}
use Rattle.entry.specs.Bag.{IsAmong}
use Rattle.entry.proofs.BagLemmas.{among_either, among_left, among_right}
use Rattle.entry.proofs.ListLemmas.{all_append, all_weaker}
use Rattle.replica.specs.Picture.{IsHeld, Replica}
use Rattle.replica.specs.Retire.{AreOthers}
use Rattle.replica.specs.declared.holding.Holding.{Holding}
use Rattle.replica.specs.declared.spot.Spot.{Spot}
use Rattle.backup.specs.Inventory.{IsRising, holding_cmp}
use Rattle.backup.specs.Retire.{spots_of_others}
use Rattle.backup.specs.Shelf.{IsInOrder, holding_of, holdings_of}
use Rattle.backup.specs.declared.memory.MemoryBackup.{MemoryBackup}
use Rattle.file_backup.specs.Mirror.{memory_of}
use Rattle.file_fleet.specs.Members.{picture_of, replica_on}
use Rattle.file_fleet.specs.declared.member.Member.{Member}
use Rattle.file_fleet.proofs.Held.{among_held, held_among, rising_images, shown_value}
use Rattle.backup.proofs.Others.{are_others, others_append}

abbrev pub memory_at : {D : Type 0} → Member D → MemoryBackup
memory_at h = memory_of h.backup

-- what the backups show, if the first has this number
abbrev pub inventory_at : {D : Type 0} → ℕ → List (Member D) → List Holding
inventory_at b [] = []
inventory_at b (h ∷ hs) = holdings_of b (memory_at h) ++ inventory_at (suc b) hs

-- the backups have their replicas in order
abbrev pub AreInOrder : {D : Type 0} → List (Member D) → Type 0
AreInOrder {D} members = AllByRecursion (λ (h : Member D). IsInOrder (memory_at h)) members

-- ---- which replicas

-- a replica on the i-th of these backups
record IsOn {D : Type 0} (members : List (Member D)) (b : ℕ) (h : Holding) : Type 0 where
  pub i : ℕ
  pub backup : h.backup ≡ b + i
  pub held : replica_on (slice_get members i) h.master h.segment ≡ Some (shown_value h)

among_inventory : {D : Type 0} (b : ℕ) (members : List (Member D)) → AreInOrder members → (h : Holding)
    → IsAmong h (inventory_at b members) → IsOn members b h
among_inventory b [] ordered h among = absurd among
among_inventory b (x ∷ xs) ordered h among =
    elim (among_either h (holdings_of b (memory_at x)) (inventory_at (suc b) xs) among) as (λ _. IsOn (x ∷ xs) b h) [
      | inl here ↦ let held = among_held b (memory_at x) ordered.0 h here in
          record { i = 0; backup = omega (arith, held.0); held = held.1 }
      | inr later ↦ let on = among_inventory (suc b) xs ordered.1 h later in
          record { i = suc on.i; backup = omega (arith, on.backup); held = on.held }
    ]

inventory_among : {D : Type 0} (b : ℕ) (members : List (Member D)) (h : Holding) (i : ℕ) → h.backup ≡ b + i
    → replica_on (slice_get members i) h.master h.segment ≡ Some (shown_value h) → IsAmong h (inventory_at b members)
inventory_among b [] h i at held = (cc)
inventory_among b (x ∷ xs) h zero at held =
    among_left h (holdings_of b (memory_at x)) (inventory_at (suc b) xs)
    (held_among b (memory_at x) h (omega (arith, at)) held)
inventory_among b (x ∷ xs) h (suc i) at held =
    among_right h (holdings_of b (memory_at x)) (inventory_at (suc b) xs)
    (inventory_among (suc b) xs h i (omega (arith, at)) held)

pub all_shown : {D : Type 0} (members : List (Member D)) → AreInOrder members → (h : Holding)
    → IsAmong h (inventory_at 0 members) ↔ IsHeld (picture_of members) h
all_shown members ordered h = (
  λ among. let on = among_inventory 0 members ordered h among in
      let at : h.backup ≡ on.i = omega (arith, on.backup) in
      rw at on.held,
  λ held. inventory_among 0 members h h.backup (omega arith) held,
)

-- ---- their order

pub all_backups : (b : ℕ) (es : List ((ℕ × ℕ) × Replica)) → AllByRecursion (λ h. h.backup ≡ b) (map (holding_of b) es)
all_backups b [] = tt
all_backups b (x ∷ xs) = (refl, all_backups b xs)

later_backup : (x y : Holding) → x.backup < y.backup → holding_cmp x y ≡ Less
later_backup x y later = rw (lt-ltb x.backup y.backup later) refl

pub rising_append : (b : ℕ) (xs ys : List Holding) → AllByRecursion (λ h. h.backup ≡ b) xs
    → AllByRecursion (λ h. suc b ≤ h.backup) ys → IsRising xs → IsRising ys → IsRising (xs ++ ys)
unfolding IsStrictlySortedBy
rising_append b [] ys here later front back = back
rising_append b (x ∷ xs) ys here later front back = (
  all_append (λ y. holding_cmp x y ≡ Less) xs ys front.0
      (all_weaker (λ h. suc b ≤ h.backup) (λ y. holding_cmp x y ≡ Less)
      (λ y h. later_backup x y (omega (arith, here.0, h))) ys later),
  rising_append b xs ys here.1 later front.1 back,
)

all_from : {D : Type 0} (b : ℕ) (members : List (Member D))
    → AllByRecursion (λ h. b ≤ h.backup) (inventory_at b members)
all_from b [] = tt
all_from b (x ∷ xs) =
    all_append (λ h. b ≤ h.backup) (holdings_of b (memory_at x)) (inventory_at (suc b) xs)
    (all_weaker (λ h. h.backup ≡ b) (λ h. b ≤ h.backup) (λ h e. omega (arith, e)) (holdings_of b (memory_at x))
    (all_backups b (memory_at x).replicas))
    (all_weaker (λ h. suc b ≤ h.backup) (λ h. b ≤ h.backup) (λ h l. omega (arith, l)) (inventory_at (suc b) xs)
    (all_from (suc b) xs))

pub rising_inventory : {D : Type 0} (b : ℕ) (members : List (Member D)) → AreInOrder members
    → IsRising (inventory_at b members)
unfolding IsStrictlySortedBy
rising_inventory b [] ordered = tt
rising_inventory b (x ∷ xs) ordered =
    rising_append b (holdings_of b (memory_at x)) (inventory_at (suc b) xs) (all_backups b (memory_at x).replicas)
    (all_from (suc b) xs) (rising_images b (memory_at x).replicas ordered.0) (rising_inventory (suc b) xs ordered.1)

-- ---- one backup more

module _ {D : Type 0} (seen members : List (Member D)) (i : ℕ) (x : Member D) (same : seen ≡ members)
    (more : i < length seen) (at : x ≡ get_or seen i x) (memory : MemoryBackup) (its_own : memory ≡ memory_at x) where
  within : i < length members
  within = subst (λ (ms : List (Member D)). i < length ms) same more

  found : x ≡ get_or members i x
  found = at ∙ ap (λ (ms : List (Member D)). get_or ms i x) same

  pub others_more : (keep : ℕ) (old new all : List Spot) → new ≡ old ++ spots_of_others keep (holdings_of i memory)
      → old ++ spots_of_others keep (inventory_at i (drop i members)) ≡ all
      → new ++ spots_of_others keep (inventory_at (i + 1) (drop (i + 1) members)) ≡ all
  others_more keep old new all shown held =
      let left : List Holding = inventory_at (suc i) (drop (i + 1) members) in
      let one : i + 1 ≡ suc i = omega arith in
      let first : inventory_at i (drop i members) ≡ holdings_of i (memory_at x) ++ left =
      at_drop_more (inventory_at i) members i x within
      ∙ ap (λ (y : Member D). holdings_of i (memory_at y) ++ left) (sym found) in
      let here : List Holding = holdings_of i (memory_at x) in
      ap (λ n. new ++ spots_of_others keep (inventory_at n (drop (i + 1) members))) one
      ∙ ap (λ (s : List Spot). s ++ spots_of_others keep left)
      (shown ∙ ap (λ (k : MemoryBackup). old ++ spots_of_others keep (holdings_of i k)) its_own)
      ∙ append_assoc old (spots_of_others keep here) (spots_of_others keep left)
      ∙ ap (λ (s : List Spot). old ++ s) (sym (others_append keep here left))
      ∙ ap (λ (hs : List Holding). old ++ spots_of_others keep hs) (sym first)
      ∙ held

  pub shown_more : (old new all : List Holding) → new ≡ old ++ holdings_of i memory
      → old ++ inventory_at i (drop i members) ≡ all → new ++ inventory_at (i + 1) (drop (i + 1) members) ≡ all
  shown_more old new all shown held =
      let left : List Holding = inventory_at (suc i) (drop (i + 1) members) in
      let one : i + 1 ≡ suc i = omega arith in
      let first : inventory_at i (drop i members) ≡ holdings_of i (memory_at x) ++ left =
      at_drop_more (inventory_at i) members i x within
      ∙ ap (λ (y : Member D). holdings_of i (memory_at y) ++ left) (sym found) in
      ap (λ n. new ++ inventory_at n (drop (i + 1) members)) one
      ∙ ap (λ (hs : List Holding). hs ++ left)
      (shown ∙ ap (λ (k : MemoryBackup). old ++ holdings_of i k) its_own)
      ∙ append_assoc old (holdings_of i (memory_at x)) left
      ∙ ap (λ (hs : List Holding). old ++ hs) (sym first)
      ∙ held

  pub ordered_more : IsInOrder memory → ((k : ℕ) (d : Member D) → k < i → IsInOrder (memory_at (get_or members k d)))
      → (k : ℕ) (d : Member D) → k < i + 1 → IsInOrder (memory_at (get_or members k d))
  ordered_more here before k d less =
      elim (ltb k i) as (λ b. ltb k i ≡ b → IsInOrder (memory_at (get_or members k d))) [
        | true ↦ λ yet. before k d (ltb-true _ _ yet)
        | false ↦ λ past.
            let below : i ≤ k = ltb-false _ _ past in
            let last : i ≡ k = omega arith in
            let is : x ≡ get_or members k d =
            found ∙ get_or_default members i x d within ∙ ap (λ n. get_or members n d) last in
            subst (λ (y : Member D). IsInOrder (memory_at y)) is
            (subst (λ (m : MemoryBackup). IsInOrder m) its_own here)
      ] refl

-- ---- those of other masters

-- the spots of other masters' replicas are those in what the backups show
pub others_at : {D : Type 0} (keep : ℕ) (members : List (Member D)) → AreInOrder members
    → AreOthers (spots_of_others keep (inventory_at 0 members)) (picture_of members) keep
others_at keep members ordered =
    are_others keep (inventory_at 0 members) (picture_of members) (all_shown members ordered)
    (rising_inventory 0 members ordered)
