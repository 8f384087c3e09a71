-- The order of what backups show.
use Rattle.std.proofs.Common.{◌≡◌, ℕ, suc, ◌<◌, ◌≤◌, List, [], ◌∷◌, ◌++◌, map, refl, arith}
use Rattle.std.specs.List.{AllByRecursion}
use Rattle.std.specs.List.Sorted.{IsStrictlySortedBy}
use Rattle.std.specs.Map.{keys_of}
use Rattle.std.specs.declared.cmp.Ordering.TheVariants.{Less, Equal}
use Rattle.std.specs.Cmp.{nat_cmp_total}
use Rattle.std.proofs.lemmas.Bool.{lt-ltb}
use Rattle.std.proofs.lemmas.Cmp.{tied_itself}
use Rattle.entry.proofs.ListLemmas.{all_append, all_weaker, all_among}
use Rattle.replica.specs.Picture.{Replica, IsOnce, label_of}
use Rattle.replica.specs.declared.holding.Holding.{Holding}
use Rattle.backup.specs.declared.memory.MemoryBackup.{MemoryBackup}
use Rattle.backup.specs.Shelf.{holding_of, holdings_of}
use Rattle.backup.specs.Slots.{place_cmp}
use Rattle.backup.specs.Inventory.{holding_cmp, label_cmp, IsRising, AreRising}
use Rattle.backup.proofs.Held.{AreInOrder, inventory_of}

all_backups : (b : ℕ) (es : List ((ℕ × ℕ) × Replica)) → AllByRecursion (λ h. h.backup ≡ b) (map (holding_of b) es)
all_backups b [] = tt
all_backups b (x ∷ xs) = (refl, all_backups b xs)

above_images : (b : ℕ) (x : (ℕ × ℕ) × Replica) (xs : List ((ℕ × ℕ) × Replica))
    → AllByRecursion (λ y. place_cmp x.0 y ≡ Less) (keys_of xs)
    → AllByRecursion (λ h. holding_cmp (holding_of b x) h ≡ Less) (map (holding_of b) xs)
above_images b x [] all = tt
above_images b x (y ∷ ys) all = (rw (tied_itself nat_cmp_total b) all.0, above_images b x ys all.1)

pub rising_none : IsRising []
unfolding IsStrictlySortedBy
rising_none = tt

-- one backup's replicas rise, since its places do
pub rising_images : (b : ℕ) (es : List ((ℕ × ℕ) × Replica)) → IsStrictlySortedBy place_cmp (keys_of es)
    → IsRising (map (holding_of b) es)
unfolding IsStrictlySortedBy
rising_images b [] ordered = tt
rising_images b (x ∷ xs) ordered = (above_images b x xs ordered.0, rising_images b xs ordered.1)

later_backup : (x y : Holding) → x.backup < y.backup → holding_cmp x y ≡ Less
later_backup x y later = rw (lt-ltb x.backup y.backup later) refl

rising_append : (b : ℕ) (xs ys : List Holding) → AllByRecursion (λ h. h.backup ≡ b) xs
    → AllByRecursion (λ h. suc b ≤ h.backup) ys
    → IsRising xs → IsRising ys → IsRising (xs ++ ys)
unfolding IsStrictlySortedBy
rising_append b [] ys here later front back = back
rising_append b (x ∷ xs) ys here later front back = (
  all_append (λ y. holding_cmp x y ≡ Less) xs ys front.0
      (all_weaker (λ h. suc b ≤ h.backup) (λ y. holding_cmp x y ≡ Less)
      (λ y h. later_backup x y (omega (arith, here.0, h))) ys later),
  rising_append b xs ys here.1 later front.1 back,
)

all_from : (b : ℕ) (backups : List MemoryBackup) → AllByRecursion (λ h. b ≤ h.backup) (inventory_of b backups)
all_from b [] = tt
all_from b (x ∷ xs) =
    all_append (λ h. b ≤ h.backup) (holdings_of b x) (inventory_of (suc b) xs)
    (all_weaker (λ h. h.backup ≡ b) (λ h. b ≤ h.backup) (λ h e. omega (arith, e)) (holdings_of b x)
    (all_backups b x.replicas))
    (all_weaker (λ h. suc b ≤ h.backup) (λ h. b ≤ h.backup) (λ h l. omega (arith, l)) (inventory_of (suc b) xs)
    (all_from (suc b) xs))

-- the backups one after another
pub rising_inventory : (b : ℕ) (backups : List MemoryBackup) → AreInOrder backups → IsRising (inventory_of b backups)
unfolding IsStrictlySortedBy
rising_inventory b [] ordered = tt
rising_inventory b (x ∷ xs) ordered =
    rising_append b (holdings_of b x) (inventory_of (suc b) xs) (all_backups b x.replicas) (all_from (suc b) xs)
    (rising_images b x.replicas ordered.0) (rising_inventory (suc b) xs ordered.1)

not_above_itself : (h : Holding) → holding_cmp h h ≡ Less → ⊥
not_above_itself h above =
    let e : holding_cmp h h ≡ Equal =
    rw (tied_itself nat_cmp_total h.backup, tied_itself nat_cmp_total h.master, tied_itself nat_cmp_total h.segment)
    refl in
    (cc)

-- a list that rises has nothing twice
pub IsOnce-from_rising : (hs : List Holding) → IsRising hs → IsOnce hs
unfolding IsStrictlySortedBy
IsOnce-from_rising [] rising = tt
IsOnce-from_rising (h ∷ hs) rising = (
  λ among. not_above_itself h (all_among (λ g. holding_cmp h g ≡ Less) hs h rising.0 among),
  IsOnce-from_rising hs rising.1,
)

-- ---- labels

above_labels : (x : Holding) (xs : List Holding) → AllByRecursion (λ y. holding_cmp x y ≡ Less) xs
    → AllByRecursion (λ l. label_cmp (label_of x) l ≡ Less) (map label_of xs)
above_labels x [] all = tt
above_labels x (y ∷ ys) all = (all.0, above_labels x ys all.1)

-- labels rise as their replicas do
pub rising_labels : (hs : List Holding) → IsRising hs → AreRising (map label_of hs)
unfolding IsStrictlySortedBy
rising_labels [] rising = tt
rising_labels (x ∷ xs) rising = (above_labels x xs rising.0, rising_labels xs rising.1)
