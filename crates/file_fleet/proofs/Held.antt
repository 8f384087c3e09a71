-- What one backup shows is what the picture has of it.
use Rattle.std.proofs.Common.{◌≡◌, ◌↔◌, ℕ, ◌<◌, List, [], ◌∷◌, length, get_or, map, inl, inr, Bool, true, false, cond}
use Rattle.std.proofs.Common.{Some, refl, sym, ◌∙◌, ap, subst}
use Rattle.std.specs.BTreeMap.{is_at}
use Rattle.std.specs.Cmp.{IsEquivalence, IsTotalOrder, nat_cmp_total, on_total, then_total}
use Rattle.std.specs.List.{All, AllByRecursion, slice_get}
use Rattle.std.specs.List.Sorted.{IsStrictlySortedBy}
use Rattle.std.specs.Map.{keys_of, lookup}
use Rattle.std.specs.Ordering.{eq_by_cmp, nat_cmp}
use Rattle.std.specs.declared.cmp.Ordering.TheVariants.{Equal, Less}
use Rattle.std.proofs.lemmas.Cmp.{eq_by_cmp_equiv, tied_itself}
use Rattle.std.proofs.lemmas.List.Elements.{All-contains, All-map}
use Rattle.std.proofs.lemmas.Map.Entries.{lookup_from_place}
use Rattle.std.proofs.lemmas.Map.Keys.{IsDistinct-from_sorted}
use Rattle.std.proofs.lemmas.Map.Lookups.{CmpEqualImpliesEq, exact_pairs, exact_unsigned}
use Rattle.std.proofs.lemmas.Map.Views.{tells_apart}
use Rattle.std.proofs.lemmas.Option.{same_Some, slice_get-get_or}
use Rattle.entry.specs.Bag.{IsAmong}
use Rattle.entry.proofs.BagLemmas.{among_place}
use Rattle.entry.proofs.ListLemmas.{all_among}
use Rattle.replica.specs.Picture.{IsHeld, IsOnce, Replica}
use Rattle.replica.specs.declared.holding.Holding.{Holding}
use Rattle.backup.specs.Inventory.{IsRising, holding_cmp}
use Rattle.backup.specs.Shelf.{IsInOrder, holding_of, holdings_of, replica_at}
use Rattle.backup.specs.Slots.{AreOrdered, Place, Slots, found_in, place_cmp}
use Rattle.backup.specs.declared.memory.MemoryBackup.{MemoryBackup}
use Rattle.file_backup.specs.Replay.{Replicas, held_in}
use Rattle.file_fleet.specs.Members.{picture_of, replicas_at}
use Rattle.file_fleet.specs.declared.member.Member.{Member}
use Rattle.file_fleet.proofs.Pictures.{seen}

-- ---- one backup

place_total : IsTotalOrder place_cmp
place_total = then_total (on_total (λ p. p.0) nat_cmp_total) (on_total (λ p. p.1) nat_cmp_total)

place_exact : CmpEqualImpliesEq place_cmp
place_exact = exact_pairs nat_cmp nat_cmp exact_unsigned exact_unsigned

laws : IsEquivalence (eq_by_cmp place_cmp)
laws = eq_by_cmp_equiv place_total

-- each replica is found at its place
all_found : (slots : Slots) → AreOrdered slots → (i : ℕ) (d : Place × Replica) → i < length slots
    → found_in slots (get_or slots i d).0 ≡ Some (get_or slots i d).1
all_found slots ordered i d within =
    lookup_from_place laws slots i (get_or slots i d).0 (get_or slots i d).1
    (IsDistinct-from_sorted place_cmp (keys_of slots) ordered) (slice_get-get_or slots i d within)

-- what holds of each element's image holds of each member of the images
image_has : {A B : Type 0} (f : A → B) (Q : B → Type 0) (xs : List A) → All (λ x. Q (f x)) xs → (y : B)
    → IsAmong y (map f xs) → Q y
image_has f Q xs all y among = All-contains Q (map f xs) y (All-map Q f xs all) (among_place y (map f xs) among)

found_at : (b : ℕ) (x : (ℕ × ℕ) × Replica) (xs : List ((ℕ × ℕ) × Replica)) (p : ℕ × ℕ) (r : Replica) (t : Bool)
    → is_at (place_cmp p) x.0 ≡ t
    → cond t (Some x.1) (lookup (is_at (place_cmp p)) xs) ≡ Some r
    → (lookup (is_at (place_cmp p)) xs ≡ Some r → IsAmong (holding_of b (p, r)) (map (holding_of b) xs))
    → IsAmong (holding_of b (p, r)) (holding_of b x ∷ map (holding_of b) xs)
found_at b x xs p r true at e later =
    let place : p ≡ x.0 = tells_apart place_exact p x.0 at in
    inl (ap (λ (q : ℕ × ℕ). holding_of b (q, x.1)) (sym place)
    ∙ ap (λ (v : Replica). holding_of b (p, v)) (same_Some x.1 r e))
found_at b x xs p r false at e later = inr (later e)

-- what a look-up finds is among the images
found_among : (b : ℕ) (es : List ((ℕ × ℕ) × Replica)) (p : ℕ × ℕ) (r : Replica)
    → lookup (is_at (place_cmp p)) es ≡ Some r → IsAmong (holding_of b (p, r)) (map (holding_of b) es)
found_among b [] p r e = (cc)
found_among b (x ∷ xs) p r e = found_at b x xs p r (is_at (place_cmp p) x.0) refl e (found_among b xs p r)

abbrev pub shown_value : Holding → Replica
shown_value h = record { bytes = h.bytes; is_open = h.is_open }

pub among_held : (b : ℕ) (memory : MemoryBackup) → IsInOrder memory → (h : Holding) → IsAmong h (holdings_of b memory)
    → (h.backup ≡ b) × (replica_at memory h.master h.segment ≡ Some (shown_value h))
among_held b memory ordered =
    image_has (holding_of b) (λ h. (h.backup ≡ b) × (replica_at memory h.master h.segment ≡ Some (shown_value h)))
    memory.replicas (λ k d l. (refl, all_found memory.replicas ordered k d l))

pub held_among : (b : ℕ) (memory : MemoryBackup) → (h : Holding) → h.backup ≡ b
    → replica_at memory h.master h.segment ≡ Some (shown_value h) → IsAmong h (holdings_of b memory)
held_among b memory h at held =
    subst (λ k. IsAmong (record {
      backup = k;
      master = h.master;
      segment = h.segment;
      bytes = h.bytes;
      is_open = h.is_open;
    }) (holdings_of b memory)) (sym at)
    (found_among b memory.replicas (h.master, h.segment) (shown_value h) held)

-- ---- in a fleet

pub one_shown : {D : Type 0} (members : List (Member D)) (b : ℕ) (x : Member D) (memory : MemoryBackup)
    → slice_get members b ≡ Some x → held_in memory ≡ replicas_at x → IsInOrder memory → (h : Holding)
    → IsAmong h (holdings_of b memory) ↔ ((h.backup ≡ b) × IsHeld (picture_of members) h)
one_shown members b x memory at holds ordered h = (
  λ among. let held = among_held b memory ordered h among in
      (held.0, sees h.backup held.0 ∙ held.1),
  λ held. held_among b memory h held.0 (sym (sees h.backup held.0) ∙ held.1),
)
  where
    sees : (c : ℕ) → c ≡ b → picture_of members c h.master h.segment ≡ replica_at memory h.master h.segment
    sees c same =
        ap (λ k. picture_of members k h.master h.segment) same
        ∙ ap (λ (p : Replicas). p h.master h.segment) (seen members b x at ∙ sym holds)

-- ---- each once

above_images : (b : ℕ) (x : (ℕ × ℕ) × Replica) (xs : List ((ℕ × ℕ) × Replica))
    → AllByRecursion (λ y. place_cmp x.0 y ≡ Less) (keys_of xs)
    → AllByRecursion (λ h. holding_cmp (holding_of b x) h ≡ Less) (map (holding_of b) xs)
above_images b x [] all = tt
above_images b x (y ∷ ys) all = (rw (tied_itself nat_cmp_total b) all.0, above_images b x ys all.1)

pub rising_images : (b : ℕ) (es : List ((ℕ × ℕ) × Replica)) → IsStrictlySortedBy place_cmp (keys_of es)
    → IsRising (map (holding_of b) es)
unfolding IsStrictlySortedBy
rising_images b [] ordered = tt
rising_images b (x ∷ xs) ordered = (above_images b x xs ordered.0, rising_images b xs ordered.1)

not_above_itself : (h : Holding) → holding_cmp h h ≡ Less → ⊥
not_above_itself h above =
    let e : holding_cmp h h ≡ Equal =
    rw (tied_itself nat_cmp_total h.backup, tied_itself nat_cmp_total h.master, tied_itself nat_cmp_total h.segment)
    refl in
    (cc)

once_from_rising : (hs : List Holding) → IsRising hs → IsOnce hs
unfolding IsStrictlySortedBy
once_from_rising [] rising = tt
once_from_rising (h ∷ hs) rising = (
  λ among. not_above_itself h (all_among (λ g. holding_cmp h g ≡ Less) hs h rising.0 among),
  once_from_rising hs rising.1,
)

-- what a backup shows has nothing twice
pub shown_once : (b : ℕ) (memory : MemoryBackup) → IsInOrder memory → IsOnce (holdings_of b memory)
shown_once b memory ordered = once_from_rising (holdings_of b memory) (rising_images b memory.replicas ordered)
