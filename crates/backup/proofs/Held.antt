-- Which replicas a backup shows.
use Rattle.std.proofs.Common.{◌≡◌, ℕ, zero, suc, ◌+◌, ◌<◌, ◌≤◌, ltb, arith, List, length, drop}
use Rattle.std.proofs.Common.{get_or, append_assoc, [], ◌∷◌, ◌++◌, map, Bool, true, false, cond}
use Rattle.std.proofs.Common.{Some, refl, sym, ◌∙◌, ap, subst, inl, inr, ◌↔◌}
use Rattle.std.specs.Prelude.{Option, IsSome, Result, Ok, Err, OnErr}
use Rattle.std.specs.Map.{lookup}
use Rattle.std.specs.List.{All, AllByRecursion, slice_get}
use Rattle.std.specs.BTreeMap.{is_at}
use Rattle.std.proofs.lemmas.List.Elements.{All-contains, All-map}
use Rattle.std.proofs.lemmas.Map.Views.{tells_apart}
use Rattle.std.proofs.lemmas.Option.{same_Some, slice_get_read}
use Rattle.std.proofs.lemmas.List.{at_drop_more, get_or_default}
use Rattle.std.proofs.lemmas.Bool.{ltb-true, ltb-false}
use Rattle.entry.specs.Bag.{IsAmong}
use Rattle.entry.proofs.BagLemmas.{among_place, among_left, among_right, among_either}
use Rattle.replica.specs.Picture.{Replica, Picture, AreHeld, IsHeld}
use Rattle.replica.specs.declared.holding.Holding.{Holding}
use Rattle.backup.specs.declared.memory.MemoryBackup.{MemoryBackup}
use Rattle.backup.specs.Shelf.{replica_at, holding_of, holdings_of, IsInOrder}
use Rattle.backup.specs.Slots.{place_cmp}
use Rattle.backup.specs.State.{replica_on, picture_of, HoldsAny, HoldsSome}
use Rattle.backup.proofs.Places.{place_exact}
use Rattle.backup.proofs.Shelves.{all_found}

-- what holds of each element's image holds of each member of the images
pub image_has : {A B : Type 0} (f : A → B) (Q : B → Type 0) (xs : List A) → All (λ x. Q (f x)) xs → (y : B)
    → IsAmong y (map f xs) → Q y
image_has f Q xs all y among = All-contains Q (map f xs) y (All-map Q f xs all) (among_place y (map f xs) among)

found_at : (b : ℕ) (x : (ℕ × ℕ) × Replica) (xs : List ((ℕ × ℕ) × Replica)) (p : ℕ × ℕ) (r : Replica) (t : Bool)
    → is_at (place_cmp p) x.0 ≡ t
    → cond t (Some x.1) (lookup (is_at (place_cmp p)) xs) ≡ Some r
    → (lookup (is_at (place_cmp p)) xs ≡ Some r → IsAmong (holding_of b (p, r)) (map (holding_of b) xs))
    → IsAmong (holding_of b (p, r)) (holding_of b x ∷ map (holding_of b) xs)
found_at b x xs p r true at e later =
    let place : p ≡ x.0 = tells_apart place_exact p x.0 at in
    inl (ap (λ (q : ℕ × ℕ). holding_of b (q, x.1)) (sym place)
    ∙ ap (λ (v : Replica). holding_of b (p, v)) (same_Some x.1 r e))
found_at b x xs p r false at e later = inr (later e)

-- what a look-up finds is among the images
pub found_among : (b : ℕ) (es : List ((ℕ × ℕ) × Replica)) (p : ℕ × ℕ) (r : Replica)
    → lookup (is_at (place_cmp p)) es ≡ Some r → IsAmong (holding_of b (p, r)) (map (holding_of b) es)
found_among b [] p r e = (cc)
found_among b (x ∷ xs) p r e = found_at b x xs p r (is_at (place_cmp p) x.0) refl e (found_among b xs p r)

-- the backup shows a replica exactly if it holds it
abbrev pub shown_value : Holding → Replica
shown_value h = record { bytes = h.bytes; is_open = h.is_open }

pub among_held : (b : ℕ) (memory : MemoryBackup) → IsInOrder memory → (h : Holding) → IsAmong h (holdings_of b memory)
    → (h.backup ≡ b) × (replica_at memory h.master h.segment ≡ Some (shown_value h))
among_held b memory ordered =
    image_has (holding_of b) (λ h. (h.backup ≡ b) × (replica_at memory h.master h.segment ≡ Some (shown_value h)))
    memory.replicas (λ k d l. (refl, all_found memory.replicas ordered k d l))

pub held_among : (b : ℕ) (memory : MemoryBackup) → (h : Holding) → h.backup ≡ b
    → replica_at memory h.master h.segment ≡ Some (shown_value h) → IsAmong h (holdings_of b memory)
held_among b memory h at held =
    subst (λ k. IsAmong (record {
      backup = k;
      master = h.master;
      segment = h.segment;
      bytes = h.bytes;
      is_open = h.is_open;
    }) (holdings_of b memory)) (sym at)
    (found_among b memory.replicas (h.master, h.segment) (shown_value h) held)

-- a list of backups, each in order
abbrev pub AreInOrder : List MemoryBackup → Type 0
AreInOrder backups = AllByRecursion IsInOrder backups

-- what backups show, if the first has this number
abbrev pub inventory_of : ℕ → List MemoryBackup → List Holding
inventory_of b [] = []
inventory_of b (x ∷ xs) = holdings_of b x ++ inventory_of (suc b) xs

-- a replica on the i-th of these backups
pub record IsOn (backups : List MemoryBackup) (b : ℕ) (h : Holding) : Type 0 where
  pub i : ℕ
  pub backup : h.backup ≡ b + i
  pub held : replica_on (slice_get backups i) h.master h.segment ≡ Some (shown_value h)

pub among_inventory : (b : ℕ) (backups : List MemoryBackup) → AreInOrder backups → (h : Holding)
    → IsAmong h (inventory_of b backups) → IsOn backups b h
among_inventory b [] ordered h among = absurd among
among_inventory b (x ∷ xs) ordered h among =
    elim (among_either h (holdings_of b x) (inventory_of (suc b) xs) among) [
      | inl here ↦ let held = among_held b x ordered.0 h here in
          record { i = 0; backup = omega (arith, held.0); held = held.1 }
      | inr later ↦ let on = among_inventory (suc b) xs ordered.1 h later in
          record { i = suc on.i; backup = omega (arith, on.backup); held = on.held }
    ]

pub inventory_among : (b : ℕ) (backups : List MemoryBackup) (h : Holding) (i : ℕ) → h.backup ≡ b + i
    → replica_on (slice_get backups i) h.master h.segment ≡ Some (shown_value h) → IsAmong h (inventory_of b backups)
inventory_among b [] h i at held = (cc)
inventory_among b (x ∷ xs) h zero at held =
    among_left h (holdings_of b x) (inventory_of (suc b) xs) (held_among b x h (omega arith) held)
inventory_among b (x ∷ xs) h (suc i) at held =
    among_right h (holdings_of b x) (inventory_of (suc b) xs) (inventory_among (suc b) xs h i (omega arith) held)

-- what one backup shows is what the picture has there
pub one_shown : (backups : List MemoryBackup) (b : ℕ) (x : MemoryBackup) → slice_get backups b ≡ Some x → IsInOrder x
    → (h : Holding)
    → IsAmong h (holdings_of b x) ↔ ((h.backup ≡ b) × IsHeld (picture_of backups) h)
one_shown backups b x is ordered h = (
  λ among. let held = among_held b x ordered h among in
      (held.0, rw (held.0, is) held.1),
  λ held. held_among b x h held.0 (rw (held.0, is) at held.1),
)

-- a backup that shows something holds a replica
pub some_held : (backups : List MemoryBackup) (b : ℕ) (x : MemoryBackup) → slice_get backups b ≡ Some x → IsInOrder x
    → 0 < length (holdings_of b x) → HoldsSome (picture_of backups) b
some_held backups b x is ordered some = go x.replicas refl some
  where
    go : (es : List ((ℕ × ℕ) × Replica)) → x.replicas ≡ es → 0 < length (map (holding_of b) es)
        → HoldsSome (picture_of backups) b
    go [] e more = absurd (omega (arith, more))
    go (k ∷ ks) e more =
        let among : IsAmong (holding_of b k) (holdings_of b x) =
        subst (λ (rs : List ((ℕ × ℕ) × Replica)). IsAmong (holding_of b k) (map (holding_of b) rs)) (sym e)
        (inl refl) in
        let held = ((one_shown backups b x is ordered (holding_of b k)).0 among).1 in
        (k.0.0, k.0.1, subst (λ (r : Option Replica). IsSome r) (sym held) refl)

-- if all backups show something, one of them holds a replica
pub any_held : (hs : List Holding) (p : Picture) → AreHeld hs p → 0 < length hs → HoldsAny p
any_held [] p held some = absurd (omega (arith, some))
any_held (h ∷ hs) p held some =
    (h.backup, (h.master, h.segment, subst (λ (r : Option Replica). IsSome r) (sym ((held h).0 (inl refl))) refl))

-- what a refusal has whatever it is
pub on_err : {A B X : Type 0} (r : Result A B) → X → OnErr r X
on_err (Ok a) x = tt
on_err (Err e) x = x

-- what is not Ok is refused
pub of_err : {A B X : Type 0} (r : Result A B) → ((a : A) → r ≡ Ok a → ⊥) → OnErr r X → X
of_err (Ok a) other x = absurd (other a refl)
of_err (Err e) other x = x

-- what all backups show is the picture
pub all_shown : (backups : List MemoryBackup) → AreInOrder backups → (h : Holding)
    → IsAmong h (inventory_of 0 backups) ↔ IsHeld (picture_of backups) h
all_shown backups ordered h = (
  λ among. let on = among_inventory 0 backups ordered h among in
      let at : h.backup ≡ on.i = omega (arith, on.backup) in
      rw at on.held,
  λ held. inventory_among 0 backups h h.backup (omega arith) held,
)

-- one backup more is shown
module _ (seen backups : List MemoryBackup) (i : ℕ) (x : MemoryBackup) (same : seen ≡ backups) (more : i < length seen)
    (at : x ≡ get_or seen i x) where
  within : i < length backups
  within = subst (λ (ms : List MemoryBackup). i < length ms) same more

  found : x ≡ get_or backups i x
  found = at ∙ ap (λ (ms : List MemoryBackup). get_or ms i x) same

  pub is_there : slice_get backups i ≡ Some x
  is_there = slice_get_read backups (length backups) i x refl within found

  pub shown_more : (old new all : List Holding) → new ≡ old ++ holdings_of i x
      → old ++ inventory_of i (drop i backups) ≡ all →
      new ++ inventory_of (i + 1) (drop (i + 1) backups) ≡ all
  shown_more old new all shown held =
      let left : List Holding = inventory_of (suc i) (drop (i + 1) backups) in
      let one : i + 1 ≡ suc i = omega arith in
      let first : inventory_of i (drop i backups) ≡ holdings_of i x ++ left =
      at_drop_more (inventory_of i) backups i x within
      ∙ ap (λ (y : MemoryBackup). holdings_of i y ++ left) (sym found) in
      ap (λ n. new ++ inventory_of n (drop (i + 1) backups)) one
      ∙ ap (λ (hs : List Holding). hs ++ left) shown
      ∙ append_assoc old (holdings_of i x) left
      ∙ ap (λ (hs : List Holding). old ++ hs) (sym first)
      ∙ held

  pub ordered_more : IsInOrder x → ((k : ℕ) (d : MemoryBackup) → k < i → IsInOrder (get_or backups k d)) →
      (k : ℕ) (d : MemoryBackup) → k < i + 1 → IsInOrder (get_or backups k d)
  ordered_more here before k d less =
      elim (ltb k i) as (λ b. ltb k i ≡ b → IsInOrder (get_or backups k d)) [
        | true ↦ λ yet. before k d (ltb-true _ _ yet)
        | false ↦ λ past.
            let below : i ≤ k = ltb-false _ _ past in
            let last : i ≡ k = omega arith in
            let is : x ≡ get_or backups k d =
            found ∙ get_or_default backups i x d within ∙ ap (λ n. get_or backups n d) last in
            subst IsInOrder is here
      ] refl
