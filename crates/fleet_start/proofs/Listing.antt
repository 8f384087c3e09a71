-- What all backups that were found show.
use Rattle.std.proofs.Common.{◌≡◌, ◌↔◌, ℕ, zero, suc, ◌+◌, ◌<◌, ◌≤◌, ltb, List, [], ◌∷◌, ◌++◌, length, drop}
use Rattle.std.proofs.Common.{get_or, append_assoc, true, false, Option, None, Some, refl, sym, ◌∙◌, ap, subst, inl}
use Rattle.std.proofs.Common.{inr}
use Rattle.std.proofs.Common.{arith}
use Rattle.std.specs.List.{AllByRecursion, slice_get}
use Rattle.std.specs.List.Sorted.{IsStrictlySortedBy}
use Rattle.std.proofs.lemmas.Bool.{ltb-false, ltb-true}
use Rattle.std.proofs.lemmas.List.{append-nil, at_drop_more, get_or_default}
use Rattle.entry.specs.Bag.{IsAmong}
use Rattle.entry.proofs.BagLemmas.{among_either, among_left, among_right}
use Rattle.entry.proofs.ListLemmas.{all_append, all_weaker}
use Rattle.replica.specs.Picture.{IsHeld}
use Rattle.replica.specs.declared.holding.Holding.{Holding}
use Rattle.backup.specs.Inventory.{IsRising}
use Rattle.backup.specs.Shelf.{IsInOrder, holdings_of}
use Rattle.backup.specs.declared.memory.MemoryBackup.{MemoryBackup}
use Rattle.file_fleet.specs.declared.member.Member.{Member}
use Rattle.file_fleet.proofs.Held.{among_held, held_among, rising_images, shown_value}
use Rattle.file_fleet.proofs.Inventory.{all_backups, memory_at, rising_append}
use Rattle.fleet_start.specs.Found.{picture_found, replica_in}

abbrev pub IsOrdered : {D : Type 0} → Option (Member D) → Type 0
IsOrdered None = Unit {0}
IsOrdered (Some h) = IsInOrder (memory_at h)

-- what one place shows, if it has this number
abbrev pub shown_at : {D : Type 0} → ℕ → Option (Member D) → List Holding
shown_at b None = []
shown_at b (Some h) = holdings_of b (memory_at h)

-- what the places show, if the first has this number
abbrev pub list_at : {D : Type 0} → ℕ → List (Option (Member D)) → List Holding
list_at b [] = []
list_at b (p ∷ ps) = shown_at b p ++ list_at (suc b) ps

abbrev pub AreOrdered : {D : Type 0} → List (Option (Member D)) → Type 0
AreOrdered {D} places = AllByRecursion (λ (p : Option (Member D)). IsOrdered p) places

-- ---- which replicas

record IsOn {D : Type 0} (places : List (Option (Member D))) (b : ℕ) (h : Holding) : Type 0 where
  pub i : ℕ
  pub backup : h.backup ≡ b + i
  pub held : replica_in (slice_get places i) h.master h.segment ≡ Some (shown_value h)

on_first : {D : Type 0} (b : ℕ) (p : Option (Member D)) (ps : List (Option (Member D))) → IsOrdered p → (h : Holding)
    → IsAmong h (shown_at b p) → IsOn (p ∷ ps) b h
on_first b None ps ordered h among = absurd among
on_first b (Some x) ps ordered h among = let held = among_held b (memory_at x) ordered h among in
    record { i = 0; backup = omega (arith, held.0); held = held.1 }

among_list : {D : Type 0} (b : ℕ) (places : List (Option (Member D))) → AreOrdered places → (h : Holding)
    → IsAmong h (list_at b places) → IsOn places b h
among_list b [] ordered h among = absurd among
among_list b (p ∷ ps) ordered h among =
    elim (among_either h (shown_at b p) (list_at (suc b) ps) among) as (λ _. IsOn (p ∷ ps) b h) [
      | inl here ↦ on_first b p ps ordered.0 h here
      | inr later ↦ let on = among_list (suc b) ps ordered.1 h later in
          record { i = suc on.i; backup = omega (arith, on.backup); held = on.held }
    ]

first_among : {D : Type 0} (b : ℕ) (p : Option (Member D)) (h : Holding) → h.backup ≡ b
    → replica_in (Some p) h.master h.segment ≡ Some (shown_value h) → IsAmong h (shown_at b p)
first_among b None h at held = (cc)
first_among b (Some x) h at held = held_among b (memory_at x) h at held

list_among : {D : Type 0} (b : ℕ) (places : List (Option (Member D))) (h : Holding) (i : ℕ) → h.backup ≡ b + i
    → replica_in (slice_get places i) h.master h.segment ≡ Some (shown_value h) → IsAmong h (list_at b places)
list_among b [] h i at held = (cc)
list_among b (p ∷ ps) h zero at held =
    among_left h (shown_at b p) (list_at (suc b) ps) (first_among b p h (omega (arith, at)) held)
list_among b (p ∷ ps) h (suc i) at held =
    among_right h (shown_at b p) (list_at (suc b) ps) (list_among (suc b) ps h i (omega (arith, at)) held)

pub all_listed : {D : Type 0} (places : List (Option (Member D))) → AreOrdered places → (h : Holding)
    → IsAmong h (list_at 0 places) ↔ IsHeld (picture_found places) h
all_listed places ordered h = (
  λ among. let on = among_list 0 places ordered h among in
      let at : h.backup ≡ on.i = omega (arith, on.backup) in
      rw at on.held,
  λ held. list_among 0 places h h.backup (omega arith) held,
)

-- ---- their order

all_of_one : {D : Type 0} (b : ℕ) (p : Option (Member D)) → AllByRecursion (λ h. h.backup ≡ b) (shown_at b p)
all_of_one b None = tt
all_of_one b (Some x) = all_backups b (memory_at x).replicas

all_from : {D : Type 0} (b : ℕ) (places : List (Option (Member D)))
    → AllByRecursion (λ h. b ≤ h.backup) (list_at b places)
all_from b [] = tt
all_from b (p ∷ ps) =
    all_append (λ h. b ≤ h.backup) (shown_at b p) (list_at (suc b) ps)
    (all_weaker (λ h. h.backup ≡ b) (λ h. b ≤ h.backup) (λ h e. omega (arith, e)) (shown_at b p) (all_of_one b p))
    (all_weaker (λ h. suc b ≤ h.backup) (λ h. b ≤ h.backup) (λ h l. omega (arith, l)) (list_at (suc b) ps)
    (all_from (suc b) ps))

rising_one : {D : Type 0} (b : ℕ) (p : Option (Member D)) → IsOrdered p → IsRising (shown_at b p)
unfolding IsStrictlySortedBy
rising_one b None ordered = tt
rising_one b (Some x) ordered = rising_images b (memory_at x).replicas ordered

pub rising_list : {D : Type 0} (b : ℕ) (places : List (Option (Member D))) → AreOrdered places
    → IsRising (list_at b places)
unfolding IsStrictlySortedBy
rising_list b [] ordered = tt
rising_list b (p ∷ ps) ordered =
    rising_append b (shown_at b p) (list_at (suc b) ps) (all_of_one b p) (all_from (suc b) ps)
    (rising_one b p ordered.0) (rising_list (suc b) ps ordered.1)

-- ---- one place

pub shows_one : {D : Type 0} (i : ℕ) (p : Option (Member D)) (h : Member D) (memory : MemoryBackup) → p ≡ Some h
    → memory ≡ memory_at h → (old new : List Holding) → new ≡ old ++ holdings_of i memory → new ≡ old ++ shown_at i p
shows_one {D} i p h memory is its_own old new shown =
    shown ∙ ap (λ (m : MemoryBackup). old ++ holdings_of i m) its_own
    ∙ ap (λ (q : Option (Member D)). old ++ shown_at i q) (sym is)

pub ordered_one : {D : Type 0} (p : Option (Member D)) (h : Member D) (memory : MemoryBackup) → p ≡ Some h
    → memory ≡ memory_at h → IsInOrder memory → IsOrdered p
ordered_one {D} p h memory is its_own ordered =
    subst (λ (q : Option (Member D)). IsOrdered q) (sym is)
    (subst (λ (m : MemoryBackup). IsInOrder m) its_own ordered)

pub shows_none : {D : Type 0} (i : ℕ) (p : Option (Member D)) → p ≡ None → (old : List Holding)
    → old ≡ old ++ shown_at i p
shows_none {D} i p is old =
    sym (append-nil old) ∙ ap (λ (q : Option (Member D)). old ++ shown_at i q) (sym is)

pub ordered_none : {D : Type 0} (p : Option (Member D)) → p ≡ None → IsOrdered p
ordered_none {D} p is = subst (λ (q : Option (Member D)). IsOrdered q) (sym is) tt

-- ---- one place more

module _ {D : Type 0} (seen places : List (Option (Member D))) (i : ℕ) (p : Option (Member D)) (same : seen ≡ places)
    (more : i < length seen) (at : p ≡ get_or seen i p) where
  within : i < length places
  within = subst (λ (ps : List (Option (Member D))). i < length ps) same more

  found : p ≡ get_or places i p
  found = at ∙ ap (λ (ps : List (Option (Member D))). get_or ps i p) same

  pub listed_more : (old new all : List Holding) → new ≡ old ++ shown_at i p
      → old ++ list_at i (drop i places) ≡ all → new ++ list_at (i + 1) (drop (i + 1) places) ≡ all
  listed_more old new all shown held =
      let left : List Holding = list_at (suc i) (drop (i + 1) places) in
      let one : i + 1 ≡ suc i = omega arith in
      let first : list_at i (drop i places) ≡ shown_at i p ++ left =
      at_drop_more (list_at i) places i p within
      ∙ ap (λ (q : Option (Member D)). shown_at i q ++ left) (sym found) in
      ap (λ n. new ++ list_at n (drop (i + 1) places)) one
      ∙ ap (λ (hs : List Holding). hs ++ left) shown
      ∙ append_assoc old (shown_at i p) left
      ∙ ap (λ (hs : List Holding). old ++ hs) (sym first)
      ∙ held

  pub ordered_more : IsOrdered p
      → ((k : ℕ) (d : Option (Member D)) → k < i → IsOrdered (get_or places k d))
      → (k : ℕ) (d : Option (Member D)) → k < i + 1 → IsOrdered (get_or places k d)
  ordered_more here before k d less =
      elim (ltb k i) as (λ b. ltb k i ≡ b → IsOrdered (get_or places k d)) [
        | true ↦ λ yet. before k d (ltb-true _ _ yet)
        | false ↦ λ past.
            let below : i ≤ k = ltb-false _ _ past in
            let last : i ≡ k = omega arith in
            let is : p ≡ get_or places k d =
            found ∙ get_or_default places i p d within ∙ ap (λ n. get_or places n d) last in
            subst (λ (q : Option (Member D)). IsOrdered q) is here
      ] refl
