-- The ids of the next head's digest rise.
use Rattle.std.proofs.Common.{◌≡◌, ℕ, zero, suc, ◌+◌, ◌<◌, ◌≤◌, inl, inr, Bool, true, false, cond, List, [], ◌∷◌, ◌++◌}
use Rattle.std.proofs.Common.{length}
use Rattle.std.proofs.Common.{refl, sym, subst, arith, length-append}
use Rattle.std.specs.Prelude.{nat_lt, slice_index}
use Rattle.std.specs.List.Sorted.{IsStrictlyIncreasing}
use Rattle.std.proofs.lemmas.Bool.Decides.{nat_tests}
use Rattle.entry.specs.Bag.{IsAmong}
use Rattle.entry.specs.Limits.{ids_in}
use Rattle.entry.proofs.LengthLemmas.{length-ids_in, rises_behind}
use Rattle.log_laws.specs.Ids.{has, inserted, all_inserted, without}
use Rattle.log_head.specs.Head.{digest_of}
use Rattle.log_head.specs.Laws.{DigestRises, DigestIsFew}
use Rattle.log_head.proofs.Digests.{above_first, all_out, length_with}

-- the ids rise, from the first number on and below the other
abbrev Rises : ℕ → List ℕ → ℕ → Type 0
Rises low [] high = low ≤ high
Rises low (x ∷ xs) high = (low ≤ x) × Rises (suc x) xs high

rises_lower : (ids : List ℕ) (a b high : ℕ) → a ≤ b → Rises b ids high → Rises a ids high
rises_lower [] a b high le r = omega arith
rises_lower (x ∷ ids) a b high le r = let here = r.0 in (omega arith, r.1)

rises_from : (ids : List ℕ) (low high : ℕ) → IsStrictlyIncreasing (ids ++ high ∷ [])
    → low ≤ slice_index (ids ++ high ∷ []) 0 → Rises low ids high
rises_from [] low high rise le = le
rises_from (x ∷ ids) low high rise le =
    let size = length-append ids (high ∷ []) in
    (le, rises_from ids (suc x) high (λ k lt. next k lt) (rise 0 (omega arith)))
  where
    next : (k : ℕ) → k + 1 < length (ids ++ high ∷ []) → slice_index (ids ++ high ∷ []) k
        < slice_index (ids ++ high ∷ []) (k + 1)
    next k lt = let place : suc k + 1 ≡ suc (k + 1) = omega arith in rw place at (rise (suc k) (omega arith))

rises_then : (ids : List ℕ) (low high : ℕ) → Rises low ids high → IsStrictlyIncreasing (ids ++ high ∷ [])
rises_then [] low high r k lt = absurd (omega arith)
rises_then (x ∷ []) low high r zero lt = r.1
rises_then (x ∷ []) low high r (suc k) lt = absurd (omega arith)
rises_then (x ∷ y ∷ ys) low high r zero lt = r.1.0
rises_then (x ∷ y ∷ ys) low high r (suc k) lt =
    let place : suc k + 1 ≡ suc (k + 1) = omega arith in
    rw place (rises_then (y ∷ ys) (suc x) high r.1 k (omega arith))

rises_without : (victims ids : List ℕ) (low high : ℕ) → Rises low ids high → Rises low (without victims ids) high
rises_without victims [] low high r = r
rises_without victims (x ∷ ids) low high r = go (has victims x) (rises_without victims ids (suc x) high r.1) where
  go : (b : Bool) → Rises (suc x) (without victims ids) high
      → Rises low (cond b (without victims ids) (x ∷ without victims ids)) high
  go true later = let here = r.0 in rises_lower (without victims ids) low (suc x) high (omega arith) later
  go false later = (r.0, later)

rises_inserted : (s : ℕ) (ids : List ℕ) (low high : ℕ) → low ≤ s → s < high → (IsAmong s ids → ⊥) → Rises low ids high
    → Rises low (inserted s ids) high
rises_inserted s [] low high le lt not r = (le, lt)
rises_inserted s (z ∷ ids) low high le lt not r =
    go (nat_lt s z) refl (λ above. rises_inserted s ids (suc z) high above lt (λ m. not (inr m)) r.1)
  where
    go : (b : Bool) → nat_lt s z ≡ b → (suc z ≤ s → Rises (suc z) (inserted s ids) high)
        → Rises low (cond b (s ∷ z ∷ ids) (z ∷ inserted s ids)) high
    go true below later = let test : s < z = grind (arith, nat_tests) in (le, (test, r.1))
    go false above later =
        let other : z ≡ s → ⊥ = λ same. not (inl same) in
        let test : z ≤ s = grind (arith, nat_tests) in
        (r.0, later (omega arith))

-- what isn't among the ids isn't among those that are left
among_left : (victims ids : List ℕ) (s : ℕ) → IsAmong s (without victims ids) → IsAmong s ids
among_left victims [] s m = m
among_left victims (z ∷ ids) s m = go (has victims z) (λ l. among_left victims ids s l) m where
  go : (b : Bool) → (IsAmong s (without victims ids) → IsAmong s ids)
      → IsAmong s (cond b (without victims ids) (z ∷ without victims ids))
      → IsAmong s (z ∷ ids)
  go true later m = inr (later m)
  go false later (inl same) = inl same
  go false later (inr m) = inr (later m)

-- ids that rise come to their places, if they are other ids than those that are there, and below the last
all_rise : (more ids : List ℕ) (high : ℕ) → IsStrictlyIncreasing more → ((s : ℕ) → IsAmong s more → s < high)
    → ((s : ℕ) → IsAmong s more → IsAmong s ids → ⊥) → Rises 0 ids high → Rises 0 (all_inserted more ids) high
all_rise [] ids high rise below not r = r
all_rise (s ∷ more) ids high rise below not r =
    rises_inserted s (all_inserted more ids) 0 high (omega arith) (below s (inl refl))
    (λ m. elim (all_out more ids s m) as (λ _. ⊥) [
      | inl old ↦ not s (inl refl) old
      | inr later ↦ (let lt = above_first s more rise s later in omega arith)
    ])
    (all_rise more ids high (rises_behind s more rise) (λ x m. below x (inr m)) (λ x m. not x (inr m)) r)

pub digest_rises : DigestRises
digest_rises image l id rise others =
    rises_then (all_inserted (ids_in l.survivors.now) (without l.victims.now (digest_of image))) 0 id
    (all_rise (ids_in l.survivors.now) (without l.victims.now (digest_of image)) id others.rise others.below
    (λ s m left. others.outside s m (among_left l.victims.now (digest_of image) s left))
    (rises_without l.victims.now (digest_of image) 0 id (rises_from (digest_of image) 0 id rise (omega arith))))

-- ---- what came in wasn't there

rises_above : (ids : List ℕ) (low high x : ℕ) → Rises low ids high → IsAmong x ids → low ≤ x
rises_above [] low high x r never = absurd never
rises_above (z ∷ ids) low high x r (inl same) = let here = r.0 in omega arith
rises_above (z ∷ ids) low high x r (inr m) =
    let here = r.0 in let later = rises_above ids (suc z) high x r.1 m in omega arith

inserted_here : (s : ℕ) (ids : List ℕ) → IsAmong s (inserted s ids)
inserted_here s [] = inl refl
inserted_here s (z ∷ ids) = go (nat_lt s z) (inserted_here s ids) where
  go : (b : Bool) → IsAmong s (inserted s ids) → IsAmong s (cond b (s ∷ z ∷ ids) (z ∷ inserted s ids))
  go true later = inl refl
  go false later = inr later

inserted_still : (s : ℕ) (ids : List ℕ) (x : ℕ) → IsAmong x ids → IsAmong x (inserted s ids)
inserted_still s [] x never = absurd never
inserted_still s (z ∷ ids) x m = go (nat_lt s z) (λ l. inserted_still s ids x l) m where
  go : (b : Bool) → (IsAmong x ids → IsAmong x (inserted s ids)) → IsAmong x (z ∷ ids)
      → IsAmong x (cond b (s ∷ z ∷ ids) (z ∷ inserted s ids))
  go true later m = inr m
  go false later (inl same) = inl same
  go false later (inr m) = inr (later m)

all_still : (more ids : List ℕ) (x : ℕ) → IsAmong x ids → IsAmong x (all_inserted more ids)
all_still [] ids x m = m
all_still (s ∷ more) ids x m = inserted_still s (all_inserted more ids) x (all_still more ids x m)

-- ids that rise with one more did so without it, and it wasn't among them
rises_before : (s : ℕ) (ids : List ℕ) (low high : ℕ) → Rises low (inserted s ids) high
    → (IsAmong s ids → ⊥) × Rises low ids high
rises_before s [] low high r = (λ never. never, (let here = r.0 in let last : suc s ≤ high = r.1 in omega arith))
rises_before s (z ∷ ids) low high r =
    go (nat_lt s z) (λ l. rises_before s ids (suc z) high l)
    (λ l. rises_above (inserted s ids) (suc z) high s l (inserted_here s ids)) r
  where
    go : (b : Bool)
        → (Rises (suc z) (inserted s ids) high → (IsAmong s ids → ⊥) × Rises (suc z) ids high)
        → (Rises (suc z) (inserted s ids) high → suc z ≤ s)
        → Rises low (cond b (s ∷ z ∷ ids) (z ∷ inserted s ids)) high
        → (IsAmong s (z ∷ ids) → ⊥) × Rises low (z ∷ ids) high
    go true later above r =
        let first = r.0 in
        let next = r.1.0 in (
          λ m. let le = rises_above (z ∷ ids) (suc s) high s r.1 m in omega arith,
          (omega arith, r.1.1),
        )
    go false later above r =
        let before = later r.1 in
        let le = above r.1 in (
          λ m. elim m as (λ _. ⊥) [ inl same ↦ omega arith | inr l ↦ before.0 l ],
          (r.0, before.1),
        )

all_before : (more ids : List ℕ) (high : ℕ) → Rises 0 (all_inserted more ids) high → (s : ℕ) → IsAmong s more
    → IsAmong s ids → ⊥
all_before [] ids high r s never there = never
all_before (x ∷ more) ids high r s (inl same) there =
    (rises_before x (all_inserted more ids) 0 high r).0
    (subst (λ (y : ℕ). IsAmong y (all_inserted more ids)) (sym same) (all_still more ids s there))
all_before (x ∷ more) ids high r s (inr m) there =
    all_before more ids high (rises_before x (all_inserted more ids) 0 high r).1 s m there

-- if all of them rise, none of those that came in was there before
pub others_apart : (more ids : List ℕ) (id : ℕ) → IsStrictlyIncreasing (all_inserted more ids ++ id ∷ []) → (s : ℕ)
    → IsAmong s more → IsAmong s ids → ⊥
others_apart more ids id rise = all_before more ids id (rises_from (all_inserted more ids) 0 id rise (omega arith))

-- ---- their number

length_left : (victims ids : List ℕ) → length (without victims ids) ≤ length ids
length_left victims [] = omega arith
length_left victims (z ∷ ids) = go (has victims z) (length_left victims ids) where
  go : (b : Bool) → length (without victims ids) ≤ length ids
      → length (cond b (without victims ids) (z ∷ without victims ids)) ≤ length (z ∷ ids)
  go true le = omega arith
  go false le = omega arith

pub digest_is_few : DigestIsFew
digest_is_few image l =
    let size = length_with (ids_in l.survivors.now) (without l.victims.now (digest_of image)) in
    let left = length_left l.victims.now (digest_of image) in
    let same = length-ids_in l.survivors.now in
    omega arith
