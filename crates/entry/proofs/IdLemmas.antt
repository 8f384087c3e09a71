-- The ids of a digest, one after the other.
use Rattle.std.proofs.Common.{◌≡◌, ℕ, zero, suc, ◌+◌, ◌*◌, ◌-◌, ◌^◌, ◌<◌, ◌≤◌, true, List, []}
use Rattle.std.proofs.Common.{◌∷◌, ◌++◌, length, refl, ap, append_assoc, add-zero, arith}
use Rattle.std.specs.Prelude.{slice_index, slice_get, Some, ◌&&◌, nat_lt}
use Rattle.std.specs.List.{flat_map}
use Rattle.std.specs.List.Sorted.{IsStrictlyIncreasing}
use Rattle.std.proofs.lemmas.List.{append-nil}
use Rattle.std.proofs.lemmas.Bool.{ltb-true, and_parts}
use Rattle.entry.specs.Key.{IsBytes}
use Rattle.entry.specs.Format.{number_bytes, number_at, ids_at, rises}
use Rattle.entry.proofs.Numbers.{number_at-lt, width-8, Fronts, Fronts-number}

-- the next id, and those after it
pub ids_at-step : (count i : ℕ) (bytes : List ℕ) → i < count
    → ids_at (count - i) (5 + 8 * i) bytes
    ≡ number_at 8 (5 + 8 * i) bytes ∷ ids_at (count - (i + 1)) (5 + 8 * (i + 1)) bytes
ids_at-step count i bytes lt =
    let more : count - i ≡ suc (count - (i + 1)) = omega arith in
    let at : 5 + 8 * i + 8 ≡ 5 + 8 * (i + 1) = omega arith in
    rw (more, at) refl

-- the test of an id and the one before it, and those after it
pub rises-step : (count i : ℕ) (bytes : List ℕ) → 1 ≤ i → i < count
    → rises (ids_at (count - (i - 1)) (5 + 8 * (i - 1)) bytes)
    ≡ (nat_lt (number_at 8 (5 + 8 * (i - 1)) bytes) (number_at 8 (5 + 8 * i) bytes)
    && rises (ids_at (count - i) (5 + 8 * i) bytes))
rises-step count i bytes some lt =
    let here : i - 1 + 1 ≡ i = omega arith in
    let before = ids_at-step count (i - 1) bytes (omega arith) in
    let after = ids_at-step count i bytes lt in
    rw (before, here, after) refl

pub length-ids_at : (count at : ℕ) (bytes : List ℕ) → length (ids_at count at bytes) ≡ count
length-ids_at zero at bytes = refl
length-ids_at (suc count) at bytes = ap (λ (n : ℕ). suc n) (length-ids_at count (at + 8) bytes)

pub ids_at-lt : (count at : ℕ) (bytes : List ℕ) → IsBytes bytes → (i : ℕ)
    → slice_index (ids_at count at bytes) i < 2 ^ 64
ids_at-lt zero at bytes fits i = omega arith
ids_at-lt (suc count) at bytes fits zero = number_at-lt 8 at bytes fits
ids_at-lt (suc count) at bytes fits (suc i) = ids_at-lt count (at + 8) bytes fits i

pub increasing-from_rises : (ids : List ℕ) → rises ids ≡ true → IsStrictlyIncreasing ids
increasing-from_rises [] e k lt = absurd (omega arith)
increasing-from_rises (x ∷ []) e k lt = absurd (omega arith)
increasing-from_rises (x ∷ y ∷ ys) e zero lt = ltb-true x y (and_parts (nat_lt x y) (rises (y ∷ ys)) e).0
increasing-from_rises (x ∷ y ∷ ys) e (suc k) lt =
    let next : suc k + 1 ≡ suc (k + 1) = omega arith in
    rw next (increasing-from_rises (y ∷ ys) (and_parts (nat_lt x y) (rises (y ∷ ys)) e).1 k (omega arith))

-- the bytes of the ids there
pub Fronts-ids : (count at : ℕ) (bytes text : List ℕ) → IsBytes bytes → Fronts bytes at text
    → at + 8 * count ≤ length bytes
    → Fronts bytes (at + 8 * count) (text ++ flat_map (number_bytes 8) (ids_at count at bytes))
Fronts-ids zero at bytes text fits front le = rw (add-zero, append-nil) front
Fronts-ids (suc count) at bytes text fits front le =
    let one = Fronts-number 8 at bytes text (number_at 8 at bytes) width-8 fits front (omega arith) refl in
    let rest = Fronts-ids count (at + 8) bytes (text ++ number_bytes 8 (number_at 8 at bytes)) fits one (omega arith) in
    let same : at + 8 * suc count ≡ at + 8 + 8 * count = omega arith in
    rw (same, ← append_assoc) rest

-- one id, by its place
pub slice_get-ids_at : (count at i : ℕ) (bytes : List ℕ) → i < count
    → slice_get (ids_at count at bytes) i ≡ Some (number_at 8 (at + 8 * i) bytes)
slice_get-ids_at zero at i bytes lt = absurd (omega arith)
slice_get-ids_at (suc count) at zero bytes lt = rw add-zero refl
slice_get-ids_at (suc count) at (suc i) bytes lt =
    let place : at + 8 * suc i ≡ at + 8 + 8 * i = omega arith in
    rw place (slice_get-ids_at count (at + 8) i bytes (omega arith))
