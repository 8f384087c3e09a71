-- The listed segments of a digest with lengths, one after the other.
use Rattle.std.proofs.Common.{◌≡◌, ℕ, zero, suc, ◌+◌, ◌*◌, ◌-◌, ◌^◌, ◌<◌, ◌≤◌, true, false, List, []}
use Rattle.std.proofs.Common.{◌∷◌, ◌++◌, length, refl, ap, append_assoc, add-zero, eq-eqb, arith}
use Rattle.std.specs.Prelude.{slice_get, Some, ◌&&◌, ◌==◌, nat_lt, nat_le}
use Rattle.std.specs.List.{flat_map}
use Rattle.std.specs.List.Sorted.{IsStrictlyIncreasing}
use Rattle.std.proofs.lemmas.List.{append-nil}
use Rattle.std.proofs.lemmas.Bool.{ltb-true, leb-true, and_parts}
use Rattle.std.proofs.lemmas.Bool.Decides.{nat_tests}
use Rattle.std.proofs.lemmas.Option.{same_Some}
use Rattle.entry.specs.declared.digest.Listed.{Listed}
use Rattle.entry.specs.Key.{IsBytes}
use Rattle.entry.specs.Limits.{ids_in, IsListed, AreLengths}
use Rattle.entry.specs.Format.{number_bytes, number_at, listed_bytes, is_within, listed_at, are_listed}
use Rattle.entry.specs.Text.{len_in}
use Rattle.entry.proofs.Numbers.{number_at-lt, width-8, Fronts, Fronts-number}

-- the listed segment at a place of the bytes
abbrev pub listed_there : ℕ → List ℕ → Listed
listed_there at bytes = record { id = number_at 8 at bytes; len = number_at 8 (at + 8) bytes }

-- the next one, and those after it
pub listed_at-step : (count i : ℕ) (bytes : List ℕ) → i < count
    → listed_at (count - i) (5 + 16 * i) bytes
    ≡ listed_there (5 + 16 * i) bytes ∷ listed_at (count - (i + 1)) (5 + 16 * (i + 1)) bytes
listed_at-step count i bytes lt =
    let more : count - i ≡ suc (count - (i + 1)) = omega arith in
    let at : 5 + 16 * i + 16 ≡ 5 + 16 * (i + 1) = omega arith in
    rw (more, at) refl

-- the tests of one, and those of the others after it
pub are_listed-step : (count i : ℕ) (bytes : List ℕ) → 1 ≤ i → i < count
    → are_listed (listed_at (count - (i - 1)) (5 + 16 * (i - 1)) bytes)
    ≡ (is_within 18 8388608 (number_at 8 (5 + 16 * (i - 1) + 8) bytes)
    && (nat_lt (number_at 8 (5 + 16 * (i - 1)) bytes) (number_at 8 (5 + 16 * i) bytes)
    && are_listed (listed_at (count - i) (5 + 16 * i) bytes)))
are_listed-step count i bytes some lt =
    let here : i - 1 + 1 ≡ i = omega arith in
    let before = listed_at-step count (i - 1) bytes (omega arith) in
    let after = listed_at-step count i bytes lt in
    rw (before, here, after) refl

pub length-listed_at : (count at : ℕ) (bytes : List ℕ) → length (listed_at count at bytes) ≡ count
length-listed_at zero at bytes = refl
length-listed_at (suc count) at bytes = ap (λ (n : ℕ). suc n) (length-listed_at count (at + 16) bytes)

pub length-ids_in : (segments : List Listed) → length (ids_in segments) ≡ length segments
length-ids_in [] = refl
length-ids_in (s ∷ ss) = ap (λ (n : ℕ). suc n) (length-ids_in ss)

-- ---- the tests, and what they say

first_within : (s : Listed) (ss : List Listed) → are_listed (s ∷ ss) ≡ true → is_within 18 8388608 s.len ≡ true
first_within s [] e = e
first_within s (t ∷ ss) e = (and_parts (is_within 18 8388608 s.len) (nat_lt s.id t.id && are_listed (t ∷ ss)) e).0

others_listed : (s : Listed) (ss : List Listed) → are_listed (s ∷ ss) ≡ true → are_listed ss ≡ true
others_listed s [] e = refl
others_listed s (t ∷ ss) e =
    let behind = (and_parts (is_within 18 8388608 s.len) (nat_lt s.id t.id && are_listed (t ∷ ss)) e).1 in
    (and_parts (nat_lt s.id t.id) (are_listed (t ∷ ss)) behind).1

next_above : (s t : Listed) (ss : List Listed) → are_listed (s ∷ t ∷ ss) ≡ true → s.id < t.id
next_above s t ss e =
    let behind = (and_parts (is_within 18 8388608 s.len) (nat_lt s.id t.id && are_listed (t ∷ ss)) e).1 in
    ltb-true s.id t.id (and_parts (nat_lt s.id t.id) (are_listed (t ∷ ss)) behind).0

pub increasing-from_listed : (ss : List Listed) → are_listed ss ≡ true → IsStrictlyIncreasing (ids_in ss)
increasing-from_listed [] e k lt = absurd (omega arith)
increasing-from_listed (s ∷ []) e k lt = absurd (omega arith)
increasing-from_listed (s ∷ t ∷ ss) e zero lt = next_above s t ss e
increasing-from_listed (s ∷ t ∷ ss) e (suc k) lt =
    let next : suc k + 1 ≡ suc (k + 1) = omega arith in
    rw next (increasing-from_listed (t ∷ ss) (others_listed s (t ∷ ss) e) k (omega arith))

-- what is listed, if its id is a number of eight bytes
listed_from : (s : Listed) → is_within 18 8388608 s.len ≡ true → s.id < 2 ^ 64 → IsListed s
listed_from s e fits =
    let tests = and_parts (nat_le 18 s.len) (nat_le s.len 8388608) e in
    record { id = fits; least = leb-true 18 s.len tests.0; greatest = leb-true s.len 8388608 tests.1 }

pub each_listed : (ss : List Listed) → are_listed ss ≡ true
    → ((i : ℕ) (s : Listed) → slice_get ss i ≡ Some s → s.id < 2 ^ 64)
    → (i : ℕ) (s : Listed) → slice_get ss i ≡ Some s → IsListed s
each_listed [] e fits i s is = absurd (cc)
each_listed (x ∷ xs) e fits zero s is =
    let same : x ≡ s = cc in rw (← same) (listed_from x (first_within x xs e) (fits 0 x refl))
each_listed (x ∷ xs) e fits (suc i) s is =
    each_listed xs (others_listed x xs e) (λ j t at. fits (suc j) t at) i s is

pub listed_at-lt : (count at : ℕ) (bytes : List ℕ) → IsBytes bytes → (i : ℕ) (s : Listed)
    → slice_get (listed_at count at bytes) i ≡ Some s → s.id < 2 ^ 64
listed_at-lt zero at bytes fits i s is = absurd (cc)
listed_at-lt (suc count) at bytes fits zero s is =
    let same : listed_there at bytes ≡ s = cc in rw (← same) (number_at-lt 8 at bytes fits)
listed_at-lt (suc count) at bytes fits (suc i) s is = listed_at-lt count (at + 16) bytes fits i s is

-- what the listed segments in bytes are, if they pass the tests
pub are_lengths : (bytes : List ℕ) (count : ℕ) → IsBytes bytes → count ≡ number_at 4 1 bytes
    → are_listed (listed_at count 5 bytes) ≡ true → AreLengths (listed_at count 5 bytes)
are_lengths bytes count fits count-is listed =
    record {
      rise = increasing-from_listed (listed_at count 5 bytes) listed;
      count = rw (length-listed_at, count-is) (number_at-lt 4 1 bytes fits);
      each = each_listed (listed_at count 5 bytes) listed (listed_at-lt count 5 bytes fits);
    }

-- ---- their bytes

-- the bytes of those there
pub Fronts-listed : (count at : ℕ) (bytes text : List ℕ) → IsBytes bytes → Fronts bytes at text
    → at + 16 * count ≤ length bytes
    → Fronts bytes (at + 16 * count) (text ++ flat_map listed_bytes (listed_at count at bytes))
Fronts-listed zero at bytes text fits front le = rw (add-zero, append-nil) front
Fronts-listed (suc count) at bytes text fits front le =
    let id = number_bytes 8 (number_at 8 at bytes) in
    let len = number_bytes 8 (number_at 8 (at + 8) bytes) in
    let one = Fronts-number 8 at bytes text (number_at 8 at bytes) width-8 fits front (omega arith) refl in
    let two =
    Fronts-number 8 (at + 8) bytes (text ++ id) (number_at 8 (at + 8) bytes) width-8 fits one (omega arith) refl in
    let joined : text ++ id ++ len ≡ text ++ (id ++ len) = append_assoc text id len in
    let place : at + 8 + 8 ≡ at + 16 = omega arith in
    let both : Fronts bytes (at + 16) (text ++ (id ++ len)) = rw (joined, place) at two in
    let rest = Fronts-listed count (at + 16) bytes (text ++ (id ++ len)) fits both (omega arith) in
    let same : at + 16 * suc count ≡ at + 16 + 16 * count = omega arith in
    rw (same, ← append_assoc) rest

-- ---- one of them

-- one, by its place
pub slice_get-listed_at : (count at i : ℕ) (bytes : List ℕ) → i < count
    → slice_get (listed_at count at bytes) i ≡ Some (listed_there (at + 16 * i) bytes)
slice_get-listed_at zero at i bytes lt = absurd (omega arith)
slice_get-listed_at (suc count) at zero bytes lt = rw add-zero refl
slice_get-listed_at (suc count) at (suc i) bytes lt =
    let place : at + 16 * suc i ≡ at + 16 + 16 * i = omega arith in
    rw place (slice_get-listed_at count (at + 16) i bytes (omega arith))

pub slice_get-ids_in : (ss : List Listed) (i : ℕ) (s : Listed) → slice_get ss i ≡ Some s
    → slice_get (ids_in ss) i ≡ Some s.id
slice_get-ids_in [] i s is = absurd (cc)
slice_get-ids_in (x ∷ xs) zero s is = ap (λ (t : Listed). Some t.id) (same_Some x s is)
slice_get-ids_in (x ∷ xs) (suc i) s is = slice_get-ids_in xs i s is

-- what rises goes on rising behind its first
pub rises_behind : (x : ℕ) (xs : List ℕ) → IsStrictlyIncreasing (x ∷ xs) → IsStrictlyIncreasing xs
rises_behind x xs rise k lt =
    let place : suc k + 1 ≡ suc (k + 1) = omega arith in rw place at (rise (suc k) (omega arith))

-- ids behind the first are above it
above_first : (x : Listed) (xs : List Listed) → IsStrictlyIncreasing (ids_in (x ∷ xs)) → (i : ℕ) (s : Listed)
    → slice_get xs i ≡ Some s → x.id < s.id
above_first x [] rise i s is = absurd (cc)
above_first x (y ∷ ys) rise zero s is =
    let same : y ≡ s = cc in rw (← same) (rise 0 (omega arith))
above_first x (y ∷ ys) rise (suc i) s is =
    let first : x.id < y.id = rise 0 (omega arith) in
    let more = above_first y ys (rises_behind x.id (ids_in (y ∷ ys)) rise) i s is in
    omega (arith, first, more)

-- the length that is listed for an id that is
pub len_in-place : (ss : List Listed) (i : ℕ) (s : Listed) → IsStrictlyIncreasing (ids_in ss)
    → slice_get ss i ≡ Some s → len_in s.id ss ≡ Some s.len
len_in-place [] i s rise is = absurd (cc)
len_in-place (x ∷ xs) zero s rise is =
    let same : x ≡ s = cc in
    let found : (x.id == x.id) ≡ true = eq-eqb x.id x.id refl in
    rw (← same, found) refl
len_in-place (x ∷ xs) (suc i) s rise is =
    let above = above_first x xs rise i s is in
    let other : (x.id == s.id) ≡ false = grind (arith, nat_tests) in
    rw other (len_in-place xs i s (rises_behind x.id (ids_in xs) rise) is)
