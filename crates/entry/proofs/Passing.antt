-- The spelling of an entry passes a reader's tests.
use Rattle.std.proofs.Common.{◌≡◌, ℕ, suc, ◌+◌, ◌^◌, ◌<◌, ◌≤◌, true, List, [], ◌∷◌}
use Rattle.std.proofs.Common.{◌++◌, length, None, refl, sym, append_assoc, arith}
use Rattle.std.specs.Prelude.{slice_index, slice_get, Some, nat_lt}
use Rattle.std.specs.List.{flat_map}
use Rattle.std.specs.List.Sorted.{IsStrictlyIncreasing}
use Rattle.std.proofs.lemmas.Bool.{le-leb, lt-ltb}
use Rattle.std.proofs.lemmas.List.{length-append}
use Rattle.entry.specs.declared.digest.Listed.{Listed}
use Rattle.entry.specs.declared.digest.Digest.TheVariants as digest
use Rattle.entry.specs.declared.entry.Header.{Header}
use Rattle.entry.specs.declared.entry.Object.{Object}
use Rattle.entry.specs.declared.entry.Tombstone.{Tombstone}
use Rattle.entry.specs.declared.entry.Entry.{Entry}
use Rattle.entry.specs.declared.entry.Entry.TheVariants as entry
use Rattle.entry.specs.declared.kind.Kind.TheVariants as kind
use Rattle.entry.specs.Limits.{IsSafeVersion, AreIds, ids_in, IsListed, AreLengths}
use Rattle.entry.specs.Format.{number_bytes, number_at, role_byte, spelling, IsHeader, IsObject, IsTombstone, IsEntry}
use Rattle.entry.specs.Format.{whole_len, are_fields, has_order, ids_at, rises, fault_in, first_fault}
use Rattle.entry.specs.Format.{listed_bytes, is_within, listed_at, are_listed}
use Rattle.entry.proofs.Numbers.{length-number_bytes, number_at-front, number_at-past}
use Rattle.entry.proofs.SpellingLemmas.{length-header, length-digest, length-lengths, length-safe, length-object}
use Rattle.entry.proofs.SpellingLemmas.{length-tombstone}
use Rattle.entry.proofs.LengthLemmas.{rises_behind}
use Rattle.entry.proofs.ReadingLemmas.{no_fault, within, role_fits, object_fields, tombstone_fields}

-- a number behind a front
pub field : (k at n : ℕ) (front rest bytes : List ℕ) → bytes ≡ front ++ (number_bytes k n ++ rest) → length front ≡ at
    → n < 256 ^ k → number_at k at bytes ≡ n
field k at n front rest bytes is len fits =
    let place : at ≡ length front + 0 = omega arith in
    rw (is, place, number_at-past) (number_at-front k n rest fits)

-- a byte behind a front
pub byte_there : (front rest bytes : List ℕ) (b at : ℕ) → bytes ≡ front ++ b ∷ rest → length front ≡ at
    → slice_index bytes at ≡ b
byte_there front rest bytes b at is len = rw (is, ← len) (go front) where
  go : (front : List ℕ) → slice_index (front ++ b ∷ rest) (length front) ≡ b
  go [] = refl
  go (x ∷ xs) = go xs

rises-from_increasing : (ids : List ℕ) → IsStrictlyIncreasing ids → rises ids ≡ true
rises-from_increasing [] rise = refl
rises-from_increasing (x ∷ []) rise = refl
rises-from_increasing (x ∷ y ∷ ys) rise =
    let first : nat_lt x y ≡ true = lt-ltb x y (rise 0 (omega arith)) in
    let others : rises (y ∷ ys) ≡ true = rises-from_increasing (y ∷ ys) (λ k lt. next k lt) in
    rw (first, others) refl
  where
    next : (k : ℕ) → k + 1 < length (y ∷ ys) → slice_index (y ∷ ys) k < slice_index (y ∷ ys) (k + 1)
    next k lt = let place : suc k + 1 ≡ suc (k + 1) = omega arith in rw place at (rise (suc k) (omega arith))

-- the ids behind a front
pub ids_there : (ids front rest : List ℕ) (at : ℕ) → length front ≡ at → ((i : ℕ) → slice_index ids i < 2 ^ 64)
    → ids_at (length ids) at (front ++ (flat_map (number_bytes 8) ids ++ rest)) ≡ ids
ids_there [] front rest at len fits = refl
ids_there (n ∷ ns) front rest at len fits =
    let more = flat_map (number_bytes 8) ns ++ rest in
    let inner : number_bytes 8 n ++ flat_map (number_bytes 8) ns ++ rest ≡ number_bytes 8 n ++ more =
    append_assoc (number_bytes 8 n) (flat_map (number_bytes 8) ns) rest in
    let outer : front ++ number_bytes 8 n ++ more ≡ front ++ (number_bytes 8 n ++ more) =
    append_assoc front (number_bytes 8 n) more in
    let first : number_at 8 at (front ++ (number_bytes 8 n ++ more)) ≡ n =
    field 8 at n front more (front ++ (number_bytes 8 n ++ more)) refl len (fits 0) in
    let longer : length (front ++ number_bytes 8 n) ≡ at + 8 =
    simp (length-append, length-number_bytes) (omega arith) in
    let others : ids_at (length ns) (at + 8) (front ++ (number_bytes 8 n ++ more)) ≡ ns =
    rw (← outer) (ids_there ns (front ++ number_bytes 8 n) rest (at + 8) longer (λ i. fits (suc i))) in
    rw (inner, first, others) refl

listed-from_lengths : (ss : List Listed) → IsStrictlyIncreasing (ids_in ss)
    → ((i : ℕ) (s : Listed) → slice_get ss i ≡ Some s → IsListed s) → are_listed ss ≡ true
listed-from_lengths [] rise each = refl
listed-from_lengths (s ∷ []) rise each =
    let is = each 0 s refl in within 18 8388608 s.len is.least is.greatest
listed-from_lengths (s ∷ t ∷ ss) rise each =
    let is = each 0 s refl in
    let len : is_within 18 8388608 s.len ≡ true = within 18 8388608 s.len is.least is.greatest in
    let first : nat_lt s.id t.id ≡ true = lt-ltb s.id t.id (rise 0 (omega arith)) in
    let others : are_listed (t ∷ ss) ≡ true =
    listed-from_lengths (t ∷ ss) (rises_behind s.id (ids_in (t ∷ ss)) rise) (λ i u at. each (suc i) u at) in
    rw (len, first, others) refl

-- the listed segments behind a front
pub listed_behind : (ss : List Listed) (front rest : List ℕ) (at : ℕ) → length front ≡ at
    → ((i : ℕ) (s : Listed) → slice_get ss i ≡ Some s → IsListed s)
    → listed_at (length ss) at (front ++ (flat_map listed_bytes ss ++ rest)) ≡ ss
listed_behind [] front rest at len each = refl
listed_behind (s ∷ ss) front rest at len each =
    let is = each 0 s refl in
    let greatest = is.greatest in
    let more = flat_map listed_bytes ss ++ rest in
    let a = number_bytes 8 s.id in
    let b = number_bytes 8 s.len in
    let text = front ++ (flat_map listed_bytes (s ∷ ss) ++ rest) in
    let first : number_at 8 at text ≡ s.id =
    field 8 at s.id front (b ++ more) text (simp append_assoc) len is.id in
    let middle : length (front ++ a) ≡ at + 8 = simp (length-append, length-number_bytes) (omega arith) in
    let second : number_at 8 (at + 8) text ≡ s.len =
    field 8 (at + 8) s.len (front ++ a) more text (simp append_assoc) middle (omega arith) in
    let longer : length (front ++ (a ++ b)) ≡ at + 16 = simp (length-append, length-number_bytes) (omega arith) in
    let outer : text ≡ front ++ (a ++ b) ++ more = simp append_assoc in
    let others : listed_at (length ss) (at + 16) text ≡ ss =
    rw outer (listed_behind ss (front ++ (a ++ b)) rest (at + 16) longer (λ i t is. each (suc i) t is)) in
    rw (first, second, others) refl

pub header_passes : (h : Header) (rest : List ℕ) → IsHeader h
    → fault_in kind.Header (spelling (entry.Header h) ++ rest) ≡ None
header_passes h rest fits =
    let text = spelling (entry.Header h) ++ rest in
    let len = length-header h in
    let all = length-append (spelling (entry.Header h)) rest in
    let front = 1 ∷ number_bytes 8 h.master ++ number_bytes 8 h.segment in
    let front_len : length front ≡ 17 = simp (length-append, length-number_bytes) refl in
    let role : slice_index text 17 ≡ role_byte h.role =
    byte_there front rest text (role_byte h.role) 17 (simp append_assoc) front_len in
    let fields : are_fields kind.Header text ≡ true = le-leb (slice_index text 17) 1 (rw role (role_fits h.role)) in
    no_fault kind.Header text (omega arith) fields (omega arith) refl

pub digest_passes : (ids : List ℕ) (rest : List ℕ) → AreIds ids
    → fault_in kind.Digest (spelling (entry.Digest (digest.Ids ids)) ++ rest) ≡ None
digest_passes ids rest fits =
    let text = spelling (entry.Digest (digest.Ids ids)) ++ rest in
    let len = length-digest ids in
    let all = length-append (spelling (entry.Digest (digest.Ids ids))) rest in
    let front = 2 ∷ number_bytes 4 (length ids) in
    let front_len : length front ≡ 5 = simp length-number_bytes refl in
    let parts : text ≡ front ++ (flat_map (number_bytes 8) ids ++ rest) =
    append_assoc front (flat_map (number_bytes 8) ids) rest in
    let count : number_at 4 1 text ≡ length ids =
    field 4 1 (length ids) (2 ∷ []) (flat_map (number_bytes 8) ids ++ rest) text parts refl fits.count in
    let ids_are : ids_at (length ids) 5 text ≡ ids = rw parts (ids_there ids front rest 5 front_len fits.each) in
    let whole : whole_len kind.Digest text ≤ length text = rw count (omega arith) in
    let order : has_order kind.Digest text ≡ true = rw (count, ids_are) (rises-from_increasing ids fits.rise) in
    no_fault kind.Digest text (omega arith) refl whole order

pub lengths_passes : (ss : List Listed) (rest : List ℕ) → AreLengths ss
    → fault_in kind.Lengths (spelling (entry.Digest (digest.Lengths ss)) ++ rest) ≡ None
lengths_passes ss rest fits =
    let text = spelling (entry.Digest (digest.Lengths ss)) ++ rest in
    let len = length-lengths ss in
    let all = length-append (spelling (entry.Digest (digest.Lengths ss))) rest in
    let front = 6 ∷ number_bytes 4 (length ss) in
    let front_len : length front ≡ 5 = simp length-number_bytes refl in
    let parts : text ≡ front ++ (flat_map listed_bytes ss ++ rest) =
    append_assoc front (flat_map listed_bytes ss) rest in
    let count : number_at 4 1 text ≡ length ss =
    field 4 1 (length ss) (6 ∷ []) (flat_map listed_bytes ss ++ rest) text parts refl fits.count in
    let they_are : listed_at (length ss) 5 text ≡ ss =
    rw parts (listed_behind ss front rest 5 front_len fits.each) in
    let whole : whole_len kind.Lengths text ≤ length text = rw count (omega arith) in
    let order : has_order kind.Lengths text ≡ true =
    rw (count, they_are) (listed-from_lengths ss fits.rise fits.each) in
    no_fault kind.Lengths text (omega arith) refl whole order

pub safe_passes : (n : ℕ) (rest : List ℕ) → IsSafeVersion n
    → fault_in kind.Safe (spelling (entry.Safe n) ++ rest) ≡ None
safe_passes n rest fits =
    let text = spelling (entry.Safe n) ++ rest in
    let len = length-safe n in
    let all = length-append (spelling (entry.Safe n)) rest in
    let greatest = fits.greatest in
    let version : number_at 8 1 text ≡ n = field 8 1 n (3 ∷ []) rest text refl refl (omega arith) in
    no_fault kind.Safe text (omega arith) (rw version (within 1 (2 ^ 62 + 1) n fits.least greatest)) (omega arith) refl

pub object_passes : (o : Object) (rest : List ℕ) → IsObject o
    → fault_in kind.Object (spelling (entry.Object o) ++ rest) ≡ None
object_passes o rest fits =
    let text = spelling (entry.Object o) ++ rest in
    let n = o.version in
    let k = length o.key.bytes in
    let v = length o.value in
    let len = length-object o in
    let all = length-append (spelling (entry.Object o)) rest in
    let greatest = fits.version.greatest in
    let not_empty = fits.key.bytes.not_empty in
    let key_limit = fits.key.bytes.limit in
    let value_limit = fits.value.limit in
    let a = 4 ∷ number_bytes 8 o.key.table in
    let b = a ++ number_bytes 8 n in
    let c = b ++ number_bytes 2 k in
    let last = o.key.bytes ++ (o.value ++ rest) in
    let n-is : number_at 8 9 text ≡ n =
    field 8 9 n a (number_bytes 2 k ++ (number_bytes 4 v ++ last)) text (simp append_assoc)
    (simp length-number_bytes refl) (omega arith) in
    let k-is : number_at 2 17 text ≡ k =
    field 2 17 k b (number_bytes 4 v ++ last) text (simp append_assoc)
    (simp (length-append, length-number_bytes) refl) (omega arith) in
    let v-is : number_at 4 19 text ≡ v =
    field 4 19 v c last text (simp append_assoc) (simp (length-append, length-number_bytes) refl) (omega arith) in
    let fields =
    object_fields text n k v (sym n-is) (sym k-is) (sym v-is) fits.version not_empty key_limit value_limit in
    let whole : whole_len kind.Object text ≤ length text = rw (k-is, v-is) (omega arith) in
    no_fault kind.Object text (omega arith) fields whole refl

pub tombstone_passes : (t : Tombstone) (rest : List ℕ) → IsTombstone t
    → fault_in kind.Tombstone (spelling (entry.Tombstone t) ++ rest) ≡ None
tombstone_passes t rest fits =
    let text = spelling (entry.Tombstone t) ++ rest in
    let n = t.version in
    let k = length t.key.bytes in
    let len = length-tombstone t in
    let all = length-append (spelling (entry.Tombstone t)) rest in
    let greatest = fits.version.greatest in
    let not_empty = fits.key.bytes.not_empty in
    let key_limit = fits.key.bytes.limit in
    let a = 5 ∷ number_bytes 8 t.key.table in
    let b = a ++ number_bytes 8 n ++ number_bytes 8 t.segment in
    let last = t.key.bytes ++ rest in
    let n-is : number_at 8 9 text ≡ n =
    field 8 9 n a (number_bytes 8 t.segment ++ (number_bytes 2 k ++ last)) text (simp append_assoc)
    (simp length-number_bytes refl) (omega arith) in
    let k-is : number_at 2 25 text ≡ k =
    field 2 25 k b last text (simp append_assoc) (simp (length-append, length-number_bytes) refl) (omega arith) in
    let fields = tombstone_fields text n k (sym n-is) (sym k-is) fits.version not_empty key_limit in
    let whole : whole_len kind.Tombstone text ≤ length text = rw k-is (omega arith) in
    no_fault kind.Tombstone text (omega arith) fields whole refl

-- What is spelled passes the tests.
pub passes : (e : Entry) (rest : List ℕ) → IsEntry e → first_fault (spelling e ++ rest) ≡ None
passes (entry.Header h) rest fits = header_passes h rest fits
passes (entry.Digest (digest.Ids ids)) rest fits = digest_passes ids rest fits
passes (entry.Digest (digest.Lengths ss)) rest fits = lengths_passes ss rest fits
passes (entry.Safe n) rest fits = safe_passes n rest fits
passes (entry.Object o) rest fits = object_passes o rest fits
passes (entry.Tombstone t) rest fits = tombstone_passes t rest fits
