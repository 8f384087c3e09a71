-- The bytes of a digest: how many segments it lists, and the id and the length of each.
use Rattle.std.proofs.Common.{◌≡◌, ℕ, ◌+◌, ◌*◌, ◌<◌, ◌≤◌, Bool, true, false, List, length, Option, Some, None}
use Rattle.std.proofs.Common.{refl, sym, ◌∙◌, arith}
use Rattle.std.specs.Prelude.{slice_get, IsSomeAnd}
use Rattle.entry.specs.declared.digest.Digest.TheVariants as digest
use Rattle.entry.specs.Limits.{AreLengths}
use Rattle.entry.specs.Format.{number_at, ids_at, listed_at, digest_at, digest_len}
use Rattle.entry.specs.Text.{listed_ids, lists_lengths, listed_len}
use Rattle.entry.proofs.IdLemmas.{length-ids_at, slice_get-ids_at}
use Rattle.entry.proofs.LengthLemmas.{length-listed_at, length-ids_in, slice_get-listed_at, slice_get-ids_in}
use Rattle.entry.proofs.LengthLemmas.{len_in-place, listed_there}

-- how many segments it lists
pub length-digest_at : (b : Bool) (count : ℕ) (bytes : List ℕ) → length (listed_ids (digest_at b count bytes)) ≡ count
length-digest_at false count bytes = length-ids_at count 5 bytes
length-digest_at true count bytes = length-ids_in (listed_at count 5 bytes) ∙ length-listed_at count 5 bytes

pub lists_lengths-at : (b : Bool) (count : ℕ) (bytes : List ℕ) → b ≡ lists_lengths (digest_at b count bytes)
lists_lengths-at false count bytes = refl
lists_lengths-at true count bytes = refl

pub digest_at-ids : (b : Bool) (count : ℕ) (bytes : List ℕ) → b ≡ false
    → digest_at b count bytes ≡ digest.Ids (ids_at count 5 bytes)
digest_at-ids false count bytes is = refl
digest_at-ids true count bytes is = absurd (cc)

pub digest_at-lengths : (b : Bool) (count : ℕ) (bytes : List ℕ) → b ≡ true
    → digest_at b count bytes ≡ digest.Lengths (listed_at count 5 bytes)
digest_at-lengths true count bytes is = refl
digest_at-lengths false count bytes is = absurd (cc)

pub within_ids : (b : Bool) (count n : ℕ) → b ≡ false → digest_len b count ≤ n → 5 + 8 * count ≤ n
within_ids false count n is le = le
within_ids true count n is le = absurd (cc)

pub within_lengths : (b : Bool) (count n : ℕ) → b ≡ true → digest_len b count ≤ n → 5 + 16 * count ≤ n
within_lengths true count n is le = le
within_lengths false count n is le = absurd (cc)

-- the id at a place
pub id_among_ids : (b : Bool) (count place : ℕ) (bytes : List ℕ) → b ≡ false
    → place < length (listed_ids (digest_at b count bytes))
    → slice_get (listed_ids (digest_at b count bytes)) place ≡ Some (number_at 8 (5 + 8 * place) bytes)
id_among_ids true count place bytes is lt = absurd (cc)
id_among_ids false count place bytes is lt =
    slice_get-ids_at count 5 place bytes (omega (arith, length-ids_at count 5 bytes, lt))

pub id_among_lengths : (b : Bool) (count place : ℕ) (bytes : List ℕ) → b ≡ true
    → place < length (listed_ids (digest_at b count bytes))
    → slice_get (listed_ids (digest_at b count bytes)) place ≡ Some (number_at 8 (5 + 16 * place) bytes)
id_among_lengths false count place bytes is lt = absurd (cc)
id_among_lengths true count place bytes is lt =
    let fits : place < count = omega (arith, length-digest_at true count bytes, lt) in
    slice_get-ids_in (listed_at count 5 bytes) place (listed_there (5 + 16 * place) bytes)
    (slice_get-listed_at count 5 place bytes fits)

abbrev none : Option ℕ
none = None

-- the length of the segment at a place
pub len_among_ids : (b : Bool) (count place : ℕ) (bytes : List ℕ) → b ≡ false
    → place < length (listed_ids (digest_at b count bytes))
    → IsSomeAnd (slice_get (listed_ids (digest_at b count bytes)) place)
    (λ id. none ≡ listed_len id (digest_at b count bytes))
len_among_ids true count place bytes is lt = absurd (cc)
len_among_ids false count place bytes is lt =
    rw (id_among_ids false count place bytes refl lt) refl

pub len_among_lengths : (b : Bool) (count place n : ℕ) (bytes : List ℕ) → b ≡ true
    → (b ≡ true → AreLengths (listed_at count 5 bytes)) → place < length (listed_ids (digest_at b count bytes))
    → n ≡ number_at 8 (5 + 16 * place + 8) bytes
    → IsSomeAnd (slice_get (listed_ids (digest_at b count bytes)) place)
    (λ id. Some n ≡ listed_len id (digest_at b count bytes))
len_among_lengths false count place n bytes is lengths lt n-is = absurd (cc)
len_among_lengths true count place n bytes is lengths lt n-is =
    let ss = listed_at count 5 bytes in
    let s = listed_there (5 + 16 * place) bytes in
    let fits : place < count = omega (arith, length-digest_at true count bytes, lt) in
    let there : slice_get ss place ≡ Some s = slice_get-listed_at count 5 place bytes fits in
    rw (id_among_lengths true count place bytes refl lt, n-is) (sym (len_in-place ss place s (lengths refl).rise there))
