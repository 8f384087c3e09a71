-- The four bytes of a length.
use Rattle.std.proofs.Common.{◌≡◌, inl, inr, ℕ, zero, suc, ◌+◌, ◌<◌, ◌≤◌, ◌^◌, List, [], ◌∷◌, ◌++◌, length, take}
use Rattle.std.proofs.Common.{drop, replicate, sym, ◌∙◌, ap, arith}
use Rattle.std.specs.Prelude.{slice_index}
use Rattle.std.proofs.lemmas.Bool.{cases_lt}
use Rattle.std.proofs.lemmas.List.{get_or-drop, get_or-take, get_or_past, length-take, length-take-le}
use Rattle.std.proofs.lemmas.Nat.{be_bytes_4}
use Rattle.byteorder.specs.Endian.{big_number}
use Rattle.byteorder.specs.Numbers.{big_from-lt, big_from-take, big_number-reads_back, length-bytes_high_first}
use Rattle.take_journal.specs.Frames.{len_bytes, named_len}

pub named_len-reads : (n : ℕ) (rest : List ℕ) → n < 256 ^ 4 → named_len (len_bytes n ++ rest) ≡ n
unfolding len_bytes named_len
named_len-reads n rest fits = big_number-reads_back 4 n rest fits

pub length-len_bytes : (n : ℕ) → length (len_bytes n) ≡ 4
unfolding len_bytes
length-len_bytes n = length-bytes_high_first 4 n

-- each is a byte
abbrev pub AreBytes : List ℕ → Type 0
AreBytes bytes = (i : ℕ) → slice_index bytes i < 256

pub AreBytes-drop : (n : ℕ) (bytes : List ℕ) → AreBytes bytes → AreBytes (drop n bytes)
AreBytes-drop n bytes each i = rw get_or-drop (each (n + i))

pub AreBytes-take : (n : ℕ) (bytes : List ℕ) → AreBytes bytes → AreBytes (take n bytes)
AreBytes-take n bytes each i = elim (cases_lt i n) [
  | inl lt ↦ rw (get_or-take n bytes i 0 lt) (each i)
  | inr le ↦ rw (get_or_past (take n bytes) i 0 (omega (arith, le, length-take n bytes))) (omega arith)
]

pub AreBytes-rest : (x : ℕ) (bytes : List ℕ) → AreBytes (x ∷ bytes) → AreBytes bytes
AreBytes-rest x bytes each i = each (suc i)

pub AreBytes-more : (x : ℕ) (bytes : List ℕ) → x < 256 → AreBytes bytes → AreBytes (x ∷ bytes)
AreBytes-more x bytes lt each zero = lt
AreBytes-more x bytes lt each (suc i) = each i

zeros : (n : ℕ) → AreBytes (replicate n 0)
zeros zero i =
    let e : slice_index (replicate 0 0) i ≡ 0 = get_or_past {X = ℕ} [] i 0 (omega arith) in omega (arith, e)
zeros (suc n) i = AreBytes-more 0 (replicate n 0) (omega arith) (zeros n) i

pub padded : (n : ℕ) (bytes : List ℕ) → AreBytes bytes → AreBytes (bytes ++ replicate n 0)
padded n [] each i = zeros n i
padded n (x ∷ bytes) each i =
    AreBytes-more x (bytes ++ replicate n 0) (each 0) (padded n bytes (AreBytes-rest x bytes each)) i

pub named_len-fits : (bytes : List ℕ) → AreBytes bytes → named_len bytes < 2 ^ 32
unfolding named_len
named_len-fits bytes each = big_from-lt 0 4 bytes each

-- the first four bytes alone name it
pub named_len-take : (bytes : List ℕ) → named_len (take 4 bytes) ≡ named_len bytes
unfolding named_len
named_len-take bytes = big_from-take 0 4 4 bytes (omega arith)

four_back : (four : List ℕ) → length four ≡ 4 → AreBytes four → len_bytes (named_len four) ≡ four
unfolding len_bytes named_len
four_back four size fits = be_bytes_4 four (big_number 4 four) size fits (omega arith)

-- they are the bytes of the length that they name
pub len_bytes-back : (bytes : List ℕ) → 4 ≤ length bytes → AreBytes bytes → len_bytes (named_len bytes) ≡ take 4 bytes
len_bytes-back bytes long each =
    ap len_bytes (sym (named_len-take bytes))
    ∙ four_back (take 4 bytes) (length-take-le 4 bytes long) (AreBytes-take 4 bytes each)
