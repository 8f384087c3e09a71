-- What the bytes of a journal stand for: frames, each behind a gate.
use Rattle.std.specs.Prelude.{ℕ, zero, suc, ◌+◌, ◌<◌, ◌^◌, List, [], ◌∷◌, ◌++◌, length, map, take, drop}
use Rattle.std.specs.Prelude.{Option, Some, None, Vec, nat_le, ◌==◌, if◌then◌else◌}
use Rattle.std.specs.List.{flat_map, AllByRecursion}
use Rattle.std.specs.declared.alloc.Global.{Global}
use Rattle.byteorder.specs.Endian.{big_bytes, big_number}

-- ---- writing

-- a length in four bytes, the highest first
unfoldable pub len_bytes : ℕ → List ℕ
len_bytes n = big_bytes 4 n

-- the length that the first four bytes name
unfoldable pub named_len : List ℕ → ℕ
named_len bytes = big_number 4 bytes

-- a text that fits a frame
abbrev pub IsShort : List ℕ → Type 0
IsShort text = length text < 2 ^ 32

abbrev pub AreShort : List (List ℕ) → Type 0
AreShort texts = AllByRecursion IsShort texts

-- an open gate, the length of the text, and the text
abbrev pub frame : List ℕ → List ℕ
frame text = 1 ∷ len_bytes (length text) ++ text

abbrev pub frames : List (List ℕ) → List ℕ
frames texts = flat_map frame texts

-- the frames of these texts, and a closed gate behind them
abbrev pub at_rest : List (List ℕ) → List ℕ
at_rest texts = frames texts ++ 0 ∷ []

-- ---- reading

-- a text of n bytes that stands behind its four bytes of length, and what stands behind it; None if it is cut short
abbrev pub split_at : ℕ → List ℕ → Option (List ℕ × List ℕ)
split_at n bytes =
    if nat_le (4 + n) (length bytes) then Some (take n (drop 4 bytes), drop (4 + n) bytes) else None

-- the text of the first frame, and what stands behind it; None if its gate is not open, or if it is cut short
abbrev pub first_frame : List ℕ → Option (List ℕ × List ℕ)
first_frame [] = None
first_frame (gate ∷ rest) = if gate == 1 then split_at (named_len rest) rest else None

abbrev pub and_then : (List ℕ → List (List ℕ)) → Option (List ℕ × List ℕ) → List (List ℕ)
and_then next None = []
and_then next (Some first) = first.0 ∷ next first.1

-- the texts of the frames up to the first that is not open or is cut short, at most n of them
abbrev pub frames_in : ℕ → List ℕ → List (List ℕ)
frames_in zero bytes = []
frames_in (suc n) bytes = and_then (frames_in n) (first_frame bytes)

-- the texts that a file stands for: those of its frames up to the first that is not open or is cut short
unfoldable pub recovered : List ℕ → List (List ℕ)
recovered file = frames_in (length file) file

-- what stands behind those frames
unfoldable pub end_of : List ℕ → List ℕ
end_of file = drop (length (frames (recovered file))) file

-- texts in memory
abbrev pub texts_of : List (Vec ℕ Global) → List (List ℕ)
texts_of texts = map (λ (text : Vec ℕ Global). text.items) texts
