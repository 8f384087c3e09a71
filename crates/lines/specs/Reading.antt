-- The lines that are taken from a reader. A line feed that is no raw byte ends each line, but the last line may lack
-- it.
use Rattle.std.specs.Prelude.{◌≡◌, ◌≢◌, ◌<◌, ◌≤◌, ◌+◌, ℕ, Bool, true, false, List, [], ◌∷◌, ◌++◌, length, take, min}
use Rattle.std.specs.Prelude.{Option, Some, None, Result, Ok, Err}
use Rattle.std.specs.List.{All}
use Rattle.std.specs.Io.KnownBytes.{Consumes, IsAtEnd, Keeps}
use Rattle.lines.specs.Scanning.{HoldsTogether, IsInBytes, behind, line_limit, starts}
use Rattle.lines.specs.declared.scan.Scan.{Scan}
use Rattle.lines.specs.declared.reading.Taken.{Taken}
use Rattle.lines.specs.declared.reading.Taken.TheVariants.{Ended, Last, TooLong, Nothing}
use Rattle.lines.specs.declared.reading.Took.{Took}
use Rattle.lines.specs.declared.reading.Took.TheVariants as took_as
use Rattle.lines.specs.declared.reading.ReadFault.{ReadFault}
use Rattle.lines.specs.declared.reading.ReadFault.TheVariants.{ReadFailed, WriteFailed, NoMemory}

-- no byte is a line feed, but for raw bytes if they may come (`is_raw`)
abbrev pub IsUnbroken : Bool → List ℕ → Type 0
IsUnbroken is_raw bytes = HoldsTogether (starts is_raw) bytes

-- a line has no line feed but among its raw bytes, and at most 4,096 bytes, or 2,101,248 if raw bytes may come
pub record IsLineText (is_raw : Bool) (line : List ℕ) : Type 0 where
  pub unbroken : IsUnbroken is_raw line
  pub short : length line ≤ line_limit is_raw

-- a line feed behind the bytes ends the line
abbrev pub EndsLine : Bool → List ℕ → Type 0
EndsLine is_raw line = IsInBytes (behind (starts is_raw) line) → ⊥

-- one byte was taken of the reader, or the reader was at its end
abbrev pub TakesByte : Option (List ℕ) → Option (List ℕ) → Option ℕ → Type 0
TakesByte old new (Some byte) = Consumes old new (byte ∷ [])
TakesByte old new None = Consumes old new [] × IsAtEnd new

-- What was taken of the reader: a line with its line feed, a last line of one byte or more without one, the bytes at
-- the front of a line that is too long, one more than a line may have, or nothing at the end.
abbrev pub TakesLine : Bool → Option (List ℕ) → Option (List ℕ) → List ℕ → Taken → Type 0
TakesLine is_raw old new line Ended =
    Consumes old new (line ++ 10 ∷ []) × IsLineText is_raw line × EndsLine is_raw line
TakesLine is_raw old new line Last = Consumes old new line × IsAtEnd new × (0 < length line) × IsLineText is_raw line
TakesLine is_raw old new line TooLong =
    Consumes old new line × IsUnbroken is_raw line × (length line ≡ line_limit is_raw + 1)
TakesLine is_raw old new line Nothing = Consumes old new [] × IsAtEnd new × (line ≡ [])

-- what was taken at a fault: the bytes in `line` if the reader or the writer failed, and nothing if memory ran out
abbrev pub StopsIn : Bool → Option (List ℕ) → Option (List ℕ) → List ℕ → ReadFault → Type 0
StopsIn is_raw old new line ReadFailed = Consumes old new line × IsLineText is_raw line
StopsIn is_raw old new line WriteFailed = Consumes old new line × IsLineText is_raw line
StopsIn is_raw old new line NoMemory = Consumes old new [] × (line ≡ [])

-- the bytes begin with a line and the line feed that ends it
abbrev pub BeginsWithLine : Bool → List ℕ → Type 0
BeginsWithLine is_raw bytes = (line : List ℕ) × (rest : List ℕ) × (bytes ≡ line ++ 10 ∷ rest)
    × IsLineText is_raw line × EndsLine is_raw line

-- ---- what a reader shows

-- how much is shown of a line of words: `len` bytes before a line feed, or `len` bytes and none within `most` bytes
abbrev pub IsFrontOfWords : List ℕ → ℕ → ℕ → Bool → Type 0
IsFrontOfWords bytes most len true =
    All (λ b. b ≢ 10) (take len bytes) × (take (len + 1) bytes ≡ take len bytes ++ 10 ∷ [])
    × (len < length bytes) × (len < most)
IsFrontOfWords bytes most len false = All (λ b. b ≢ 10) (take len bytes) × (len ≡ min (length bytes) most)

-- How much is shown of a line that stands so: `len` bytes before the line feed that ends it, or `len` bytes and none
-- within `most` bytes. Then it stands as `next` says.
abbrev pub IsFrontOfLine : List ℕ → ℕ → Scan → ℕ → Bool → Scan → Type 0
IsFrontOfLine bytes most scan len true next =
    HoldsTogether scan (take len bytes) × (take (len + 1) bytes ≡ take len bytes ++ 10 ∷ [])
    × (len < length bytes) × (len < most) × (IsInBytes (behind scan (take len bytes)) → ⊥)
IsFrontOfLine bytes most scan len false next =
    HoldsTogether scan (take len bytes) × (len ≡ min (length bytes) most) × (next ≡ behind scan (take len bytes))

-- a part of a line that stood so was appended
abbrev pub GrowsBy : Scan → List ℕ → List ℕ → List ℕ → Type 0
GrowsBy scan before after part = (after ≡ before ++ part) × HoldsTogether scan part

-- What was taken of the bytes that a reader shows: the last part of a line with the line feed behind it, or a part of
-- one byte or more, or nothing. A fault takes nothing.
abbrev pub TakesShown : ℕ → Scan → Option (List ℕ) → Option (List ℕ) → List ℕ → List ℕ → Result Took ReadFault → Type 0
TakesShown limit scan old new before after (Ok took_as.Ended) =
    (part : List ℕ) × Consumes old new (part ++ 10 ∷ []) × GrowsBy scan before after part × (length after ≤ limit)
    × (IsInBytes (behind scan part) → ⊥)
TakesShown limit scan old new before after (Ok (took_as.Part next)) =
    (part : List ℕ) × Consumes old new part × GrowsBy scan before after part × (length after ≤ limit + 1)
    × (0 < length part) × (next ≡ behind scan part)
TakesShown limit scan old new before after (Ok took_as.Nothing) = Keeps old new × (after ≡ before)
TakesShown limit scan old new before after (Err ReadFailed) = Keeps old new × (after ≡ before)
TakesShown limit scan old new before after (Err WriteFailed) = ⊥
TakesShown limit scan old new before after (Err NoMemory) = ⊥
