-- What each reason says of a bad line.
use Rattle.std.specs.Prelude.{◌≡◌, ◌⊎◌, ◌<◌, ◌≤◌, ℕ, List, [], ◌∷◌, ◌++◌, length}
use Rattle.std.specs.List.{Contains, slice_split}
use Rattle.lines.specs.Cutting.{IsNumberWord, is_space}
use Rattle.lines.specs.declared.reason.Reason.{Reason}
use Rattle.lines.specs.declared.reason.Reason.TheVariants as reason

-- the word is one of the words
abbrev pub IsAmong : List (List ℕ) → List ℕ → Type 0
IsAmong words word = (before : List (List ℕ)) × (after : List (List ℕ)) × (words ≡ before ++ word ∷ after)

-- the word stands in the text, between spaces or the ends of the text
abbrev pub HasWord : List ℕ → List ℕ → Type 0
HasWord text word = IsAmong (slice_split is_space text) word

-- the text begins with the word
abbrev pub BeginsWith : List ℕ → List ℕ → Type 0
BeginsWith text word = (rest : List (List ℕ)) × (slice_split is_space text ≡ word ∷ rest)

-- the byte is one of the text, and neither a space nor visible
abbrev pub HasHidden : List ℕ → ℕ → Type 0
HasHidden text byte = Contains text byte × ((byte < 32) ⊎ (126 < byte))

-- a byte of the word is a capital letter
abbrev pub HasCapital : List ℕ → Type 0
HasCapital word = (byte : ℕ) × Contains word byte × (65 ≤ byte) × (byte ≤ 90)

-- the word is wrong for this reason: it is no number, or it is too long for a key
abbrev pub IsWrongWord : List ℕ → Reason → Type 0
IsWrongWord word reason.Number = IsNumberWord word → ⊥
IsWrongWord word reason.LongKey = 1024 < length word
IsWrongWord word _ = ⊥

-- one of the words is wrong for this reason
abbrev pub IsWrong : List (List ℕ) → Reason → Type 0
IsWrong words why = (word : List ℕ) × IsAmong words word × IsWrongWord word why

-- What the reason says of the text of a bad line. Unknown and Uncounted say nothing
-- of it.
abbrev pub HasReason : List ℕ → Reason → Type 0
HasReason text reason.CarriageReturn = (line : List ℕ) × (text ≡ line ++ 13 ∷ [])
HasReason text (reason.Byte byte) = HasHidden text byte
HasReason text reason.Spaces = HasWord text []
HasReason text reason.Capital = (word : List ℕ) × BeginsWith text word × HasCapital word
HasReason text (reason.Shape name shape) = BeginsWith text name.now
HasReason text reason.Number = IsWrong (slice_split is_space text) reason.Number
HasReason text reason.LongKey = IsWrong (slice_split is_space text) reason.LongKey
HasReason text reason.Unknown = Unit {0}
HasReason text reason.Uncounted = Unit {0}
HasReason text _ = ⊥
