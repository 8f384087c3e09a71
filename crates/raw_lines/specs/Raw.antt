-- How a line is written in a script with raw bytes: a key or a value as its length in decimal digits, a colon, and so
-- many bytes of any kind. Lines without a key are written as in any script.
use Rattle.std.specs.Prelude.{◌≡◌, ◌⊎◌, ◌<◌, ◌≤◌, ◌^◌, ℕ, Bool, true, false, List, [], ◌∷◌, ◌++◌, length, codes}
use Rattle.std.specs.Fmt.{decimal}
use Rattle.lines.specs.Keys.{IsKey}
use Rattle.lines.specs.Grammar.{LineValue, Says, Put, New, Cas, Get, Del}

-- the bytes behind their length
abbrev pub counted : List ℕ → List ℕ
counted bytes = decimal (length bytes) ++ 58 ∷ bytes

-- the name of a line that has a key
abbrev pub key_name : LineValue → List ℕ
key_name (Put table key value) = codes "put"
key_name (New table key value) = codes "new"
key_name (Cas table key version value) = codes "cas"
key_name (Get table key) = codes "get"
key_name (Del table key) = codes "del"
key_name _ = []

-- what stands behind the name and a space
abbrev pub behind_name : LineValue → List ℕ
behind_name (Put table key value) = decimal table ++ 32 ∷ (counted key ++ 32 ∷ counted value)
behind_name (New table key value) = decimal table ++ 32 ∷ (counted key ++ 32 ∷ counted value)
behind_name (Cas table key version value) =
    decimal table ++ 32 ∷ (counted key ++ 32 ∷ (decimal version ++ 32 ∷ counted value))
behind_name (Get table key) = decimal table ++ 32 ∷ counted key
behind_name (Del table key) = decimal table ++ 32 ∷ counted key
behind_name _ = []

-- The line has a key of 1 to 1,024 bytes, numbers of 64 bits, and a value of at most 2,097,152 bytes.
abbrev pub IsKeyLine : LineValue → Type 0
IsKeyLine (Put table key value) = (table < 2 ^ 64) × IsKey key × (length value ≤ 2097152)
IsKeyLine (New table key value) = (table < 2 ^ 64) × IsKey key × (length value ≤ 2097152)
IsKeyLine (Cas table key version value) =
    (table < 2 ^ 64) × IsKey key × (version < 2 ^ 64) × (length value ≤ 2097152)
IsKeyLine (Get table key) = (table < 2 ^ 64) × IsKey key
IsKeyLine (Del table key) = (table < 2 ^ 64) × IsKey key
IsKeyLine _ = ⊥

-- the text is that of a line with a key
pub record IsRaw (text : List ℕ) (line : LineValue) : Type 0 where
  pub spaced : text ≡ key_name line ++ 32 ∷ behind_name line
  pub limits : IsKeyLine line

-- the line has no key
abbrev pub HasNoKey : LineValue → Type 0
HasNoKey (Put table key value) = ⊥
HasNoKey (New table key value) = ⊥
HasNoKey (Cas table key version value) = ⊥
HasNoKey (Get table key) = ⊥
HasNoKey (Del table key) = ⊥
HasNoKey _ = Unit {0}

-- the text is that of the line, in a script with raw bytes or in one of words alone
abbrev pub SaysIn : Bool → List ℕ → LineValue → Type 0
SaysIn true text line = IsRaw text line ⊎ (HasNoKey line × Says text line)
SaysIn false text line = Says text line

-- ---- a law

-- no text is that of a line without a key and of another line
abbrev pub EachPlainTextSaysOneLine : Type 0
EachPlainTextSaysOneLine = (is_raw : Bool) (text : List ℕ) (one other : LineValue) → HasNoKey one
    → SaysIn is_raw text one → SaysIn is_raw text other → other ≡ one
