-- What the parser reads of the words of a text.
use Rattle.std.specs.Prelude.{◌≡◌, ◌≢◌, ◌<◌, ◌≤◌, ◌^◌, ℕ, List, [], ◌∷◌, length, map, take, slice_index, codes}
use Rattle.std.specs.Prelude.{Option, Some, None}
use Rattle.std.specs.List.{All}
use Rattle.std.specs.Fmt.{decimal}
use Rattle.lines.specs.Keys.{IsWord}
use Rattle.lines.specs.Grammar.{IsLine, IsOrder, LineValue, Idle, order_words, shown_line, words_of}
use Rattle.lines.specs.declared.line.Line.{Line}
use Rattle.lines.specs.declared.line.ReplayOrder.{ReplayOrder}

-- the byte is one that a word may have
abbrev pub IsVisible : ℕ → Type 0
IsVisible b = (33 ≤ b) × (b ≤ 126)

-- the first `len` bytes are visible, and the next one isn't
pub record IsVisibleFront (bytes : List ℕ) (len : ℕ) : Type 0 where
  pub within : len ≤ length bytes
  pub visible : All IsVisible (take len bytes)
  pub ends : len < length bytes → IsVisible (slice_index bytes len) → ⊥

-- the words are a number
pub record AreNumber (words : List (List ℕ)) (n : ℕ) : Type 0 where
  pub spelled : words ≡ decimal n ∷ []
  pub small : n < 2 ^ 64

-- the words are these numbers, one or more
pub record AreNumbers (words : List (List ℕ)) (ns : List ℕ) : Type 0 where
  pub spelled : words ≡ map decimal ns
  pub some : 0 < length ns
  pub small : All (λ n. n < 2 ^ 64) ns

-- the word isn't the name of a line that has more words behind its name
pub record IsNoLongName (word : List ℕ) : Type 0 where
  pub put : word ≢ codes "put"
  pub new : word ≢ codes "new"
  pub cas : word ≢ codes "cas"
  pub get : word ≢ codes "get"
  pub del : word ≢ codes "del"
  pub hex : word ≢ codes "hex"
  pub list : word ≢ codes "list"
  pub compact : word ≢ codes "compact"
  pub stop : word ≢ codes "stop"
  pub lose : word ≢ codes "lose"
  pub fault : word ≢ codes "fault"
  pub clean : word ≢ codes "clean"
  pub begin : word ≢ codes "begin"
  pub recover : word ≢ codes "recover"
  pub clients : word ≢ codes "clients"
  pub format : word ≢ codes "format"
  pub seglets : word ≢ codes "seglets"
  pub tend : word ≢ codes "tend"

-- the words spell the line
pub record Spell (words : List (List ℕ)) (line : LineValue) : Type 0 where
  pub spelled : words ≡ words_of line
  pub each : All IsWord (words_of line)
  pub limits : IsLine line

-- the line does something, and the words spell it
abbrev pub AreWordsOf : List (List ℕ) → LineValue → Type 0
AreWordsOf words Idle = ⊥
AreWordsOf words line = Spell words line

-- the line that the words spell, or None if they spell none
abbrev pub ReadsWords : List (List ℕ) → Option Line → Type 0
ReadsWords words None = (line : LineValue) → AreWordsOf words line → ⊥
ReadsWords words (Some line) = AreWordsOf words (shown_line line)

-- the words name the order
pub record NameOrder (words : List (List ℕ)) (order : ReplayOrder) : Type 0 where
  pub spelled : words ≡ order_words order
  pub each : All IsWord (order_words order)
  pub limits : IsOrder order

-- the order that the words name, or None if they name none
abbrev pub ReadsOrder : List (List ℕ) → Option ReplayOrder → Type 0
ReadsOrder words None = (order : ReplayOrder) → NameOrder words order → ⊥
ReadsOrder words (Some order) = NameOrder words order
