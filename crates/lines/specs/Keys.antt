-- Which bytes are a word, and which words are keys.
use Rattle.std.specs.Prelude.{◌<◌, ◌≤◌, ℕ, List, length}
use Rattle.std.specs.List.{All}

-- a word is one byte or more, each from 0x21 to 0x7E
pub record IsWord (word : List ℕ) : Type 0 where
  pub some : 0 < length word
  pub visible : All (λ b. (33 ≤ b) × (b ≤ 126)) word

-- a key is a word of at most 1,024 bytes
pub record IsKeyWord (key : List ℕ) : Type 0 where
  pub word : IsWord key
  pub short : length key ≤ 1024

-- a key has 1 to 1,024 bytes
pub record IsKey (key : List ℕ) : Type 0 where
  pub some : 0 < length key
  pub short : length key ≤ 1024
