-- Text in blocks. Only the last block grows.
use Rattle.std.specs.Prelude.{◌≡◌, ℕ, ◌+◌, ◌-◌, ◌%◌, ◌<◌, ◌≤◌, List, length, take, drop, get_or}

-- the number of the first block, the text of the full blocks and of the last block, and the room: how many more bytes
-- are reserved in the last block
pub record TextsValue : Type 0 where
  pub base : ℕ
  pub full : List (List ℕ)
  pub last : List ℕ
  pub room : ℕ

-- How many blocks lie from block `base` to this block. After number 2 ^ 32 - 1 comes number 0.
abbrev pub steps_to : ℕ → ℕ → ℕ
steps_to base block = (block + 4294967296 - base) % 4294967296

-- the text of the block with this number: a full block, or else the last one
abbrev pub text_at : TextsValue → ℕ → List ℕ
text_at t block = get_or t.full (steps_to t.base block) t.last

-- `len` bytes of a block from offset `start` on
abbrev pub part : TextsValue → ℕ → ℕ → ℕ → List ℕ
part t block start len = take len (drop start (text_at t block))

-- there is such a block, and it has `len` bytes from offset `start` on
pub record IsWithin (t : TextsValue) (block start len : ℕ) : Type 0 where
  pub among : steps_to t.base block ≤ length t.full
  pub ends : start + len ≤ length (text_at t block)

-- each part of the old texts is also a part of the new texts, with the same bytes
pub record KeepsParts (old new : TextsValue) : Type 0 where
  pub base : new.base ≡ old.base
  pub within : (block start len : ℕ) → IsWithin old block start len → IsWithin new block start len
  pub same : (block start len : ℕ) → IsWithin old block start len
      → part new block start len ≡ part old block start len

-- each part of the old texts in block `least` or a later one, counted from the first block, is also a part of the new
-- texts, with the same bytes; the new texts begin `least` blocks later
pub record KeepsFrom (least : ℕ) (old new : TextsValue) : Type 0 where
  pub steps : (block : ℕ) → least ≤ steps_to old.base block → steps_to new.base block + least ≡ steps_to old.base block
  pub within : (block start len : ℕ) → least ≤ steps_to old.base block → IsWithin old block start len
      → IsWithin new block start len
  pub same : (block start len : ℕ) → least ≤ steps_to old.base block → IsWithin old block start len
      → part new block start len ≡ part old block start len

-- The last block has room for the reserved bytes. Numbers of 32 bits can say in which block and where these begin.
pub record HasRoom (blocks len capacity room : ℕ) : Type 0 where
  pub taken : len + room ≤ capacity
  pub few : blocks < 4294967296
  pub short : 0 < room → len < 4294967296
