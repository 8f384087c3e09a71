-- Which bytes of a line are raw ones. A raw part of a line is its length in decimal digits, a colon, and so many bytes
-- of any kind; it begins where a word begins. A line that begins with `#` has none.
use Rattle.std.specs.Prelude.{◌≡◌, ◌==◌, ◌*◌, ◌+◌, ◌-◌, ℕ, nat_le, if◌then◌else◌, ◌&&◌, Bool, true, false, List, []}
use Rattle.std.specs.Prelude.{◌∷◌}
use Rattle.lines.specs.declared.scan.Scan.{Scan}
use Rattle.lines.specs.declared.scan.Scan.TheVariants as scan

-- the most bytes of a line, with raw bytes or without
abbrev pub line_limit : Bool → ℕ
line_limit true = 2101248
line_limit false = 4096

abbrev pub is_digit : ℕ → Bool
is_digit b = nat_le 48 b && nat_le b 57

-- before so many raw bytes, or behind the last of them
abbrev pub left : ℕ → Scan
left n = if n == 0 then scan.Within else scan.Bytes n

-- a space ends a word
abbrev pub next_of_word : ℕ → Scan
next_of_word b = if b == 32 then scan.Between else scan.Within

abbrev pub first_of_word : ℕ → Scan
first_of_word b = if is_digit b then scan.Length (b - 48) else next_of_word b

-- one digit more; no length is above 2,097,152
abbrev pub longer : ℕ → ℕ → Scan
longer n digit = if nat_le (n * 10 + digit) 2097152 then scan.Length (n * 10 + digit) else scan.Within

-- a colon behind the digits ends a length
abbrev pub next_digit : ℕ → ℕ → Scan
next_digit n b = if is_digit b then longer n (b - 48) else (if b == 58 then left n else next_of_word b)

-- how a line stands behind one byte more
abbrev pub step : Scan → ℕ → Scan
step scan.Words b = scan.Words
step scan.Start b = if b == 35 then scan.Words else first_of_word b
step scan.Between b = first_of_word b
step scan.Within b = next_of_word b
step (scan.Length n) b = next_digit n b
step (scan.Bytes n) b = left (n - 1)

-- how a line stands at its start, with raw bytes or without
abbrev pub starts : Bool → Scan
starts true = scan.Start
starts false = scan.Words

-- how it stands behind the bytes
abbrev pub behind : Scan → List ℕ → Scan
behind s [] = s
behind s (b ∷ bs) = behind (step s b) bs

-- the next byte is a raw one
abbrev pub IsInBytes : Scan → Type 0
IsInBytes (scan.Bytes n) = Unit {0}
IsInBytes _ = ⊥

-- each line feed among the bytes is a raw byte
abbrev pub HoldsTogether : Scan → List ℕ → Type 0
HoldsTogether s [] = Unit {0}
HoldsTogether s (b ∷ bs) = (b ≡ 10 → IsInBytes s) × HoldsTogether (step s b) bs
