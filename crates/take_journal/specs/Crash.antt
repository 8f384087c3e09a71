-- What a crash may leave of a journal.
use Rattle.std.specs.Prelude.{◌≡◌, ◌≢◌, ◌⊎◌, ℕ, ◌≤◌, List, [], ◌∷◌, ◌++◌, length, take, drop, ⊤}
use Rattle.take_journal.specs.declared.fault.OpenFault.{OpenFault}
use Rattle.take_journal.specs.declared.fault.OpenFault.TheVariants.{Damaged, Failed, NoMemory, OtherVersion}
use Rattle.take_journal.specs.Frames.{AreShort, at_rest, frames, recovered}

-- the file stands for the texts, with these further ones or without them
abbrev pub IsBeforeOrAfter : List (List ℕ) → List (List ℕ) → List ℕ → Type 0
IsBeforeOrAfter texts more file = (recovered file ≡ texts) ⊎ (recovered file ≡ texts ++ more)

-- a closed gate, and any bytes behind it
abbrev pub IsShut : List ℕ → Type 0
IsShut end = (rest : List ℕ) × (end ≡ 0 ∷ rest)

-- a front of what stands behind an opened gate: the rest of its frame, whole frames, and a closed gate
abbrev pub IsFront : List ℕ → Type 0
IsFront behind = (texts : List (List ℕ)) × (n : ℕ) × AreShort texts × (behind ≡ take n (drop 1 (at_rest texts)))

-- such bytes behind a gate that a crash tore as it was opened
abbrev pub IsTornGate : List ℕ → Type 0
IsTornGate end = (gate : ℕ) × (behind : List ℕ) × (gate ≢ 1) × (end ≡ gate ∷ behind) × IsFront behind

-- what a crash may leave behind the frames that count
abbrev pub IsTornEnd : List ℕ → Type 0
IsTornEnd end = (length end ≤ 1) ⊎ (IsShut end ⊎ IsTornGate end)

-- A crash may leave this file of a journal. Any other file is damaged.
pub record MayBeLeft (file : List ℕ) : Type 0 where
  pub texts : List (List ℕ)
  pub end : List ℕ
  pub short : AreShort texts
  pub split : file ≡ frames texts ++ end
  pub torn : IsTornEnd end

-- what a crash leaves of an append of these further texts
pub record LeftByAppend (old more : List (List ℕ)) (file : List ℕ) : Type 0 where
  pub texts : IsBeforeOrAfter old more file
  pub left : MayBeLeft file

-- what a crash leaves while the end of this file is mended
pub record LeftByMending (old file : List ℕ) : Type 0 where
  pub same : recovered file ≡ recovered old
  pub left : MayBeLeft old → MayBeLeft file

-- ---- what a reader tells

-- nothing, a closed gate as the last byte, or an open gate
abbrev pub IsTail : List ℕ → Type 0
IsTail end = (end ≡ []) ⊎ ((end ≡ 0 ∷ []) ⊎ ((rest : List ℕ) × (end ≡ 1 ∷ rest)))

-- the first text, if there is one, begins with the version of this format
abbrev pub HasVersion : List (List ℕ) → Type 0
HasVersion [] = ⊤
HasVersion ([] ∷ texts) = ⊥
HasVersion ((version ∷ text) ∷ texts) = version ≡ 1

-- a file is named damaged only if no crash can have left it, and from the first byte on that doesn't count
abbrev pub TellsDamage : OpenFault → List ℕ → Type 0
TellsDamage (Damaged at) file = (at ≡ length (frames (recovered file))) × (MayBeLeft file → ⊥)
TellsDamage OtherVersion file = ⊤
TellsDamage NoMemory file = ⊤
TellsDamage Failed file = ⊤
