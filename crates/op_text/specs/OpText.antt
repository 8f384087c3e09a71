-- The text of an op: a byte for its kind, its master, its segment, and what its act has.
use Rattle.std.specs.Prelude.{◌≡◌, ℕ, ◌<◌, ◌^◌, List, [], ◌∷◌, ◌++◌, length, drop, Option, Some, None}
use Rattle.std.specs.Prelude.{nat_le, ◌==◌, if◌then◌else◌}
use Rattle.std.specs.Option.{option_map}
use Rattle.entry.specs.Format.{number_at, number_bytes}
use Rattle.entry.specs.Key.{IsBytes}
use Rattle.replica.specs.Op.{ActValue, Open, Extend, Close, Seal, Free, OpValue}

-- ---- spelling

abbrev pub kind_of : ActValue → ℕ
kind_of (Open bytes) = 1
kind_of (Extend at bytes) = 2
kind_of Close = 3
kind_of (Seal bytes) = 4
kind_of Free = 5

-- what stands behind the numbers of the op
abbrev pub rest_of : ActValue → List ℕ
rest_of (Open bytes) = bytes
rest_of (Extend at bytes) = number_bytes 8 at ++ bytes
rest_of Close = []
rest_of (Seal bytes) = bytes
rest_of Free = []

abbrev pub op_text : OpValue → List ℕ
op_text op = kind_of op.act ∷ number_bytes 8 op.master ++ number_bytes 8 op.segment ++ rest_of op.act

-- ---- reading

-- the act of a kind, and of what stands behind the numbers of its op
abbrev pub act_in : ℕ → List ℕ → Option ActValue
act_in kind rest =
    if kind == 1 then Some (Open rest)
    else (if kind == 2 then (if nat_le 8 (length rest) then Some (Extend (number_at 8 0 rest) (drop 8 rest)) else None)
    else (if kind == 3 then (if length rest == 0 then Some Close else None)
    else (if kind == 4 then Some (Seal rest)
    else (if kind == 5 then (if length rest == 0 then Some Free else None)
    else None))))

-- the op with the numbers that these bytes begin with
abbrev pub op_with : List ℕ → ActValue → OpValue
op_with rest act = record { master = number_at 8 0 rest; segment = number_at 8 8 rest; act = act }

-- the op of a kind, and of what stands behind it
abbrev pub op_behind : ℕ → List ℕ → Option OpValue
op_behind kind rest =
    if nat_le 16 (length rest) then option_map (op_with rest) (act_in kind (drop 16 rest)) else None

-- the op of a text; None if it is no op's
abbrev pub op_in : List ℕ → Option OpValue
op_in [] = None
op_in (kind ∷ rest) = op_behind kind rest

-- ---- laws

abbrev pub fits_act : ActValue → Type 0
fits_act (Open bytes) = Unit {0}
fits_act (Extend at bytes) = at < 2 ^ 64
fits_act Close = Unit {0}
fits_act (Seal bytes) = Unit {0}
fits_act Free = Unit {0}

-- The numbers of the op have 64 bits.
pub record FitsText (op : OpValue) : Type 0 where
  pub master : op.master < 2 ^ 64
  pub segment : op.segment < 2 ^ 64
  pub act : fits_act op.act

-- An op is read back from its text.
abbrev pub ReadsBack : Type 0
ReadsBack = (op : OpValue) → FitsText op → op_in (op_text op) ≡ Some op

-- Bytes that are read as an op are the op's text.
abbrev pub HasOneText : Type 0
HasOneText = (text : List ℕ) (op : OpValue) → IsBytes text → op_in text ≡ Some op → (text ≡ op_text op) × FitsText op
