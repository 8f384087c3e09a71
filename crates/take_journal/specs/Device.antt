-- What the calls of a device make of its file, and what a crash may leave of them.
use Rattle.std.specs.Prelude.{◌≡◌, ◌⊎◌, ℕ, ◌+◌, ◌≤◌, List, ◌++◌, length, take, drop}

-- the file with these bytes in the place of those from `at` on
abbrev pub overwritten : ℕ → List ℕ → List ℕ → List ℕ
overwritten at bytes file = take at file ++ (bytes ++ drop (at + length bytes) file)

-- A crash during a write of n bytes leaves any bytes there, at most n. Of a shorter disk nothing is said.
abbrev pub IsTornWrite : ℕ → ℕ → List ℕ → List ℕ → Type 0
IsTornWrite at n old new = at ≤ length old → (junk : List ℕ) × (length junk ≤ n) × (new ≡ overwritten at junk old)

-- A crash during a cut to len bytes leaves those, and maybe some of the bytes behind them.
abbrev pub IsTornCut : ℕ → List ℕ → List ℕ → Type 0
IsTornCut len old new = len ≤ length old → (n : ℕ) × (len ≤ n) × (new ≡ take n old)

-- whatever a crash may leave now comes by this step of what it might have left before
abbrev pub EachFrom : (List ℕ → List ℕ → Type 0) → (List ℕ → Type 0) → (List ℕ → Type 0) → Type 0
EachFrom step before now = (file : List ℕ) → now file → (old : List ℕ) × before old × step old file

-- a crash leaves this file and no other
abbrev pub LeavesJust : List ℕ → (List ℕ → Type 0) → Type 0
LeavesJust file may_leave = (left : List ℕ) → may_leave left → left ≡ file

-- One call goes by. What a crash may leave now counts as left since each earlier moment, beside what counted before.
pub record Passes {D : Type 0} (clock : D → ℕ) (left_since : D → ℕ → List ℕ → Type 0) (may_leave : D → List ℕ → Type 0)
    (old new : D) : Type 0 where
  pub onward : clock old ≤ clock new
  pub keeps : (moment : ℕ) (file : List ℕ) → moment ≤ clock old → left_since old moment file
      → left_since new moment file
  pub adds : (moment : ℕ) (file : List ℕ) → moment ≤ clock old → left_since new moment file
      → left_since old moment file ⊎ may_leave new file

-- At any moment from old to new, amid calls too, a crash leaves a file of which P holds.
pub record AnyMoment {D : Type 0} (clock : D → ℕ) (left_since : D → ℕ → List ℕ → Type 0) (P : List ℕ → Type 0)
    (old new : D) : Type 0 where
  pub onward : clock old ≤ clock new
  pub each : (file : List ℕ) → left_since new (clock old) file → P file
  -- for a longer run, of which this is a part
  pub adds : (moment : ℕ) (file : List ℕ) → moment ≤ clock old → left_since new moment file
      → left_since old moment file ⊎ P file
