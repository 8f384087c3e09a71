-- The laws of a device, for the moments of a file: how many events there were.
use Rattle.std.specs.Prelude.{ℕ, ◌≤◌, List, [], ◌∷◌, length}
use Rattle.std.proofs.Common.{inl, inr}
use Rattle.std.proofs.Math.Nat.{not-suc-le_self}
use Rattle.disk_file.specs.Events.{Event}
use Rattle.disk_file.specs.Standing.{MayLeave, LeftSince}

pub counts_now_in : (es : List Event) (moment : ℕ) (file : List ℕ) → moment ≤ length es → MayLeave es file
    → LeftSince es moment file
counts_now_in [] moment file is_past leaves = tt
counts_now_in (e ∷ es) moment file is_past leaves = inl leaves

pub just_now_in : (es : List Event) (file : List ℕ) → LeftSince es (length es) file → MayLeave es file
just_now_in [] file left = tt
just_now_in (e ∷ es) file (inl leaves) = leaves
just_now_in (e ∷ es) file (inr left) = absurd (not-suc-le_self (length es) left.0)
