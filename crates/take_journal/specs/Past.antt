-- What a device in memory has, and what it has had.
use Rattle.std.specs.Prelude.{◌≡◌, ◌⊎◌, ◌≤◌, ℕ, List, [], ◌∷◌, ◌++◌, Some, Vec, length, slice_get}
use Rattle.std.proofs.Common.{inl, inr, sym, ◌∙◌}
use Rattle.std.proofs.lemmas.Option.{none-some, slice_get_past}
use Rattle.std.specs.declared.alloc.Global.{Global}

-- what a read returns, or what the disk has
abbrev pub IsEither : List ℕ → List ℕ → List ℕ → Type 0
IsEither bytes disk file = (file ≡ bytes) ⊎ (file ≡ disk)

-- one of the contents from place n on is this file
abbrev pub IsAmong : ℕ → List (Vec ℕ Global) → List ℕ → Type 0
IsAmong n past file = (i : ℕ) × (v : Vec ℕ Global) × (n ≤ i) × (slice_get past i ≡ Some v) × (file ≡ v.items)

-- both contents have joined the past ones
abbrev pub IsTurned : List (Vec ℕ Global) → List ℕ → List ℕ → List (Vec ℕ Global) → Type 0
IsTurned past bytes disk later = (v : Vec ℕ Global) × (w : Vec ℕ Global) × (v.items ≡ bytes) × (w.items ≡ disk)
    × (later ≡ (past ++ v ∷ []) ++ w ∷ [])

-- since the last of them there is only what is there now
pub just_either : (bytes disk : List ℕ) (past : List (Vec ℕ Global)) (file : List ℕ)
    → IsEither bytes disk file ⊎ IsAmong (length past) past file → IsEither bytes disk file
just_either bytes disk past file (inl now) = now
just_either bytes disk past file (inr found) =
    absurd (none-some found.1 (sym (slice_get_past past found.0 found.2) ∙ found.3))
