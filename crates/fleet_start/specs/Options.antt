-- Which options of a store a start asks for.
use Rattle.std.specs.Prelude.{◌≡◌, ◌<◌, ℕ, List, Option, Some}
use Rattle.std.specs.List.{slice_get}

-- the option isn't asked for, or it is the store's
abbrev pub IsMet : List ℕ → ℕ → Option ℕ → Type 0
IsMet kept i asked = (x : ℕ) → asked ≡ Some x → slice_get kept i ≡ Some x

-- the option is asked for, and the store lacks it or has another one
abbrev pub IsOther : List ℕ → ℕ → Option ℕ → Type 0
IsOther kept i asked = (x : ℕ) × (asked ≡ Some x) × (slice_get kept i ≡ Some x → ⊥)

-- of the first n options, all that are asked for are the store's
abbrev pub AreMet : ℕ → List ℕ → List (Option ℕ) → Type 0
AreMet n kept asked = (i : ℕ) (o : Option ℕ) → i < n → slice_get asked i ≡ Some o → IsMet kept i o

-- the option of this number is another one
abbrev pub DiffersAt : ℕ → List ℕ → List (Option ℕ) → Type 0
DiffersAt i kept asked = (o : Option ℕ) × (slice_get asked i ≡ Some o) × IsOther kept i o
