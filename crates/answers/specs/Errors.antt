-- What is written, and what is written to the error output.
use Rattle.std.specs.Prelude.{◌≡◌, ℕ, List, [], ◌∷◌, ◌++◌, Bool, true, false, Option, Result, Ok, Err}
use Rattle.std.specs.Io.KnownBytes.{Appends, Keeps}

-- what an error output holds, whether writing to it has failed, and whether it is to explain faults
pub record Errors : Type 0 where
  pub holds : Option (List ℕ)
  pub has_failed : Bool
  pub explains : Bool

-- a front of the bytes was written, and nothing else
abbrev pub AppendsFront : Option (List ℕ) → Option (List ℕ) → List ℕ → Type 0
AppendsFront held holds bytes = (front : List ℕ) × (rest : List ℕ) × (bytes ≡ front ++ rest) × Appends held holds front

-- the bytes were handed to a writer: it took all of them or, if it failed, a front
abbrev pub IsHanded : {E : Type 0} → Option (List ℕ) → Option (List ℕ) → List ℕ → Result (Unit {0}) E → Type 0
IsHanded held holds bytes (Ok done) = Appends held holds bytes
IsHanded held holds bytes (Err e) = AppendsFront held holds bytes

-- what was written of the bytes, by whether writing had failed before, and whether it has failed now
abbrev pub WritesUnless : Bool → Bool → Option (List ℕ) → Option (List ℕ) → List ℕ → Type 0
WritesUnless false false held holds bytes = Appends held holds bytes
WritesUnless false true held holds bytes = AppendsFront held holds bytes
WritesUnless true false held holds bytes = ⊥
WritesUnless true true held holds bytes = Keeps held holds

-- All of the bytes were written. Only if writing failed, a front of them was. Once it has failed, nothing is written.
pub record Writes (old new : Errors) (bytes : List ℕ) : Type 0 where
  pub written : WritesUnless old.has_failed new.has_failed old.holds new.holds bytes
  pub explains : new.explains ≡ old.explains

-- these bytes were written to the error output; without bytes it is as it was
abbrev pub Reports : Errors → Errors → List ℕ → Type 0
Reports old new [] = new ≡ old
Reports old new (b ∷ bs) = Writes old new (b ∷ bs)
