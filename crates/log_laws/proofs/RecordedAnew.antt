-- A bag that represents a state, with another recorded safe version.
use Rattle.std.proofs.Common.{ℕ, List, arith}
use Rattle.entry.specs.declared.entry.Entry.{Entry}
use Rattle.versioned_map.specs.Represents.{Represents}
use Rattle.versioned_map.specs.Versioned.{State}

-- a bag that represents a state does so with the state's own safe version
pub recorded_anew : (recorded : ℕ) (bag : List Entry) (st : State) → Represents recorded bag st
    → Represents st.safe bag st
recorded_anew recorded bag st is = record {
  meaning = is.meaning;
  clean = is.clean;
  below = is.below;
  safe = omega arith;
}
