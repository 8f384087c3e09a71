-- States of the map while objects are loaded.
use Rattle.std.specs.Prelude.{ℕ, ◌<◌, List, [], ◌∷◌, ◌++◌, Some}
use Rattle.entry.specs.declared.entry.Object.{Object}
use Rattle.entry.specs.declared.entry.Entry.{Entry}
use Rattle.entry.specs.declared.entry.Entry.TheVariants as entry
use Rattle.entry.specs.Meaning.{IsOfKey, among, versioned}
use Rattle.versioned_map.specs.Represents.{Represents}
use Rattle.versioned_map.specs.Versioned.{State, with_contents}

-- the state with an object that was loaded
abbrev pub with_loaded : State → Object → State
with_loaded st o = record { contents = with_contents st.contents o.key (Some (versioned o)); safe = st.safe }

-- ---- law

-- If a bag represents a state and has no entry of an object's key, and the object's version is below the safe version,
-- then the bag with this object represents the state with this object loaded.
abbrev pub LoadedIsRepresented : Type 0
LoadedIsRepresented = (recorded : ℕ) (bag : List Entry) (st : State) (o : Object) → Represents recorded bag st
    → ((f : Entry) → among bag f → IsOfKey o.key f → ⊥) → o.version < st.safe
    → Represents recorded (bag ++ entry.Object o ∷ []) (with_loaded st o)
