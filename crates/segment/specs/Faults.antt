-- Which fault a reader of segments answers if it gives no segment.
use Rattle.std.specs.Prelude.{◌≡◌, ℕ, ◌<◌, ◌≤◌, List, [], ◌∷◌, ◌++◌, length, take, drop, Some, false, ◌⊎◌}
use Rattle.std.specs.List.{AllByRecursion}
use Rattle.entry.specs.declared.entry.Entry.{Entry}
use Rattle.entry.specs.declared.fault.EntryFault.{EntryFault}
use Rattle.entry.specs.Format.{IsEntry, Begins, first_fault}
use Rattle.entry.specs.Text.{text_of, is_whole, IsBeginning, IsSegmentText}
use Rattle.segment.specs.declared.fault.SegmentFault.{SegmentFault}
use Rattle.segment.specs.declared.fault.SegmentFault.TheVariants.{BadEntry, BadOrder, TooLong, NoMemory}

-- the bytes before the offset are the text of these entries, and some segment begins with them
pub record StandBefore (bytes : List ℕ) (at : ℕ) (before : List Entry) : Type 0 where
  pub within : at ≤ length bytes
  pub text : take at bytes ≡ text_of before
  pub each : AllByRecursion IsEntry before
  pub order : IsBeginning before

-- there are bytes from the offset on, and no entry can be read there
abbrev pub IsUnreadable : List ℕ → ℕ → Type 0
IsUnreadable bytes at = (at < length bytes) × ((fault : EntryFault) × (first_fault (drop at bytes) ≡ Some fault))

-- an entry is at the offset, and no segment begins with these entries and then this one
abbrev pub IsMisplaced : List ℕ → ℕ → List Entry → Type 0
IsMisplaced bytes at before =
    (e : Entry) × (len : ℕ) × Begins (drop at bytes) e len × (IsBeginning (before ++ e ∷ []) → ⊥)

-- the bytes end at the offset, and these entries are no whole segment
abbrev pub EndsEarly : List ℕ → ℕ → List Entry → Type 0
EndsEarly bytes at before = (at ≡ length bytes) × (is_whole before ≡ false)

-- some segment begins with the bytes before the offset, and then a wrong entry comes, or the end comes too early
abbrev pub IsBadOrder : List ℕ → ℕ → Type 0
IsBadOrder bytes at =
    (before : List Entry) × (StandBefore bytes at before) × (IsMisplaced bytes at before ⊎ EndsEarly bytes at before)

-- some segment begins with the bytes before the offset, and no entry can be read at the offset
abbrev pub IsBadEntry : List ℕ → ℕ → Type 0
IsBadEntry bytes at = (before : List Entry) × (StandBefore bytes at before) × IsUnreadable bytes at

-- this fault names the first test that the bytes fail; NoMemory comes only if they fail none
abbrev pub IsSegmentFault : List ℕ → SegmentFault → Type 0
IsSegmentFault bytes TooLong = 8388608 < length bytes
IsSegmentFault bytes (BadEntry at) = (length bytes ≤ 8388608) × IsBadEntry bytes at
IsSegmentFault bytes (BadOrder at) = (length bytes ≤ 8388608) × IsBadOrder bytes at
IsSegmentFault bytes NoMemory = (length bytes ≤ 8388608) × IsSegmentText bytes

-- ---- a law

-- Any bytes have at most one fault.
abbrev pub FaultsAreOne : Type 0
FaultsAreOne = (bytes : List ℕ) (f g : SegmentFault) → IsSegmentFault bytes f → IsSegmentFault bytes g → f ≡ g
