-- What is counted of segments, and what steps make of it.
use Rattle.std.specs.Prelude.{◌≡◌, ◌⊎◌, ⊤, ℕ, ◌+◌, ◌-◌, ◌^◌, ◌<◌, ◌≤◌, ◌==◌, List, [], ◌∷◌, length, slice_index_or}
use Rattle.std.specs.Prelude.{true, false, if◌then◌else◌}
use Rattle.std.specs.List.{AllByRecursion}
use Rattle.entry.specs.declared.entry.Entry.{Entry}
use Rattle.entry.specs.Bag.{IsAmong}
use Rattle.places.specs.Map.{Places}
use Rattle.compactor.specs.Kept.{has_id}
use Rattle.tally.specs.declared.tallies.Tally.{Tally}
use Rattle.tally.specs.Live.{live_bytes, stone_bytes}

-- What a tally says of its segment, by the ids of the log, an index and images.
pub record IsRight (ids : List ℕ) (held : Places) (images : ℕ → List Entry) (row : Tally) : Type 0 where
  pub live : row.live ≡ live_bytes held row.segment (images row.segment)
  -- a fresh one has the bytes of the tombstones that are kept
  pub stones : row.is_fresh ≡ true → row.stones ≡ stone_bytes ids (images row.segment)

-- Each tally is right. A segment may have none.
abbrev pub AreRight : List ℕ → Places → (ℕ → List Entry) → List Tally → Type 0
AreRight ids held images rows = (row : Tally) → IsAmong row rows → IsRight ids held images row

-- no tally is of this segment
abbrev pub HasNo : ℕ → List Tally → Type 0
HasNo segment rows = (row : Tally) → IsAmong row rows → row.segment ≡ segment → ⊥

-- the segment of each tally is above the segments of all tallies before it
abbrev pub AreRising : List Tally → Type 0
AreRising [] = ⊤
AreRising (row ∷ rows) = AllByRecursion (λ (other : Tally). row.segment < other.segment) rows × AreRising rows

-- the list has a tally at this place, and it is of this segment
pub record IsPlaceOf (rows : List Tally) (segment at : ℕ) : Type 0 where
  pub within : at < length rows
  pub is : (d : Tally) → (slice_index_or rows at d).segment ≡ segment

-- the place behind all tallies of segments that aren't above this one
pub record IsPlaceFor (rows : List Tally) (segment at : ℕ) : Type 0 where
  pub within : at ≤ length rows
  pub low : (k : ℕ) (d : Tally) → k < at → (slice_index_or rows k d).segment ≤ segment
  pub high : (k : ℕ) (d : Tally) → at ≤ k → k < length rows → segment < (slice_index_or rows k d).segment

-- ---- what a step makes of one tally

-- so many bytes more of live objects and of kept tombstones
abbrev pub more : ℕ → ℕ → Tally → Tally
more live stones row = record row { live = row.live + live; stones = row.stones + stones }

-- so many bytes fewer of live objects
abbrev pub less : ℕ → Tally → Tally
less live row = record row { live = row.live - live }

-- a segment that has neither objects nor tombstones
abbrev pub of_nothing : ℕ → Tally
of_nothing segment = record { segment = segment; live = 0; stones = 0; is_fresh = true }

-- a segment that was counted
abbrev pub exact : ℕ → ℕ → ℕ → Tally
exact segment live stones = record { segment = segment; live = live; stones = stones; is_fresh = true }

-- the kept tombstones may have become fewer
abbrev pub staled : Tally → Tally
staled row = if row.stones == 0 then row else record row { is_fresh = false }

-- ---- what a step makes of all

-- Each is an old one of another segment, or what became of an old one of this segment.
abbrev pub IsChangedAt : ℕ → (Tally → Tally) → List Tally → List Tally → Type 0
IsChangedAt segment change old new = (row : Tally) → IsAmong row new
    → (IsAmong row old × (row.segment ≡ segment → ⊥))
    ⊎ ((was : Tally) × IsAmong was old × (was.segment ≡ segment) × (row ≡ change was))

-- Each is an old one, or this one.
abbrev pub WithOne : Tally → List Tally → List Tally → Type 0
WithOne one old new = (row : Tally) → IsAmong row new → IsAmong row old ⊎ (row ≡ one)

-- Each is an old one, none of a victim, with tombstones that may have become fewer.
abbrev pub IsCommitted : List ℕ → List Tally → List Tally → Type 0
IsCommitted victims old new = (row : Tally) → IsAmong row new
    → (was : Tally) × IsAmong was old × (has_id victims was.segment ≡ false) × (row ≡ staled was)

-- ---- what a step leaves

-- the counts that a tally can have
abbrev pub Fits : Tally → Type 0
Fits row = (row.live < 2 ^ 32) × (row.stones < 2 ^ 32)

-- Each tally of another segment stays.
abbrev pub OthersAreKept : ℕ → List Tally → List Tally → Type 0
OthersAreKept segment old new = (row : Tally) → IsAmong row old → (row.segment ≡ segment → ⊥) → IsAmong row new

-- Each tally stays.
abbrev pub AllAreKept : List Tally → List Tally → Type 0
AllAreKept old new = (row : Tally) → IsAmong row old → IsAmong row new

-- The tally of this segment, if there is one, is changed and stays, unless a count is too large.
abbrev pub IsKeptAt : ℕ → (Tally → Tally) → List Tally → List Tally → Type 0
IsKeptAt segment change old new = (row : Tally) → IsAmong row old → row.segment ≡ segment
    → Fits (change row) → IsAmong (change row) new

-- Each tally stays that is of no victim.
abbrev pub AreKeptBut : List ℕ → List Tally → List Tally → Type 0
AreKeptBut victims old new = (row : Tally) → IsAmong row old → has_id victims row.segment ≡ false
    → IsAmong (staled row) new
