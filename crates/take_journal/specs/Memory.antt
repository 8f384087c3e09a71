-- A device in memory, as contracts see it.
use Rattle.std.specs.Prelude.{◌⊎◌, ℕ, Bool, List, length}
use Rattle.take_journal.specs.Past.{IsAmong, IsEither}
use Rattle.take_journal.specs.declared.memory.MemoryDevice.{MemoryDevice}

abbrev pub memory_bytes : MemoryDevice → List ℕ
memory_bytes m = m.bytes.items

abbrev pub memory_clock : MemoryDevice → ℕ
memory_clock m = length m.past.items

abbrev pub memory_leaves : MemoryDevice → List ℕ → Type 0
memory_leaves m file = IsEither m.bytes.items m.disk.items file

abbrev pub memory_left_since : MemoryDevice → ℕ → List ℕ → Type 0
memory_left_since m moment file = IsEither m.bytes.items m.disk.items file ⊎ IsAmong moment m.past.items file

abbrev pub memory_has_failed : MemoryDevice → Bool
memory_has_failed m = m.has_failed
