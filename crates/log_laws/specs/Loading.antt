-- What a log set has while it is loaded.
use Rattle.std.specs.Prelude.{◌≡◌, ℕ, None}
use Rattle.entry.specs.declared.key.Key.{Key}
use Rattle.entry.specs.declared.entry.Entry.{Entry}
use Rattle.entry.specs.Meaning.{Contents, IsOfKey}
use Rattle.log_laws.specs.Memory.{LogSet, SegmentHas}

-- ---- what holds while it loads

-- The log set has no entry of a key that these contents lack.
abbrev pub HasOnly : LogSet → Contents → Type 0
HasOnly log contents = (k : Key) (s : ℕ) (e : Entry) → contents k ≡ None → SegmentHas log s e → IsOfKey k e → ⊥
