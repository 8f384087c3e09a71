-- When a log that is intact with one memory is intact with another: the index may name other places of the same
-- objects.
use Rattle.std.specs.Prelude.{◌≡◌, ℕ, [], Some, None}
use Rattle.entry.specs.declared.key.Key.{Key}
use Rattle.entry.specs.declared.entry.Tombstone.{Tombstone}
use Rattle.entry.specs.declared.entry.Entry.{Entry}
use Rattle.entry.specs.declared.entry.Entry.TheVariants as entry
use Rattle.entry.specs.Bag.{IsAmong}
use Rattle.entry.specs.Meaning.{Versioned, object_at}
use Rattle.log_bytes.specs.log_laws.Memory.{Place, StandsAt}
use Rattle.log_bytes.specs.log_laws.Data.{FailData}
use Rattle.log_bytes.specs.log_laws.Shown.{Shown}
use Rattle.log_memory.specs.Covered.{map_of}
use Rattle.log_memory.specs.Intact.{IsIntact, IsIntactWith, Knows}
use Rattle.log_memory.specs.Memory.{Spot, FailMemory, log_ids}

-- Both indexes lead from the key to one segment, and the key's object stands at the place that the other index names.
pub record IsFoundInBoth (m n : FailMemory) (k : Key) (x : Versioned) : Type 0 where
  pub place : Place
  pub other : Place
  pub indexed : m.index k ≡ Some place
  pub other_indexed : n.index k ≡ Some other
  pub segment : other.segment ≡ place.segment
  pub stands : StandsAt m.images other (object_at k x)

-- The memory `n` has the same pass as `m`, the same images of segments of the log set, and an index that leads to the
-- same objects.
pub record IsSameMemory (d : FailData) (m n : FailMemory) : Type 0 where
  pub pass : n.pass ≡ m.pass
  pub images : (s : ℕ) → IsAmong s (log_ids d m) → n.images s ≡ m.images s
  -- of no segment it has an entry that the first memory lacks
  pub fewer : (s : ℕ) (e : Entry) → IsAmong e (n.images s) → IsAmong e (m.images s)
  pub found : (k : Key) (x : Versioned) → map_of d k ≡ Some x → IsFoundInBoth m n k x
  pub unindexed : (k : Key) → map_of d k ≡ None → n.index k ≡ None
  -- a place in a victim that the other index names lies ahead of the other cursor
  pub live : (k : Key) (p : Place) → n.index k ≡ Some p → IsAmong p.segment m.pass.victims → IsAmong p n.rest
  -- a tombstone in a victim that names a segment of the log set lies ahead of the other cursor if it lies ahead of the
  -- first one
  pub carried : (p : Place) (t : Tombstone) → IsAmong p.segment m.pass.victims
      → StandsAt m.images p (entry.Tombstone t) → IsAmong t.segment (log_ids d m) → IsAmong p m.rest
      → IsAmong p n.rest
  pub done : m.rest ≡ [] → n.rest ≡ []
  pub commits : n.commits ≡ m.commits
  -- fewer replicas may wait to be freed
  pub waiting : (w : Spot) → IsAmong w n.waiting → IsAmong w m.waiting

-- ---- laws

-- The log is intact with another memory that has the same images and pass, and whose index leads to the same objects.
abbrev pub SameIsIntact : Type 0
SameIsIntact = (d : FailData) (m n : FailMemory) (p : Shown) → (i : IsIntact d m p) → IsSameMemory d m n
    → IsIntactWith i.past d n p

-- The master knows with such a memory what it knew with the first one.
abbrev pub SameKnows : Type 0
SameKnows = (d : FailData) (m n : FailMemory) (p : Shown) → Knows d m p → IsSameMemory d m n → Knows d n p
