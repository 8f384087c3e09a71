-- Premises of the lemmas on single steps.
use Rattle.std.proofs.Common.{◌≡◌, ℕ, ◌⊎◌, List, length}
use Rattle.std.specs.Prelude.{Option, Some, None}
use Rattle.entry.specs.declared.key.Key.{Key}
use Rattle.entry.specs.declared.entry.Tombstone.{Tombstone as TombstoneValue}
use Rattle.entry.specs.declared.entry.Entry.{Entry}
use Rattle.entry.specs.declared.entry.Entry.TheVariants.{Tombstone}
use Rattle.entry.specs.Bag.{IsAmong}
use Rattle.entry.specs.Meaning.{Versioned, object_at}
use Rattle.log_laws.specs.Memory.{Place, Index, Images, LogSet, Pass, IsAt, SegmentHas}

-- One key's value replaced.
pub record IsSet {X : Type 0} (old new : Key → Option X) (k : Key) (x : Option X) : Type 0 where
  pub here : new k ≡ x
  pub there : (q : Key) → (q ≡ k → ⊥) → new q ≡ old q

-- The kept entries of a segment in its new image.
pub record IsCompacted (ids : List ℕ) (image : Images) (index moved : Index) (s : ℕ) (es : List Entry) : Type 0 where
  pub fewer : (e : Entry) → IsAmong e es → IsAmong e (image s)
  pub tombstones : (t : TombstoneValue) → IsAmong (Tombstone t) (image s) → IsAmong t.segment ids
      → IsAmong (Tombstone t) es
  pub objects : (k : Key) (x : Versioned) (p : Place) → index k ≡ Some p → p.segment ≡ s
      → IsAt (image s) p.position (object_at k x)
      → (j : ℕ) × (moved k ≡ Some (record { segment = s; position = j })) × IsAt es j (object_at k x)
  pub elsewhere : (k : Key) (p : Place) → index k ≡ Some p → (p.segment ≡ s → ⊥) → moved k ≡ Some p
  pub nowhere : (k : Key) → index k ≡ None → moved k ≡ None

-- The log set less the victims.
pub record IsLess (ids : List ℕ) (pass : Pass) (left : List ℕ) : Type 0 where
  pub stays : (s : ℕ) → IsAmong s ids → (IsAmong s pass.victims → ⊥) → IsAmong s left
  pub from : (s : ℕ) → IsAmong s left → IsAmong s ids
  pub gone : (s : ℕ) → IsAmong s left → IsAmong s pass.victims → ⊥

-- One segment's image has one more entry at its end, and nothing else came.
pub record IsAdded (log new : LogSet) (s : ℕ) (e : Entry) : Type 0 where
  pub counted : (z : ℕ) → IsAmong z log.ids → IsAmong z new.ids
  pub out : (z : ℕ) (f : Entry) → SegmentHas new z f → SegmentHas log z f ⊎ ((z ≡ s) × (e ≡ f))
  pub image : (z : ℕ) (f : Entry) → IsAmong f (log.image z) → IsAmong f (new.image z)
  pub places : (z i : ℕ) (f : Entry) → IsAt (log.image z) i f → IsAt (new.image z) i f
  pub last : IsAt (new.image s) (length (log.image s)) e
