-- What the bytes of replicas are.
use Rattle.std.specs.Prelude.{◌≡◌, ℕ, List, Some, IsSomeAnd}
use Rattle.entry.specs.declared.entry.Header.{Header}
use Rattle.entry.specs.Text.{header_in, opening_in}
use Rattle.segment.specs.Bytes.{IsSegmentBytes}
use Rattle.replica.specs.Picture.{Replica, Picture}

-- The bytes are the text of a segment, and its header names this master and this segment.
pub record IsTextOfSegment (bytes : List ℕ) (master segment : ℕ) : Type 0 where
  pub text : IsSegmentBytes bytes
  pub header : IsSomeAnd (header_in bytes) (λ (h : Header). (h.master ≡ master) × (h.segment ≡ segment))

-- any two replicas of a segment have the same opening, so the same digest
abbrev pub BearOneDigest : Picture → ℕ → Type 0
BearOneDigest p master = (b c s : ℕ) (r q : Replica) → p b master s ≡ Some r → p c master s ≡ Some q
    → opening_in r.bytes ≡ opening_in q.bytes
