-- What a replica's bytes say: the opening of a head, and objects and tombstones.
use Rattle.std.specs.Prelude.{◌≡◌, ℕ, ◌+◌, ◌*◌, ◌≤◌, ◌⊎◌, List, length, Bool, false, Option, Some, None, IfSome}
use Rattle.entry.specs.declared.digest.Digest.{Digest}
use Rattle.entry.specs.declared.digest.Digest.TheVariants as digest
use Rattle.entry.specs.declared.entry.Entry.{Entry}
use Rattle.entry.specs.Text.{Opening, text_of, listed_len}

-- the text of a segment: its opening, if it is a head, and its objects and tombstones; a survivor has no opening
pub record Text : Type 0 where
  pub opening : Option Opening
  pub entries : List Entry

-- how many bytes a head's header, digest and safe version have
abbrev pub digest_length : Digest → ℕ
digest_length (digest.Ids ids) = 32 + 8 * length ids
digest_length (digest.Lengths segments) = 32 + 16 * length segments

-- how many bytes come before objects and tombstones: a survivor has a header alone
abbrev pub opening_length : Option Opening → ℕ
opening_length None = 18
opening_length (Some o) = digest_length o.digest

-- how many bytes the text has
abbrev pub length_of : Text → ℕ
length_of t = opening_length t.opening + length (text_of t.entries)

pub record Replica : Type 0 where
  pub text : Text
  pub is_open : Bool

-- A recovery may use the replica for this id of a digest if the replica is closed, or has at least the length that the
-- digest lists for the id. If the digest lists no length for the id, a recovery may use any replica.
abbrev pub IsUsable : Digest → ℕ → Replica → Type 0
IsUsable digest id r = (r.is_open ≡ false) ⊎ IfSome (listed_len id digest) (λ n. n ≤ length_of r.text)
