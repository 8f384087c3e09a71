-- What the model shows of a master, as replicas with bytes.
use Rattle.std.specs.Prelude.{◌≡◌, ℕ, Some}
use Rattle.std.specs.Option.{option_map}
use Rattle.entry.specs.Text.{opening_in, data_in}
use Rattle.replica.specs.Picture.{Replica, Shown}
use Rattle.log_laws.specs.Text.{Replica as ModelReplica}
use Rattle.log_laws.specs.Shown.{Shown as ModelShown}
use Rattle.log_bytes.specs.Text.{bytes_for, IsWholeText}

-- ---- writing

-- the replica with the bytes of its text
abbrev pub spelled_replica : ℕ → ℕ → ModelReplica → Replica
spelled_replica master segment r = record { bytes = bytes_for master segment r.text; is_open = r.is_open }

-- each replica that the model shows is a whole segment
abbrev pub AreSegments : ℕ → ModelShown → Type 0
AreSegments master p = (b s : ℕ) (r : ModelReplica) → p.holds b s ≡ Some r → IsWholeText master s r.text

-- The replicas of this master, and its least head in the registry, spell what the model shows.
pub record IsSpelled (master : ℕ) (shown : Shown) (p : ModelShown) : Type 0 where
  pub replicas : (b s : ℕ) → shown.holds b master s ≡ option_map (spelled_replica master s) (p.holds b s)
  pub least : shown.least ≡ p.least
  pub segments : AreSegments master p

-- ---- reading

-- what is read of a replica: the opening, if it has one, and its objects and tombstones
abbrev pub read_replica : Replica → ModelReplica
read_replica r = record {
  text = record { opening = opening_in r.bytes; entries = data_in r.bytes };
  is_open = r.is_open;
}

-- what the model shows of this master, as it is read from the replicas' bytes
abbrev pub read_shown : ℕ → Shown → ModelShown
read_shown master shown = record {
  holds = λ b s. option_map read_replica (shown.holds b master s);
  least = shown.least;
}
