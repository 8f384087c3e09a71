-- What the backups hold of a log, in bytes.
use Rattle.std.proofs.Common.{◌≡◌, ℕ, List, Some, sym, subst}
use Rattle.entry.specs.declared.entry.Entry.{Entry}
use Rattle.entry.specs.Meaning.{among}
use Rattle.entry.specs.Text.{data_in}
use Rattle.replica.specs.Picture.{Shown}
use Rattle.log_laws.specs.Text.{Replica as ModelReplica}
use Rattle.log_laws.specs.Shown.{Shown as ModelShown}
use Rattle.log_laws.proofs.Holding.{kept_is_replicated}
use Rattle.log_bytes.specs.Text.{bytes_for}
use Rattle.log_bytes.specs.Spelled.{spelled_replica, IsSpelled}
use Rattle.log_bytes.specs.Held.{UnitsAreHeld}
use Rattle.log_bytes.proofs.Texts.{reads_data}
use Rattle.log_bytes.proofs.Reading.{spelled_held}

-- what is read of a replica is what it has in the model
module _ (master : ℕ) (shown : Shown) (p : ModelShown) (spelled : IsSpelled master shown p) where
  reads : (b s : ℕ) (q : ModelReplica) → p.holds b s ≡ Some q → data_in (bytes_for master s q.text) ≡ q.text.entries
  reads b s q there = reads_data master s q.text (spelled.segments b s q there)

pub units_are_held : UnitsAreHeld
units_are_held master d shown p place b u spelled kept at lt took =
    let is = kept_is_replicated d p place b u kept at lt took in
    let same = reads master shown p spelled b d.head.start.id is.0 is.1 in (
      spelled_replica master d.head.start.id is.0,
      spelled_held master shown p spelled b d.head.start.id is.0 is.1,
      λ e m. subst (λ (es : List Entry). among es e) (sym same) (is.2 e m),
    )
