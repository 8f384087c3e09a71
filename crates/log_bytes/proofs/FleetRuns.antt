-- Runs over a fleet are runs of the model.
use Rattle.std.proofs.Common.{◌≡◌, ℕ, Some, sym, ap, ◌∙◌}
use Rattle.std.specs.Prelude.{None}
use Rattle.std.specs.Option.{option_map}
use Rattle.replica.specs.Picture.{Replica, FleetState, shown_of}
use Rattle.log_bytes.specs.Spelled.{IsSpelled, read_replica}
use Rattle.log_bytes.specs.Runs.{read_fleet}
use Rattle.log_bytes.proofs.Reading.{texts_are_spelled}

-- a fleet without a replica of the master spells what it is read to show
pub nothing_spelled : (master : ℕ) (f : FleetState) → ((b s : ℕ) → (read_fleet master f).holds b s ≡ None)
    → IsSpelled master (shown_of f master) (read_fleet master f)
nothing_spelled master f nothing =
    texts_are_spelled master (shown_of f master) (λ b s r held. absurd (never b s r held))
  where
    never : (b s : ℕ) (r : Replica) → f.picture b master s ≡ Some r → ⊥
    never b s r held =
        let none : None ≡ Some (read_replica r) = sym (nothing b s) ∙ ap (option_map read_replica) held in cc
