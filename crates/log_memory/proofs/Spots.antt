-- Replicas of a pass's victims, which wait to be freed once it has ended.
use Rattle.std.proofs.Common.{◌≡◌, ℕ, inl, inr, List, [], ◌∷◌, ap, subst}
use Rattle.std.specs.Prelude.{map, IsSome}
use Rattle.entry.specs.Bag.{IsAmong}
use Rattle.entry.proofs.BagLemmas.{among_either, among_images}
use Rattle.log_bytes.proofs.log_laws.KeptEntries.{has_is}
use Rattle.log_bytes.specs.log_laws.Shown.{Shown}
use Rattle.log_bytes.specs.log_laws.Data.{FailData, IsHome, homes}
use Rattle.log_bytes.specs.log_laws.Log.{Texts, IsLogHeld}
use Rattle.log_bytes.proofs.log_laws.Holding.{homes_hold_copies}
use Rattle.log_bytes.proofs.log_laws.Lists.{is_some, without_has}
use Rattle.log_memory.specs.Memory.{Spot}
use Rattle.log_memory.specs.Steps.{spots_of}

-- each is of one of these segments, on one of its homes
pub spots_out : (d : FailData) (ids : List ℕ) (w : Spot) → IsAmong w (spots_of d ids)
    → IsAmong w.segment ids × IsHome d w.segment w.backup
spots_out d [] w c = absurd c
spots_out d (s ∷ ids) w c =
    elim (among_either w (map (λ (b : ℕ). record { segment = s; backup = b }) (homes d s)) (spots_of d ids) c)
    as (λ _. IsAmong w.segment (s ∷ ids) × IsHome d w.segment w.backup) [
      | inl here ↦ (
          let from = among_images (λ (b : ℕ). record { segment = s; backup = b }) (homes d s) w here in
          let home = without_has d.failed (d.took s) from.0 (has_is (homes d s) from.0 from.1) in
          let at : s ≡ w.segment = ap (λ (x : Spot). x.segment) from.2 in (
            inl at,
            subst (λ (x : Spot). IsHome d x.segment x.backup) from.2 home,
          ))
      | inr later ↦ (let rest = spots_out d ids w later in (inr rest.0, rest.1))
    ]

-- if the segments are of the digest in force, each is there
pub spots_there : (d : FailData) (texts : Texts) (p : Shown) (ids : List ℕ) (w : Spot) → IsLogHeld d texts p
    → ((s : ℕ) → IsAmong s ids → IsAmong s d.head.start.others) → IsAmong w (spots_of d ids)
    → IsSome (p.holds w.backup w.segment)
spots_there d texts p ids w held listed c =
    let is = spots_out d ids w c in
    let copy = homes_hold_copies d texts p w.segment w.backup held (inl (listed w.segment is.0)) is.1 in
    is_some (p.holds w.backup w.segment) copy.0 copy.1
