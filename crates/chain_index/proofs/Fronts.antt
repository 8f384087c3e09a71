-- A change of one place in the front of a chain.
use Rattle.std.proofs.Common.{◌≡◌, ℕ, List, length, ap, ◌∙◌, arith}
use Rattle.std.specs.Prelude.{slice_set}
use Rattle.std.specs.List.{refill}
use Rattle.std.proofs.lemmas.List.{length-set}
use Rattle.entry.proofs.ListLemmas.{written_back}
use Rattle.places.specs.declared.place.Held.{Held}

-- the list with one item set that is written back
pub set_back : (items lent : List Held) (i : ℕ) (x : Held) → lent ≡ items
    → refill (length items) items (slice_set lent i x) ≡ slice_set items i x
set_back items lent i x same =
    let len : length (slice_set items i x) ≡ length items = length-set items i x in
    ap (λ (xs : List Held). refill (length items) items (slice_set xs i x)) same
    ∙ written_back (length items) items (slice_set items i x) (omega arith) len
