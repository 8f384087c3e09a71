-- New survivors begin to be counted, one after the other.
use Rattle.std.proofs.Common.{◌≡◌, ◌⊎◌, ℕ, ◌+◌, ◌<◌, ◌≤◌, List, inl, inr, ap, ◌∙◌, arith}
use Rattle.cleaner.specs.declared.survivors.Survivors.{Survivors}
use Rattle.cleaner.specs.Passes.{survivor_ids}
use Rattle.cleaner.proofs.SurvivorIds.{id_among}
use Rattle.entry.specs.Bag.{IsAmong}
use Rattle.tally.specs.declared.tallies.Tally.{Tally}
use Rattle.tally.specs.Rows.{of_nothing, WithOne}
use Rattle.master_space.specs.Counting.{WithBegun}

-- each tally is an old one, or that of one of the first n survivors
abbrev pub BegunBefore : ℕ → ℕ → List Tally → List Tally → Type 0
BegunBefore first n old new = (row : Tally) → IsAmong row new
    → IsAmong row old ⊎ ((k : ℕ) × (k < n) × (row ≡ of_nothing (first + k)))

pub begun_next : (first n id : ℕ) (old mid new : List Tally) → id ≡ first + n → BegunBefore first n old mid
    → WithOne (of_nothing id) mid new → BegunBefore first (n + 1) old new
begun_next first n id old mid new is before one row m = elim (one row m)
    as (λ _. IsAmong row old ⊎ ((k : ℕ) × (k < n + 1) × (row ≡ of_nothing (first + k)))) [
      | inl there ↦ elim (before row there)
          as (λ _. IsAmong row old ⊎ ((k : ℕ) × (k < n + 1) × (row ≡ of_nothing (first + k)))) [
            | inl was ↦ inl was
            | inr new_one ↦ inr (let lt = new_one.1 in (new_one.0, omega (arith, lt), new_one.2))
          ]
      | inr same ↦ inr (n, omega arith, same ∙ ap of_nothing is)
    ]

pub begun_all : (s : Survivors) (n : ℕ) (old new : List Tally) → n ≤ s.count → BegunBefore s.first n old new
    → WithBegun (survivor_ids s) old new
begun_all s n old new le all row m = elim (all row m)
    as (λ _. IsAmong row old ⊎ ((k : ℕ) × IsAmong k (survivor_ids s) × (row ≡ of_nothing k))) [
      | inl was ↦ inl was
      | inr one ↦ inr (let lt = one.1 in (
        s.first + one.0,
        id_among s.first s.count one.0 (omega (arith, lt, le)),
        one.2,
      ))
    ]
