-- What a call answers in each of its cases, as the test of a limit says it.
use Rattle.std.proofs.Common.{◌≡◌, ℕ, ◌+◌, ◌-◌, ◌*◌, ◌/◌, ◌<◌, ◌≤◌, true, false, refl, sym, arith}
use Rattle.std.specs.Prelude.{nat_le, min}
use Rattle.std.proofs.lemmas.Bool.{and_left, and_from, or_left, le-leb, lt-leb}
use Rattle.packing.specs.declared.sizes.Sizes.{Sizes}
use Rattle.packing.specs.Packing.{whole, most_ids}
use Rattle.packing.specs.Limits.{longest, mean_opening, heads_by, is_limit_for}

pub heads_counted : (s : Sizes) (largest live heads long opening : ℕ) → long ≡ longest s largest
    → opening ≡ mean_opening s heads → live / (s.segment + 1 - (long + opening)) ≡ heads_by s largest live heads
heads_counted s largest live heads long opening long-is opening-is = rw (long-is, opening-is) refl

-- with how many heads the second count begins, counted from one below
pub second_is : (counted heads most below : ℕ) → 0 < most → counted ≡ heads → below ≡ min counted (most - 1)
    → below + 1 ≡ min (heads + 1) most
second_is counted heads most below some same is = omega arith

module _ (s : Sizes) (heads live : ℕ) where
  pub too_many_heads : most_ids s < heads + 2 → false ≡ is_limit_for s heads live
  too_many_heads over = sym (and_left _ _ (lt-leb _ _ over))

  pub whole_enough : heads + 2 ≤ most_ids s → (heads + 5) * whole s ≤ s.seglets → true ≡ is_limit_for s heads live
  whole_enough places enough = sym (and_from _ _ (le-leb _ _ places) (or_left _ _ (le-leb _ _ enough)))

  pub counted_by_bytes : (opening : ℕ) → opening ≡ mean_opening s heads → heads + 2 ≤ most_ids s
      → s.seglets < (heads + 5) * whole s
      → nat_le (5 * whole s * s.seglet + live + heads * (opening + s.seglet)) (s.seglets * s.seglet)
      ≡ is_limit_for s heads live
  counted_by_bytes opening is places short =
      rw (is, le-leb (heads + 2) (most_ids s) places, lt-leb ((heads + 5) * whole s) s.seglets short) refl
