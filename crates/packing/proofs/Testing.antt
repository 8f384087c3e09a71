-- The test of a limit is right. If it is true of a number, then it is true of each smaller one.
use Rattle.std.proofs.Common.{◌≡◌, ℕ, ◌+◌, ◌*◌, ◌≤◌, inl, inr, true, arith}
use Rattle.std.specs.Prelude.{◌⊎◌, nat_le, ◌||◌}
use Rattle.std.proofs.Math.Nat.{mul-le-mul_right}
use Rattle.std.proofs.lemmas.Bool.{and_parts, and_from, or_cases, or_left, or_right, leb-true, le-leb}
use Rattle.std.proofs.lemmas.Nat.{mul-le}
use Rattle.packing.specs.declared.sizes.Sizes.{Sizes}
use Rattle.packing.specs.Packing.{AreSound, whole, most_ids}
use Rattle.packing.specs.Limits.{IsLimit, longest, mean_opening, heads_for, is_limit, is_limit_for}
use Rattle.packing.specs.Laws.{TestedLimitLoads, LessIsLimit}
use Rattle.packing.proofs.Heads.{mean_le, object_fits, fewer_heads, heads_close}
use Rattle.packing.proofs.Holding.{within_limit_loads}

-- the memory of so many closed heads, and two whole segments to spare
abbrev HasMemory : Sizes → ℕ → ℕ → Type 0
HasMemory s heads live = ((heads + 5) * whole s ≤ s.seglets)
    ⊎ (5 * whole s * s.seglet + live + heads * (mean_opening s heads + s.seglet) ≤ s.seglets * s.seglet)

record Passes (s : Sizes) (heads live : ℕ) : Type 0 where
  places : heads + 2 ≤ most_ids s
  memory : HasMemory s heads live

passes_since : (s : Sizes) (heads live : ℕ) → is_limit_for s heads live ≡ true → Passes s heads live
passes_since s heads live is =
    let both = and_parts _ _ is in
    record { places = leb-true _ _ both.0; memory = go (or_cases _ _ both.1) }
  where
    go : ((nat_le ((heads + 5) * whole s) s.seglets ≡ true)
        ⊎ (nat_le (5 * whole s * s.seglet + live + heads * (mean_opening s heads + s.seglet)) (s.seglets * s.seglet)
        ≡ true)) → HasMemory s heads live
    go (inl e) = inl (leb-true _ _ e)
    go (inr e) = inr (leb-true _ _ e)

passes_from : (s : Sizes) (heads live : ℕ) → Passes s heads live → is_limit_for s heads live ≡ true
passes_from s heads live passes = and_from _ _ (le-leb _ _ passes.places) (go passes.memory)
  where
    go : HasMemory s heads live
        → (nat_le ((heads + 5) * whole s) s.seglets
        || nat_le (5 * whole s * s.seglet + live + heads * (mean_opening s heads + s.seglet)) (s.seglets * s.seglet))
        ≡ true
    go (inl le) = or_left _ _ (le-leb _ _ le)
    go (inr le) = or_right _ _ (le-leb _ _ le)

-- fewer heads and fewer bytes pass too
fewer_pass : (s : Sizes) (few many less live : ℕ) → few ≤ many → less ≤ live → Passes s many live → Passes s few less
fewer_pass s few many less live le below passes =
    let places = passes.places in record { places = omega arith; memory = go passes.memory }
  where
    go : HasMemory s many live → HasMemory s few less
    go (inl enough) =
        let more = mul-le-mul_right (whole s) le in inl (omega arith)
    go (inr enough) =
        let short = mean_le s few many le in
        let more = mul-le few (mean_opening s few + s.seglet) many (mean_opening s many + s.seglet) le (omega arith) in
        inr (omega arith)

module _ (s : Sizes) (largest live : ℕ) (sound : AreSound s) (is : is_limit s largest live ≡ true) where
  passes : Passes s (heads_for s largest live) live
  passes = passes_since s (heads_for s largest live) live is

  places : heads_for s largest live + 1 ≤ most_ids s
  places = let le = passes.places in omega arith

  limit_since : IsLimit s (longest s largest) (heads_for s largest live) live
  limit_since = record {
    places = passes.places;
    fits = object_fits s largest sound (heads_for s largest live + 1) places;
    closes = heads_close s largest sound live places;
    memory = passes.memory;
  }

pub tested_limit_loads : TestedLimitLoads
tested_limit_loads s largest live ns sound multiple is lengths below =
    within_limit_loads s (longest s largest) (heads_for s largest live) live ns sound multiple
    (limit_since s largest live sound is) lengths below

pub less_is_limit : LessIsLimit
less_is_limit s largest less live sound below is =
    passes_from s (heads_for s largest less) less
    (fewer_pass s (heads_for s largest less) (heads_for s largest live) less live
    (fewer_heads s largest sound less live below) below (passes_since s (heads_for s largest live) live is))
