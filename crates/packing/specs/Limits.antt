-- How many bytes of objects a new master can load, whatever they are and whatever their order.
use Rattle.std.specs.Prelude.{◌⊎◌, ℕ, ◌+◌, ◌-◌, ◌*◌, ◌/◌, ◌^◌, ◌<◌, ◌≤◌, ◌==◌, ◌&&◌, ◌||◌, List, Bool, nat_le, min}
use Rattle.std.specs.Prelude.{if◌then◌else◌}
use Rattle.std.specs.List.{AllByRecursion}
use Rattle.packing.specs.declared.sizes.Sizes.{Sizes}
use Rattle.packing.specs.Packing.{whole, most_ids, opening_len}

-- ---- sizes

-- sizes with which no number in the test of a limit overflows
pub record AreBounded (s : Sizes) : Type 0 where
  pub seglet : s.seglet ≤ 65536
  pub seglets : s.seglets ≤ 2 ^ 32

-- the number by which a configuration sets no limit
abbrev pub unlimited : ℕ
unlimited = 2 ^ 64 - 1

-- the bytes of the longest object that a master takes: a quarter of a segment, or less if the configuration says so
abbrev pub longest : Sizes → ℕ → ℕ
longest s largest = min (s.segment / 4) largest

-- each length is that of some object, and at most this
abbrev pub AreLengths : ℕ → List ℕ → Type 0
AreLengths most lengths = AllByRecursion (λ (n : ℕ). (0 < n) × (n ≤ most)) lengths

-- ---- how many heads close

-- The mean bytes of the openings of so many heads. The first lists one segment, and each later one lists one more.
abbrev pub mean_opening : Sizes → ℕ → ℕ
mean_opening s heads = 32 + (if s.format == 2 then 8 * (heads + 1) else 4 * (heads + 1))

-- How many heads objects of so many bytes in all close at most, if they close no more than `heads`. A head is closed
-- when the next object doesn't fit. So its objects have more bytes than a segment has beside the opening and the
-- longest object.
abbrev pub heads_by : Sizes → ℕ → ℕ → ℕ → ℕ
heads_by s largest live heads = live / (s.segment + 1 - (longest s largest + mean_opening s heads))

-- How many heads such objects close at most. They are counted twice: as if there were as many as a digest may list, and
-- then as if there were one more than the first count gave.
abbrev pub heads_for : Sizes → ℕ → ℕ → ℕ
heads_for s largest live = heads_by s largest live (min (heads_by s largest live (most_ids s) + 1) (most_ids s))

-- ---- a limit

-- Objects of at most `most` bytes each and `live` bytes in all close at most so many heads. The digest has places for
-- these. There is memory for them, with two whole segments to spare: each counts whole, or all count by their bytes and
-- what each leaves empty of its last seglet.
pub record IsLimit (s : Sizes) (most heads live : ℕ) : Type 0 where
  pub places : heads + 2 ≤ most_ids s
  pub fits : most + opening_len s (heads + 1) ≤ s.segment
  -- one more head would hold more bytes
  pub closes : live + (heads + 1) * (most + mean_opening s (heads + 1)) ≤ (heads + 1) * (s.segment + 1)
  pub memory : ((heads + 5) * whole s ≤ s.seglets)
      ⊎ (5 * whole s * s.seglet + live + heads * (mean_opening s heads + s.seglet) ≤ s.seglets * s.seglet)

-- the test, if so many heads close at most
abbrev pub is_limit_for : Sizes → ℕ → ℕ → Bool
is_limit_for s heads live =
    nat_le (heads + 2) (most_ids s)
    && (nat_le ((heads + 5) * whole s) s.seglets
    || nat_le (5 * whole s * s.seglet + live + heads * (mean_opening s heads + s.seglet)) (s.seglets * s.seglet))

-- Any objects of at most `live` bytes in all can be loaded, in any order, with two whole segments to spare, if none is
-- longer than `longest s largest`. The test may be false although they can be loaded.
abbrev pub is_limit : Sizes → ℕ → ℕ → Bool
is_limit s largest live = is_limit_for s (heads_for s largest live) live
