-- How many heads close: fewer bytes close no more, and sound sizes leave room for an object in each head.
use Rattle.std.proofs.Common.{◌≡◌, ℕ, ◌+◌, ◌-◌, ◌*◌, ◌/◌, ◌<◌, ◌≤◌, Bool, true, false, arith}
use Rattle.std.specs.Prelude.{◌==◌, if◌then◌else◌, min}
use Rattle.std.proofs.Math.Nat.{min-le_left, min-le_right, le-min}
use Rattle.packing.specs.declared.sizes.Sizes.{Sizes}
use Rattle.packing.specs.Packing.{most_ids, opening_len, AreSound}
use Rattle.packing.specs.Limits.{longest, mean_opening, heads_by, heads_for}
use Rattle.packing.proofs.Numbers.{quotient_le, closes_from, parts_above}

pub opening_le : (s : Sizes) (a b : ℕ) → a ≤ b → opening_len s a ≤ opening_len s b
opening_le s a b le = go (s.format == 2) where
  go : (t : Bool) → 32 + (if t then 16 * a else 8 * a) ≤ 32 + (if t then 16 * b else 8 * b)
  go true = omega arith
  go false = omega arith

pub opening_small : (s : Sizes) (listed : ℕ) → opening_len s listed ≤ 32 + 16 * listed
opening_small s listed = go (s.format == 2) where
  go : (t : Bool) → 32 + (if t then 16 * listed else 8 * listed) ≤ 32 + 16 * listed
  go true = omega arith
  go false = omega arith

pub mean_le : (s : Sizes) (a b : ℕ) → a ≤ b → mean_opening s a ≤ mean_opening s b
mean_le s a b le = go (s.format == 2) where
  go : (t : Bool)
      → 32 + (if t then 8 * (a + 1) else 4 * (a + 1)) ≤ 32 + (if t then 8 * (b + 1) else 4 * (b + 1))
  go true = omega arith
  go false = omega arith

pub mean_small : (s : Sizes) (heads : ℕ) → mean_opening s heads ≤ 40 + 8 * heads
mean_small s heads = go (s.format == 2) where
  go : (t : Bool) → 32 + (if t then 8 * (heads + 1) else 4 * (heads + 1)) ≤ 40 + 8 * heads
  go true = omega arith
  go false = omega arith

-- one opening more is that of one more head
pub mean_more : (s : Sizes) (heads : ℕ)
    → (heads + 1) * mean_opening s (heads + 1) ≡ heads * mean_opening s heads + opening_len s (heads + 1)
mean_more s heads = go (s.format == 2) where
  go : (t : Bool)
      → (heads + 1) * (32 + (if t then 8 * (heads + 1 + 1) else 4 * (heads + 1 + 1)))
      ≡ heads * (32 + (if t then 8 * (heads + 1) else 4 * (heads + 1)))
      + (32 + (if t then 16 * (heads + 1) else 8 * (heads + 1)))
  go true = omega arith
  go false = omega arith

-- what a closed head has at least of objects, in the mean of so many heads
abbrev pub room_by : Sizes → ℕ → ℕ → ℕ
room_by s largest heads = s.segment + 1 - (longest s largest + mean_opening s heads)

module _ (s : Sizes) (largest : ℕ) (sound : AreSound s) where
  pub object_fits : (listed : ℕ) → listed ≤ most_ids s → longest s largest + opening_len s listed ≤ s.segment
  object_fits listed le =
      let least = sound.least in
      let short = min-le_left (s.segment / 4) largest in
      let small = opening_small s listed in omega arith

  mean_fits : (heads : ℕ) → heads ≤ most_ids s → longest s largest + mean_opening s heads ≤ s.segment
  mean_fits heads le =
      let least = sound.least in
      let short = min-le_left (s.segment / 4) largest in
      let small = mean_small s heads in omega arith

  pub some_room : (heads : ℕ) → heads ≤ most_ids s → 0 < room_by s largest heads
  some_room heads le = let fits = mean_fits heads le in omega arith

  heads_le : (less live few many : ℕ) → less ≤ live → few ≤ many → many ≤ most_ids s
      → heads_by s largest less few ≤ heads_by s largest live many
  heads_le less live few many below le within =
      let short = mean_le s few many le in
      quotient_le less live (room_by s largest few) (room_by s largest many) below (omega arith) (some_room many within)

  -- how many heads the second count begins with
  abbrev pub second_for : ℕ → ℕ
  second_for live = min (heads_by s largest live (most_ids s) + 1) (most_ids s)

  second_le : (less live : ℕ) → less ≤ live → second_for less ≤ second_for live
  second_le less live below =
      let le = heads_le less live (most_ids s) (most_ids s) below (omega arith) (omega arith) in
      let left = min-le_left (heads_by s largest less (most_ids s) + 1) (most_ids s) in
      le-min (omega arith) (min-le_right (heads_by s largest less (most_ids s) + 1) (most_ids s))

  pub fewer_heads : (less live : ℕ) → less ≤ live → heads_for s largest less ≤ heads_for s largest live
  fewer_heads less live below =
      heads_le less live (second_for less) (second_for live) below (second_le less live below)
      (min-le_right (heads_by s largest live (most_ids s) + 1) (most_ids s))

  -- one head more than were counted is no more than the second count began with
  last_counted : (live : ℕ) → heads_for s largest live + 1 ≤ most_ids s → heads_for s largest live + 1 ≤ second_for live
  last_counted live places =
      let within = min-le_right (heads_by s largest live (most_ids s) + 1) (most_ids s) in
      let le = heads_le live live (second_for live) (most_ids s) (omega arith) within (omega arith) in
      le-min (omega arith) places

  pub heads_close : (live : ℕ) → heads_for s largest live + 1 ≤ most_ids s
      → live + (heads_for s largest live + 1) * (longest s largest + mean_opening s (heads_for s largest live + 1))
      ≤ (heads_for s largest live + 1) * (s.segment + 1)
  heads_close live places =
      let within = min-le_right (heads_by s largest live (most_ids s) + 1) (most_ids s) in
      let short = mean_le s (heads_for s largest live + 1) (second_for live) (last_counted live places) in
      let fits = mean_fits (second_for live) within in
      closes_from s.segment (longest s largest + mean_opening s (heads_for s largest live + 1)) live
      (heads_for s largest live) (room_by s largest (second_for live))
      (mean_fits (heads_for s largest live + 1) places) (omega arith)
      (parts_above live (room_by s largest (second_for live)) (some_room (second_for live) within))

  -- the bytes are few, if so many heads hold them
  pub few_bytes : (live : ℕ) → heads_for s largest live + 1 ≤ most_ids s
      → live ≤ (heads_for s largest live + 1) * (s.segment + 1)
  few_bytes live places = let close = heads_close live places in omega arith
