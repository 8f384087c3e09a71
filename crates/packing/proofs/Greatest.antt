-- The greatest limit: there is a number above all limits, and above a number that is no limit there is none.
use Rattle.std.proofs.Common.{◌≡◌, ℕ, ◌+◌, ◌*◌, ◌<◌, ◌≤◌, false, sym, ◌∙◌, arith}
use Rattle.std.proofs.Math.Nat.{mul-le-mul_left, min-le_right}
use Rattle.std.proofs.lemmas.Bool.{and_left, lt-leb, false_from_ne_true}
use Rattle.std.proofs.lemmas.Nat.{le-div}
use Rattle.packing.specs.declared.sizes.Sizes.{Sizes}
use Rattle.packing.specs.Packing.{AreSound, most_ids}
use Rattle.packing.specs.Limits.{heads_by, heads_for, is_limit}
use Rattle.packing.proofs.Heads.{room_by, some_room, second_for}
use Rattle.packing.proofs.Testing.{less_is_limit}

module _ (s : Sizes) (largest : ℕ) (sound : AreSound s) where
  -- bytes that no more segments can hold than a digest may list
  many_heads : most_ids s ≤ heads_for s largest (most_ids s * (s.segment + 1))
  many_heads =
      let live = most_ids s * (s.segment + 1) in
      let second = second_for s largest sound live in
      let some = some_room s largest sound second
      (min-le_right (heads_by s largest live (most_ids s) + 1) (most_ids s)) in
      le-div (most_ids s) live (room_by s largest second) some (mul-le-mul_left (most_ids s) (omega arith))

  pub above_all : is_limit s largest (most_ids s * (s.segment + 1)) ≡ false
  above_all =
      let le = many_heads in
      let more : most_ids s < heads_for s largest (most_ids s * (s.segment + 1)) + 2 = omega arith in
      and_left _ _ (lt-leb _ _ more)

  pub none_above : (n m : ℕ) → n ≤ m → is_limit s largest n ≡ false → is_limit s largest m ≡ false
  none_above n m le not =
      false_from_ne_true (is_limit s largest m)
      (λ is. absurd (let both = sym (less_is_limit s largest n m sound le is) ∙ not in cc))
