-- Calls of a device, one after another.
use Rattle.std.proofs.Common.{inl, inr, ℕ, List, arith}
use Rattle.take_journal.specs.Device.{AnyMoment, Passes}

module _ {D : Type 0} (clock : D → ℕ) (left_since : D → ℕ → List ℕ → Type 0) (may_leave : D → List ℕ → Type 0)
    (just_now : (device : D) (file : List ℕ) → left_since device (clock device) file → may_leave device file)
    (P : List ℕ → Type 0) where
  -- before the first of them
  pub begun : (device : D) → ((file : List ℕ) → may_leave device file → P file)
      → AnyMoment clock left_since P device device
  begun device has = record {
    onward = omega arith;
    each = λ file left. has file (just_now device file left);
    adds = λ moment file le left. inl left;
  }

  -- and after one more
  pub further : (old mid new : D) → AnyMoment clock left_since P old mid → Passes clock left_since may_leave mid new
      → ((file : List ℕ) → may_leave new file → P file) → AnyMoment clock left_since P old new
  further old mid new run call has =
      let le = run.onward in
      let on = call.onward in
      record {
        onward = omega (arith, le, on);
        each = λ file left. elim (call.adds (clock old) file le left) [
          | inl was ↦ run.each file was
          | inr now ↦ has file now
        ];
        adds = λ moment file before left. elim (call.adds moment file (omega (arith, before, le)) left) [
          | inl was ↦ run.adds moment file before was
          | inr now ↦ inr (has file now)
        ];
      }
