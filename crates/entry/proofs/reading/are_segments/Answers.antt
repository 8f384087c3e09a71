use Rattle.std.proofs.Common.{◌≡◌, ◌+◌, ◌*◌, ◌-◌, false, true, refl, sym, ◌∙◌, arith}
use Rattle.std.specs.Prelude.{nat_lt}
use Rattle.std.proofs.lemmas.Bool.{le-ltb, lt-ltb}
use Rattle.entry.specs.Format.{number_at, is_within}
use Rattle.entry.proofs.LengthLemmas.{are_listed-step}
use Rattle.entry.proofs.reading.are_segments.Goals as goal

pub returns-then-u64_at : goal.returns-then-u64_at
returns-then-u64_at c =
    let bytes = c.args.bytes.now in
    let at = 5 + 16 * (c.loop-i.i - 1) in
    let step = are_listed-step c.args.count c.loop-i.i bytes c.loop-i.auto.i c.loop-i-test.true in
    let len : is_within 18 8388608 (number_at 8 (at + 8) bytes) ≡ true =
    rw (← c.u64_at.ensures, ← c.is_len.ensures) c.if-not-is_len.false in
    let place : 5 + 16 * c.loop-i.i ≡ at + 16 = omega arith in
    let falls : nat_lt (number_at 8 at bytes) (number_at 8 (5 + 16 * c.loop-i.i) bytes) ≡ false =
    rw place (le-ltb (number_at 8 at bytes) (number_at 8 (at + 16) bytes)
    (rw (← c.u64_at-in-loop-i.ensures, ← c.u64_at-in-loop-i-2.ensures) c.if-u64_at.true)) in
    sym (sym c.loop-i.invariant ∙ step ∙ rw (len, falls) refl)

pub loop-i-preserved : goal.loop-i-preserved
loop-i-preserved c =
    let bytes = c.args.bytes.now in
    let at = 5 + 16 * (c.loop-i.i - 1) in
    let step = are_listed-step c.args.count c.loop-i.i bytes c.loop-i.auto.i c.loop-i-test.true in
    let len : is_within 18 8388608 (number_at 8 (at + 8) bytes) ≡ true =
    rw (← c.u64_at.ensures, ← c.is_len.ensures) c.if-not-is_len.false in
    let place : 5 + 16 * c.loop-i.i ≡ at + 16 = omega arith in
    let rise : nat_lt (number_at 8 at bytes) (number_at 8 (5 + 16 * c.loop-i.i) bytes) ≡ true =
    rw place (lt-ltb (number_at 8 at bytes) (number_at 8 (at + 16) bytes)
    (rw (← c.u64_at-in-loop-i.ensures, ← c.u64_at-in-loop-i-2.ensures) c.if-u64_at.false)) in
    let here : c.loop-i.i + 1 - 1 ≡ c.loop-i.i = omega arith in
    rw here (sym (rw (len, rise) at step) ∙ c.loop-i.invariant)
