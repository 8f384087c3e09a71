-- What the tests of a load and of a roll tell by their answers.
use Rattle.std.proofs.Common.{◌≡◌, Bool, true, false, refl}
use Rattle.std.specs.Prelude.{Option, Some, None, not, ◌&&◌, if◌then◌else◌}
use Rattle.driving.specs.master_core.master_state.declared.step.Refusal.{Refusal}
use Rattle.driving.specs.master_core.master_state.declared.step.Refusal.TheVariants as refusal

-- the tests of a load: the object is too big, it is in no tablet, the master works, the head has room, a roll may begin
abbrev pub load_test : Bool → Bool → Bool → Bool → Bool → Option Refusal
load_test big stray works room may =
    if big then Some refusal.TooBig
    else if stray then Some refusal.NoTablet
    else if works && (not room && not may) then Some refusal.Full
    else if not (works && room) then Some refusal.Rolling
    else None

pub full_tells : (big stray works room may : Bool) → load_test big stray works room may ≡ Some refusal.Full
    → (big ≡ false) × (room ≡ false) × (may ≡ false)
full_tells true stray works room may e = absurd (cc)
full_tells false true works room may e = absurd (cc)
full_tells false false false room may e = absurd (cc)
full_tells false false true true may e = absurd (cc)
full_tells false false true false true e = absurd (cc)
full_tells false false true false false e = (refl, refl, refl)

pub wait_tells : (big stray works room may : Bool) → load_test big stray works room may ≡ Some refusal.Rolling
    → (big ≡ false) × (works ≡ true → (room ≡ false) × (may ≡ true))
wait_tells true stray works room may e = absurd (cc)
wait_tells false true works room may e = absurd (cc)
wait_tells false false false room may e = (refl, λ never. absurd (cc))
wait_tells false false true true may e = absurd (cc)
wait_tells false false true false true e = (refl, λ is. (refl, refl))
wait_tells false false true false false e = absurd (cc)

pub load_tells : (big stray works room may : Bool) → load_test big stray works room may ≡ None
    → (big ≡ false) × (room ≡ true)
load_tells true stray works room may e = absurd (cc)
load_tells false true works room may e = absurd (cc)
load_tells false false false room may e = absurd (cc)
load_tells false false true true may e = (refl, refl)
load_tells false false true false true e = absurd (cc)
load_tells false false true false false e = absurd (cc)

-- those of a roll: the master is halted, it works, no number is left, a roll may begin
abbrev pub roll_test : Bool → Bool → Bool → Bool → Option Refusal
roll_test halted works spent may =
    if halted then Some refusal.Halted
    else if not works then Some refusal.Rolling
    else if spent then Some refusal.SegmentsSpent
    else if not may then Some refusal.Full
    else None

pub roll_full_tells : (halted works spent may : Bool) → roll_test halted works spent may ≡ Some refusal.Full
    → (works ≡ true) × (may ≡ false)
roll_full_tells true works spent may e = absurd (cc)
roll_full_tells false false spent may e = absurd (cc)
roll_full_tells false true true may e = absurd (cc)
roll_full_tells false true false true e = absurd (cc)
roll_full_tells false true false false e = (refl, refl)

pub rolls_tell : (halted works spent may : Bool) → roll_test halted works spent may ≡ None
    → (works ≡ true) × (may ≡ true)
rolls_tell true works spent may e = absurd (cc)
rolls_tell false false spent may e = absurd (cc)
rolls_tell false true true may e = absurd (cc)
rolls_tell false true false false e = absurd (cc)
rolls_tell false true false true e = (refl, refl)
