-- What a roll makes of the sums, and what quotients are, over plain numbers.
use Rattle.std.proofs.Common.{◌≡◌, ℕ, ◌+◌, ◌*◌, ◌/◌, ◌%◌, ◌^◌, ◌<◌, ◌≤◌, ◌⊎◌, inl, inr, arith}
use Rattle.std.proofs.Math.Nat.{lt_of_mul-lt-mul_right, mul-le-mul_right, mul-le-mul_left, div-mul-le_self}
use Rattle.std.proofs.Math.Nat.{lt-div-mul-add, mod-eq-sub-div-mul}
use Rattle.std.proofs.lemmas.Bool.{cases_lt}
use Rattle.std.proofs.lemmas.Nat.{le-div, mul-le}

-- ---- one roll

-- a head that has no room for an object is not the last of those that there may be
pub few_heads : (segment most closed heads len done n live openings own : ℕ) → closed ≤ heads
    → closed * (segment + 1) + len ≤ done + closed * most + openings + own → segment < len + n → n ≤ most → 0 < n
    → done + n ≤ live → (closed ≡ heads → live + (closed + 1) * most + (openings + own) ≤ (closed + 1) * (segment + 1))
    → closed + 1 ≤ heads
few_heads segment most closed heads len done n live openings own le sum over small some below limit =
    go (cases_lt closed heads)
  where
    go : (closed < heads) ⊎ (heads ≤ closed) → closed + 1 ≤ heads
    go (inl lt) = omega arith
    go (inr ge) = let last = limit (omega arith) in omega arith

pub closes_more : (segment most closed len done n openings own next : ℕ)
    → closed * (segment + 1) + len ≤ done + closed * most + openings + own → segment < len + n → n ≤ most
    → (closed + 1) * (segment + 1) + (next + n) ≤ done + n + (closed + 1) * most + (openings + own) + next
closes_more segment most closed len done n openings own next sum over small = omega arith

pub bytes_more : (used seglet count closed len done n openings own next : ℕ)
    → used * seglet + len ≤ done + closed * seglet + openings + own → count * seglet < len + seglet
    → (used + count) * seglet + (next + n) ≤ done + n + (closed + 1) * seglet + (openings + own) + next
bytes_more used seglet count closed len done n openings own next sum ceil = omega arith

pub whole_more : (used whole count closed : ℕ) → used ≤ closed * whole → count ≤ whole
    → used + count ≤ (closed + 1) * whole
whole_more used whole count closed sum le = omega arith

-- whole seglets make the segment
pub whole_is : (segment seglet : ℕ) → segment % seglet ≡ 0 → segment / seglet * seglet ≡ segment
whole_is segment seglet multiple =
    let floor = div-mul-le_self segment seglet in
    let rest = mod-eq-sub-div-mul segment seglet in omega arith

-- a head within a segment fills no more seglets than a segment does
pub within_whole : (segment seglet len count whole : ℕ) → whole * seglet ≡ segment → len ≤ segment
    → count * seglet < len + seglet → count ≤ whole
within_whole segment seglet len count whole is le ceil =
    let lt : count * seglet < (whole + 1) * seglet = omega arith in
    let less : count < whole + 1 = lt_of_mul-lt-mul_right seglet lt in omega arith

-- ---- memory

-- the closed heads find memory as whole segments
pub enough_whole : (used whole seglets closed heads : ℕ) → used ≤ closed * whole → closed ≤ heads
    → (heads + 5) * whole ≤ seglets → 3 * whole + used + 2 * whole ≤ seglets
enough_whole used whole seglets closed heads sum le enough =
    let more = mul-le-mul_right whole le in omega arith

-- or by their bytes
pub enough_bytes : (used whole seglet seglets len done own mean most closed heads live : ℕ)
    → used * seglet + len ≤ done + closed * seglet + closed * mean + own → own ≤ len → closed ≤ heads → mean ≤ most
    → done ≤ live → 0 < seglet → 5 * whole * seglet + live + heads * (most + seglet) ≤ seglets * seglet
    → 3 * whole + used + 2 * whole ≤ seglets
enough_bytes used whole seglet seglets len done own mean most closed heads live sum low le short below some enough =
    let more = mul-le closed (mean + seglet) heads (most + seglet) le (omega arith) in
    let lt : (3 * whole + used + 2 * whole) * seglet < (seglets + 1) * seglet = omega arith in
    let less : 3 * whole + used + 2 * whole < seglets + 1 = lt_of_mul-lt-mul_right seglet lt in omega arith

-- ---- quotients

-- with less to divide, and by no less, the quotient is no greater
pub quotient_le : (less more wide narrow : ℕ) → less ≤ more → narrow ≤ wide → 0 < narrow → less / wide ≤ more / narrow
quotient_le less more wide narrow below le some =
    let floor = div-mul-le_self less wide in
    let shorter = mul-le-mul_left (less / wide) le in
    le-div (less / wide) more narrow some (omega arith)

-- what is divided into so many parts is less than one part more
pub closes_from : (segment taken live heads room : ℕ) → taken ≤ segment → room + taken ≤ segment + 1
    → live < heads * room + room → live + (heads + 1) * taken ≤ (heads + 1) * (segment + 1)
closes_from segment taken live heads room fits le below =
    let more = mul-le-mul_left (heads + 1) le in omega arith

-- one quotient more is too many
pub parts_above : (live room : ℕ) → 0 < room → live < live / room * room + room
parts_above live room some = lt-div-mul-add some

-- the sum of a test is small, however many heads there are
pub small_sum : (segment seglet heads live opened : ℕ) → segment ≤ 8388608 → seglet ≤ 65536 → heads + 1 ≤ segment / 32
    → opened ≤ 40 + 8 * heads → live ≤ (heads + 1) * (segment + 1)
    → 5 * (segment / seglet) * seglet + live + heads * (opened + seglet) < 2 ^ 64
small_sum segment seglet heads live opened most small few short below =
    let floor = div-mul-le_self segment seglet in
    let long = mul-le (heads + 1) (segment + 1) 262144 8388609 (omega arith) (omega arith) in
    let closed = mul-le heads (opened + seglet) 262144 8388608 (omega arith) (omega arith) in omega arith

-- a segment of the least size has bytes
pub some_bytes : (segment : ℕ) → 512 ≤ segment → 0 < segment / 32 * (segment + 1)
some_bytes segment least =
    let more = mul-le 1 1 (segment / 32) (segment + 1) (omega arith) (omega arith) in omega arith
