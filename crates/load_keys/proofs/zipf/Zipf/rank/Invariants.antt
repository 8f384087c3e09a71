use Rattle.std.proofs.Common.{◌≡◌, ◌≤◌, ◌<◌, ◌+◌, ◌-◌, ◌⊎◌, ℕ, get_or, length}
use Rattle.load_keys.proofs.zipf.Zipf.rank.Given as goal

abbrev pub invariant-loop-low : goal.invariant-loop-low
invariant-loop-low l =
    let sums = l.self-inside.sums.items in
    (l.low ≤ l.high) × (l.high < length sums)
    × ((l.low ≡ 0) ⊎ ((before : ℕ) × (l.low ≡ before + 1) × (get_or sums before 0 ≤ l.number)))
    × ((l.high + 1 ≡ length sums) ⊎ (l.number < get_or sums l.high 0))

abbrev pub decreases-loop-low : goal.decreases-loop-low
decreases-loop-low l = l.high - l.low
