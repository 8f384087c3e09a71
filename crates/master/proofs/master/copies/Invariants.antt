use Rattle.std.proofs.Common.{◌≡◌, ◌≤◌, length, take, vec_capacity}
use Rattle.master.proofs.master.copies.Given as goal

abbrev pub invariant-loop-step : goal.invariant-loop-step
invariant-loop-step l = (l.own.items ≡ take l.step-index l.steps) × (length l.steps ≤ vec_capacity l.own)
