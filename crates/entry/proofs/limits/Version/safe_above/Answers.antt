use Rattle.std.proofs.Common.{ℕ, ◌+◌, ap}
use Rattle.entry.proofs.limits.Version.safe_above.Goals as goal

pub returns : goal.returns
returns c = ap (λ (n : ℕ). n + 1) c.self.view_is
