use Rattle.std.proofs.Common.{ℕ, inr, subst}
use Rattle.recovery.specs.master.master_state.Forgetting.{ForgetsTo}
use Rattle.embedded.proofs.carrying.forget.Goals as goal

pub returns : goal.returns
returns g c =
    inr (subst (λ (n : ℕ). ForgetsTo n c.args.master.now.knows c.forget.new.self.knows) c.count-records.ensures
    c.forget.ensures.gives)
