use Rattle.std.proofs.Common.{subst}
use Rattle.recovery_plan.specs.Planned.{IsFoundFault}
use Rattle.recovery_plan.proofs.planning.plan_from.Goals as goal

pub returns-in-Err-Missing-clause-fault : goal.returns-in-Err-Missing-clause-fault
returns-in-Err-Missing-clause-fault c least usable =
    subst (IsFoundFault c.args.holdings.now least c.args.master) c.in-Err-Missing.field-0-is
    (c.in-Err-Missing.ensures.fault least usable)
