use Rattle.std.proofs.Common.{ℕ, ◌≤◌, ◌<◌, ◌*◌, sym, subst, arith, mul-le-mul_left}
use Rattle.std.specs.Prelude.{◌^◌}
use Rattle.counted_calls.specs.locked_log.Made.{IsMade, made_now}
use Rattle.counted_calls.proofs.of_locked_log.Lasting.{made_at_first}
use Rattle.counted_calls.specs.master.World.{MasterValue, world}
use Rattle.loads.proofs.store.run_load.Goals as goal

times : (r c : ℕ) → 2 * r * c ≤ 2 * r * 63 → r < 2 ^ 40 → 2 * r * c < 2 ^ 64
times r c most few = omega (arith, most, few)

pub overflow_mul-calls-2 : goal.overflow_mul-calls-2
overflow_mul-calls-2 g c =
    let r = c.args.plan.operations in
    let fits = times r c.args.plan.threads (mul-le-mul_left (2 * r) c.requires.threads.1) c.requires.operations in
    omega (arith, fits)

-- a store that isn't made leaves the master as it was
pub returns-in-Err-clause-made : goal.returns-in-Err-clause-made
returns-in-Err-clause-made g c =
    let w = world g.F.Fleet.state c.args.master in
    subst (λ (m : MasterValue _). IsMade (made_now c.args.plan.threads w) (world g.F.Fleet.state m))
    (sym c.refused.ensures) (made_at_first c.args.plan.threads w)
