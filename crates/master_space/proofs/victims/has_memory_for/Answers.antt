use Rattle.std.proofs.Common.{◌+◌, ◌*◌, ◌/◌, ◌≤◌, arith}
use Rattle.std.proofs.Math.Nat.{div-le_self, mul-le-mul_right}
use Rattle.master_state.proofs.Refusals.{sizes_of}
use Rattle.master_space.proofs.victims.has_memory_for.Goals as goal

pub overflow_mul-result : goal.overflow_mul-result
overflow_mul-result c =
    let config = c.core.inside.config in
    let most = (sizes_of config c.core.invariant.2.config).most_segment in
    let whole = div-le_self config.segment config.seglet in
    let few = c.requires.few in
    let product : (c.args.survivors + 1) * (config.segment / config.seglet) ≤ 5 * (config.segment / config.seglet) =
    mul-le-mul_right (config.segment / config.seglet) (omega (arith, few)) in
    omega (arith, product, whole, most)
