use Rattle.std.proofs.Common.{refl, inr}
use Rattle.locked_log.proofs.state.State.want.Goals as goal

pub returns-in-Ok : goal.returns-in-Ok
returns-in-Ok g c =
    let passes = c.in-Ok.ensures.passes in
    ((refl, inr (passes.2, refl)), passes.0, passes.1, refl, refl)

pub returns-in-Err : goal.returns-in-Err
returns-in-Err g c = c.in-Err.ensures.refused
