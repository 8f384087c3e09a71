use Rattle.std.proofs.Common.{refl}
use Rattle.locked_log.proofs.state.State.lacks_cell.Goals as goal

pub returns-in-Ok : goal.returns-in-Ok
returns-in-Ok g c =
    let passes = c.in-Ok.ensures.passes in
    (passes.0, passes.1, passes.2, c.requires, refl, refl)

pub returns-in-Err : goal.returns-in-Err
returns-in-Err g c = c.in-Err.ensures.refused
