use Rattle.std.proofs.Common.{refl}
use Rattle.embedded.proofs.Going.{goes_same}
use Rattle.embedded.proofs.store.Store.tend.Goals as goal

pub returns-in-Ok-clause-keeps : goal.returns-in-Ok-clause-keeps
returns-in-Ok-clause-keeps c =
    rw c.in-Up.is (
      c.tend-outcome.new.master,
      refl,
      goes_same _ _ c.tend-outcome.ensures.goes_on,
      c.show_valid.ensures,
    )

pub returns-in-Err-clause-keeps : goal.returns-in-Err-clause-keeps
returns-in-Err-clause-keeps c =
    rw c.in-Up.is (
      c.tend-outcome.new.master,
      refl,
      goes_same _ _ c.tend-outcome.ensures.goes_on,
      c.show_valid.ensures,
    )
