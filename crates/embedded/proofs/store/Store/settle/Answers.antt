use Rattle.std.proofs.Common.{refl}
use Rattle.recovery.specs.driving.GoesOn.{goes_nowhere}
use Rattle.embedded.proofs.Going.{goes_same}
use Rattle.embedded.proofs.store.Store.settle.Goals as goal

pub returns-then-records-eq0-clause-keeps : goal.returns-then-records-eq0-clause-keeps
returns-then-records-eq0-clause-keeps c =
    rw c.in-Up.is (c.in-Up.master, refl, goes_same _ _ (goes_nowhere c.in-Up.master.knows), c.show_valid.ensures)

pub returns-in-Ok-clause-keeps : goal.returns-in-Ok-clause-keeps
returns-in-Ok-clause-keeps c =
    rw c.in-Up.is (
      c.push_until-outcome.new.master,
      refl,
      goes_same _ _ c.push_until-outcome.ensures.goes_on,
      c.show_valid-2.ensures,
    )

pub returns-in-Err-clause-keeps : goal.returns-in-Err-clause-keeps
returns-in-Err-clause-keeps c =
    rw c.in-Up.is (
      c.push_until-outcome.new.master,
      refl,
      goes_same _ _ c.push_until-outcome.ensures.goes_on,
      c.show_valid-2.ensures,
    )
