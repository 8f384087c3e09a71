use Rattle.std.proofs.Common.{List, subst, ◌∙◌}
use Rattle.tally.specs.declared.tallies.Tally.{Tally}
use Rattle.tally.specs.Rows.{WithOne, of_nothing}
use Rattle.master_state.proofs.state.first_tallies.Goals as goal

pub returns : goal.returns
returns c =
    subst (λ (old : List Tally). WithOne (of_nothing 1) old c.begin.new.self)
    (c.reserve.ensures ∙ c.new-tallies.ensures)
    c.begin.ensures.begun
