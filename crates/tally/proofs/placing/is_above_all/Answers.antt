use Rattle.std.proofs.Common.{◌-◌, length, get_or, false, sym, ◌∙◌, ltb-true}
use Rattle.tally.specs.declared.tallies.Tally.{Tally}
use Rattle.tally.proofs.Listing.{last_above, some_left}
use Rattle.tally.proofs.placing.is_above_all.Goals as goal

pub returns-else-is_empty : goal.returns-else-is_empty
returns-else-is_empty c = λ is.
    let rows = c.args.rows.now in
    let d : Tally = record { segment = 0; live = 0; stones = 0; is_fresh = false } in
    last_above rows (length rows - 1) d c.args.segment c.requires
    (some_left rows (sym c.is_empty.ensures ∙ c.if-is_empty.false))
    (ltb-true (get_or rows (length rows - 1) d).segment c.args.segment is)
