use Rattle.script.proofs.running.run_tended.Goals as goal

pub print-requires : goal.print-requires
print-requires g c =
    let told = c.serve_tended-outcome.ensures in (told.0, told.1)

pub returns : goal.returns
returns g c =
    let told = c.serve_tended-outcome.ensures in (told.0, told.2, c.print.ensures told.0 told.1)
