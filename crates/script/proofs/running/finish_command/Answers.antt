use Rattle.script.proofs.running.finish_command.Goals as goal

pub print-requires : goal.print-requires
print-requires g c =
    let told = c.finish-outcome.ensures c.requires.tried.0 c.requires.tried.1 in (told.0, told.1)

pub returns : goal.returns
returns g c = λ first t.
    let told = c.finish-outcome.ensures first t in (told.0, told.2, c.print.ensures told.0 told.1)
