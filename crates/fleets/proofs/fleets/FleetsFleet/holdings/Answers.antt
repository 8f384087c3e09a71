use Rattle.fleets.proofs.fleets.FleetsFleet.holdings.Goals as goal

pub returns-in-Memory-clause-shown : goal.returns-in-Memory-clause-shown
returns-in-Memory-clause-shown g c = rw c.in-Memory.is c.holdings.ensures.shown

pub returns-in-Files-clause-shown : goal.returns-in-Files-clause-shown
returns-in-Files-clause-shown g c = rw c.in-Files.is c.holdings-in-Files.ensures.shown
