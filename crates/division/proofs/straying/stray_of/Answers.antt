use Rattle.division.proofs.straying.stray_of.Goals as goal

pub returns-in-None : goal.returns-in-None
returns-in-None c k of_key = absurd (c.in-None.ensures k of_key)
