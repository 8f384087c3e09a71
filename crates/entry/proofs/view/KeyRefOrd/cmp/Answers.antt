use Rattle.entry.proofs.view.KeyRefOrd.cmp.Goals as goal

pub returns : goal.returns
returns c = c.cmp.ensures
