use Rattle.entry.proofs.view.EntryRef.to_entry.Goals as goal

pub returns-in-Header-clause-err : goal.returns-in-Header-clause-err
returns-in-Header-clause-err c = tt
