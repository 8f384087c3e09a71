use Rattle.entry.proofs.FrontLemmas.{complete}
use Rattle.entry.proofs.view.EntryRef.read.Goals as goal

pub returns-clause-complete : goal.returns-clause-complete
returns-clause-complete c =
    complete c.args.bytes.now c.read_front.result c.read_front.ensures.found c.read_front.ensures.fault
