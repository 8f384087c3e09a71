use Rattle.entry.proofs.DigestLemmas.{lists_lengths-at}
use Rattle.entry.proofs.view.DigestRef.lists_lengths.Goals as goal

pub returns : goal.returns
returns c = let d = c.args.self.now in lists_lengths-at d.has_lengths d.count d.text.now
