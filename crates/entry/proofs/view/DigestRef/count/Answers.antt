use Rattle.std.proofs.Common.{sym}
use Rattle.entry.proofs.DigestLemmas.{length-digest_at}
use Rattle.entry.proofs.view.DigestRef.count.Goals as goal

pub returns : goal.returns
returns c = let d = c.args.self.now in sym (length-digest_at d.has_lengths d.count d.text.now)
