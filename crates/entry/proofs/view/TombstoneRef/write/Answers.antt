use Rattle.std.proofs.Common.{◌≡◌, ◌+◌, length, ◌∙◌, arith}
use Rattle.entry.specs.View.{shown_tombstone}
use Rattle.entry.proofs.SpellingLemmas.{length-tombstone}
use Rattle.entry.proofs.view.TombstoneRef.write.Goals as goal

pub put_tombstone-requires : goal.put_tombstone-requires
put_tombstone-requires c =
    let len : c.spelled_len.result ≡ 27 + length c.args.self.now.key.bytes.now =
    c.spelled_len.ensures.len ∙ length-tombstone (shown_tombstone c.args.self.now) in
    omega (arith, c.in_ok-reserve.ensures.ok)

pub returns-clause-ok : goal.returns-clause-ok
returns-clause-ok c = rw (← c.in_ok-reserve.ensures.items) c.put_tombstone.ensures.items
