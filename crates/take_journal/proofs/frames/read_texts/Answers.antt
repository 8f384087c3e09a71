use Rattle.std.proofs.Common.{◌≡◌, rules}
use Rattle.take_journal.specs.Frames.{recovered}
use Rattle.take_journal.proofs.Onward.{reads_all, reads_more}
use Rattle.take_journal.proofs.frames.read_texts.Goals as goal

pub loop-text-preserved : goal.loop-text-preserved
loop-text-preserved c =
    let same : c.in_ok-to_vec.field-0.items ≡ c.in-Some.text.now = search rules in
    reads_more c.loop-text.texts.items c.push.new.self.items c.in_ok-to_vec.field-0 c.loop-text.rest.now
    c.in-Some.text.now
    c.in-Some.after.now (recovered c.args.bytes.now) c.in_ok-push.ensures.items same c.in-Some.ensures.0
    c.loop-text.invariant

pub returns : goal.returns
returns c =
    reads_all c.loop-text.texts.items c.loop-text.rest.now (recovered c.args.bytes.now) c.in_default.ensures
    c.loop-text.invariant
