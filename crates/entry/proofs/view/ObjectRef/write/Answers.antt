use Rattle.std.proofs.Common.{◌≡◌, ◌+◌, length, ◌∙◌, arith}
use Rattle.entry.specs.View.{shown_object}
use Rattle.entry.proofs.SpellingLemmas.{length-object}
use Rattle.entry.proofs.view.ObjectRef.write.Goals as goal

pub put_object-requires-clause-room : goal.put_object-requires-clause-room
put_object-requires-clause-room c =
    let len : c.spelled_len.result ≡ 23 + length c.args.self.now.key.bytes.now + length c.args.self.now.value.now =
    c.spelled_len.ensures.len ∙ length-object (shown_object c.args.self.now) in
    omega (arith, c.in_ok-reserve.ensures.ok)

pub returns-clause-ok : goal.returns-clause-ok
returns-clause-ok c = rw (← c.in_ok-reserve.ensures.items) c.put_object.ensures.items
