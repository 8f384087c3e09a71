use Rattle.std.proofs.lemmas.List.{take_rest}
use Rattle.answers.proofs.Fronts.{Wrote, wrote_more, wrote_same}
use Rattle.answers.proofs.handing.hand.Goals.{in-Ok, in-Err}
use Rattle.answers.proofs.handing.hand.Goals as goal

pub loop-preserved : goal.loop-preserved
loop-preserved g c =
    let held = g.W.Write.contents c.args.writer.now in
    let mid = g.W.Write.contents c.loop.writer in
    let holds = g.W.Write.contents c.write.new.self in
    let bytes = c.args.bytes.now in
    elim c.match-write.branch as (λ _. Wrote held holds bytes c.match-write.rest.now) [
      | in-Ok w ↦ rw (w.rest-is, take_rest) (wrote_more held mid holds bytes c.loop.rest.now w.in-Ok.taken
          c.loop.invariant w.in-Ok.ensures.bytes)
      | in-Err w ↦ rw w.rest-is (wrote_same held mid holds bytes c.loop.rest.now c.loop.invariant
          w.in-Err.ensures.bytes)
    ]
