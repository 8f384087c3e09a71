use Rattle.std.proofs.Common.{arith}
use Rattle.std.proofs.Math.Nat.{le_trans}
use Rattle.disk_lines.proofs.Places.{one_cut, one_written, read_there}
use Rattle.disk_lines.proofs.printing.write_group.Goals as goal

pub write_pushed-requires : goal.write_pushed-requires
write_pushed-requires g c =
    let knows = c.args.store.now.master.knows in
    let place = c.loop-place.place in
    let kept = c.requires.kept in
    let begun = c.loop-place.auto.place in
    let there = c.requires.there in
    let more = c.loop-place-test.true in
    read_there knows place (le_trans kept begun) (omega (arith, more, there))

pub returns-in-Err : goal.returns-in-Err
returns-in-Err g c =
    one_cut c.args.is_raw c.args.store.now.master.knows c.args.why.now c.args.first c.loop-place.place c.args.end
    (g.W.Write.contents c.args.writer.now) (g.W.Write.contents c.loop-place.writer)
    (g.W.Write.contents c.write_pushed.new.writer) c.in-Err.fault c.loop-place.auto.place c.loop-place-test.true
    c.loop-place.invariant c.in-Err.ensures

pub loop-place-preserved : goal.loop-place-preserved
loop-place-preserved g c =
    one_written c.args.is_raw c.args.store.now.master.knows c.args.why.now c.args.first c.loop-place.place
    (g.W.Write.contents c.args.writer.now) (g.W.Write.contents c.loop-place.writer)
    (g.W.Write.contents c.write_pushed.new.writer) c.loop-place.auto.place c.loop-place.invariant c.in_default.ensures
