use Rattle.std.proofs.Common.{vec_len, arith}
use Rattle.std.proofs.lemmas.Result.{IfOk-at_ok}
use Rattle.entry.specs.Format.{spelling}
use Rattle.entry.specs.View.{shown}
use Rattle.segment.proofs.UnitLemmas.{is_data-at, written_more, room_for, room_left, longer_by, ok_unless}
use Rattle.segment.proofs.unit.write_all.Goals as goal

pub write-requires : goal.write-requires
write-requires c =
    is_data-at c.args.unit.now c.loop-entry.entry-index c.entry-item.result c.loop-entry-test.true c.entry-item.is
    c.requires.data

pub unwrap-requires : goal.unwrap-requires
unwrap-requires c =
    let fits =
    room_for c.args.unit.now c.loop-entry.entry-index c.entry-item.result c.loop-entry-test.true c.entry-item.is _ _
    c.loop-entry.invariant.room in
    ok_unless c.write.result _ c.write.ensures.full (λ full. omega (arith, fits, full))

pub loop-entry-preserved : goal.loop-entry-preserved
loop-entry-preserved c =
    let unit = c.args.unit.now in
    let i = c.loop-entry.entry-index in
    let entry = c.entry-item.result in
    let old = c.loop-entry.out in
    let new = c.write.new.out in
    let written = IfOk-at_ok (λ _. _) c.unwrap.ensures c.write.ensures.ok in
    let longer =
    longer_by old.items new.items (spelling (shown entry)) (vec_len old) (vec_len new) written old.ok.0 new.ok.0 in
    record {
      items =
          written_more unit i entry c.loop-entry-test.true c.entry-item.is c.args.out.now.items old.items new.items
          written c.loop-entry.invariant.items;
      room =
          room_left unit i entry c.loop-entry-test.true c.entry-item.is (vec_len old) _ (vec_len new) _
          c.loop-entry.invariant.room longer c.write.ensures.capacity;
      capacity = omega (arith, c.loop-entry.invariant.capacity, c.write.ensures.capacity);
    }
