use Rattle.std.proofs.Common.{length}
use Rattle.disk_file.proofs.Writing.{tears, written_failed, written_more}
use Rattle.disk_file.proofs.disk.DiskFileDevice.write_at.Goals as goal

pub returns-in_err-done-clause-crash : goal.returns-in_err-done-clause-crash
returns-in_err-done-clause-crash c =
    tears c.args.at (length c.args.bytes.now) _ _
    (written_failed c.args.at c.args.bytes.now c.loop-done.done _ _ _ c.loop-done.invariant
    c.in_err-done.ensures.failed)

pub loop-done-preserved : goal.loop-done-preserved
loop-done-preserved c =
    let took = c.in_ok-done.ensures.ok in
    written_more c.args.at c.args.bytes.now c.loop-done.done c.in_ok-done.field-0 _ _ _ c.loop-done.invariant
    c.requires took.2.1 took.0

pub returns-clause-crash : goal.returns-clause-crash
returns-clause-crash c = tears c.args.at (length c.args.bytes.now) _ _ c.loop-done.invariant.writing
