use Rattle.std.proofs.Common.{length, ◌-◌}
use Rattle.disk_file.specs.Disk.{history}
use Rattle.disk_file.proofs.Writing.{HasWritten}
use Rattle.disk_file.proofs.disk.DiskFileDevice.write_at.Given as goal

abbrev pub invariant-loop-done : goal.invariant-loop-done
invariant-loop-done l = HasWritten l.at l.bytes l.done (history l.fn.self) (history l.self)

abbrev pub decreases-loop-done : goal.decreases-loop-done
decreases-loop-done l = length l.bytes - l.done
