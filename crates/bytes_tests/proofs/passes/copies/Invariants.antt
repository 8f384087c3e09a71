use Rattle.std.proofs.Common.{◌≡◌}
use Rattle.std.specs.Prelude.{Some}
use Rattle.cleaner.specs.KeptLengths.{HasRoomsIn}
use Rattle.cleaner.specs.Passes.{ids_in, IsPass}
use Rattle.bytes_tests.proofs.passes.copies.Given as goal

abbrev pub invariant-loop-becomes : goal.invariant-loop-becomes
invariant-loop-becomes l =
    record {
      pass : IsPass l.index.held.seed l.images.images l.pass;
      room : HasRoomsIn 512 (ids_in l.images.images 2 (Some 4)) l.pass l.images.images l.index.held;
      size : l.images.segment ≡ 512;
    }
