use Rattle.std.proofs.Common.{◌≡◌, ◌++◌, All, map, length}
use Rattle.entry.specs.Format.{IsObject}
use Rattle.claims.specs.Claims.{claimed, has_clash, objects_in, tops}
use Rattle.claims.proofs.scanning.winners.Given as goal

-- the objects are those that come before what is left
abbrev pub invariant-loop-left : goal.invariant-loop-left
invariant-loop-left l = record {
  found : l.objects ++ objects_in (tops (map claimed l.left)) ≡ objects_in (tops (map claimed l.claims));
  valid : All IsObject l.objects;
  clean : has_clash (map claimed l.left) ≡ has_clash (map claimed l.claims);
}

abbrev pub decreases-loop-left : goal.decreases-loop-left
decreases-loop-left l = length l.left
