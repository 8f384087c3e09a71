use Rattle.std.proofs.Common.{◌≡◌, sum_by, take}
use Rattle.images.specs.Images.{count_of}
use Rattle.images.proofs.counting.recounted.Given as goal

abbrev pub invariant-loop-image : goal.invariant-loop-image
invariant-loop-image l = l.sum ≡ sum_by (count_of l.segment l.seglet) (take l.image-index l.images)
