use Rattle.cleaner.specs.Passes.{images_in, ids_in}
use Rattle.cleaner.proofs.Bounding.{IsRead}
use Rattle.cleaner.proofs.fitting.fit.Given as goal

abbrev pub invariant-loop-read : goal.invariant-loop-read
invariant-loop-read l =
    IsRead l.segment (ids_in l.images.images l.head l.fn.new) l.index.held (images_in l.images.images) l.victims l.read
    l.level l.left
