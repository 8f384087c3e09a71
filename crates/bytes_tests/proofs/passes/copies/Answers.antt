use Rattle.std.proofs.Common.{ℕ, List, Some, sym, ap, subst, ◌∙◌}
use Rattle.images.specs.Images.{ImagesValue}
use Rattle.cleaner.specs.KeptLengths.{HasRoomsIn}
use Rattle.cleaner.specs.Passes.{ids_in, CopiesOne}
use Rattle.cleaner.proofs.Leaving.{left_rooms, ids_kept}
use Rattle.bytes_tests.proofs.passes.copies.Goals as goal

pub loop-becomes-preserved : goal.loop-becomes-preserved
loop-becomes-preserved c =
    let p = c.loop-becomes.pass in
    let images = c.loop-becomes.images.images in
    let held = c.loop-becomes.index.held in
    let q = c.copy_one-copied.new.self in
    let after = c.copy_one-copied.new.images.images in
    let later = c.copy_one-copied.new.index.held in
    let ids = ids_in images 2 (Some 4) in
    let copied = c.copy_one-copied.result in
    let i = c.loop-becomes.invariant in
    let copies = subst (λ (n : ℕ). CopiesOne n ids p images held copied q after later) i.size
    c.copy_one-copied.ensures.copied in
    let same = ids_kept 512 ids p q images after held later copied copies 2 (Some 4) in
    record {
      pass = c.copy_one-copied.ensures.pass;
      room = subst (λ (ns : List ℕ). HasRoomsIn 512 ns q after later) (sym same)
          (left_rooms 512 ids p q images after held later copied i.pass copies i.room);
      size = ap (λ (v : ImagesValue). v.segment) c.copy_one-copied.ensures.images ∙ i.size;
    }
