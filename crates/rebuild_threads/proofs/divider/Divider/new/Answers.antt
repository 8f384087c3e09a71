use Rattle.std.proofs.Common.{◌<◌, subst, sym}
use Rattle.rebuild_threads.proofs.Divided.{divided_none}
use Rattle.rebuild_threads.proofs.divider.Divider.new.Goals as goal

pub invariant_of-result : goal.invariant_of-result
invariant_of-result g c =
    divided_none g.D.Division.parts g.D.Division.segments c.args.segments.now c.args.will.now c.partitions.result
    c.in_ok-vec.field-0.items c.requires.segments c.requires.parts c.partitions.ensures.count
    (subst (λ n. 0 < n) (sym c.partitions.ensures.count) c.partitions.ensures.valid.some)
    (c.in_ok-vec.ensures.items_if_clones_equal (λ y h. h))
