use Rattle.std.proofs.Common.{◌+◌, ◌*◌, ◌≤◌, ℕ, sym, subst, arith}
use Rattle.packing.proofs.Heads.{few_bytes, mean_small}
use Rattle.packing.proofs.Numbers.{small_sum}
use Rattle.packing.proofs.Answering.{too_many_heads, whole_enough, counted_by_bytes}
use Rattle.packing.proofs.limits.is_limit.Goals as goal

pub returns-then-heads-sizes : goal.returns-then-heads-sizes
returns-then-heads-sizes c =
    let over = c.if-heads-sizes.true in
    rw (← c.heads_for-heads.ensures) (too_many_heads c.args.sizes.now c.heads_for-heads.result c.args.live
    (omega arith))

pub returns-then-heads-whole : goal.returns-then-heads-whole
returns-then-heads-whole c =
    let few = c.if-heads-sizes.false in
    let least = c.requires.sound.least in
    rw (← c.heads_for-heads.ensures) (whole_enough c.args.sizes.now c.heads_for-heads.result c.args.live (omega arith)
    c.if-heads-whole.true)

pub overflow_add-result-2 : goal.overflow_add-result-2
overflow_add-result-2 c =
    let few = c.if-heads-sizes.false in
    let least = c.requires.sound.least in
    let is = c.heads_for-heads.ensures in
    let short = subst (λ (h : ℕ). c.args.live ≤ (h + 1) * (c.args.sizes.now.segment + 1)) (sym is)
    (few_bytes c.args.sizes.now c.args.largest c.requires.sound c.args.live (omega arith)) in
    let opening = mean_small c.args.sizes.now c.heads_for-heads.result in
    let opened = c.mean_opening-opening.ensures in
    let small = small_sum c.args.sizes.now.segment c.args.sizes.now.seglet c.heads_for-heads.result c.args.live
    c.mean_opening-opening.result c.requires.sound.most c.requires.bounded.seglet (omega arith) (omega arith) short in
    omega (arith, small)

pub returns : goal.returns
returns c =
    let few = c.if-heads-sizes.false in
    let least = c.requires.sound.least in
    rw (← c.heads_for-heads.ensures) (counted_by_bytes c.args.sizes.now c.heads_for-heads.result c.args.live
    c.mean_opening-opening.result c.mean_opening-opening.ensures (omega arith) c.if-heads-whole.false)
