use Rattle.std.proofs.Common.{◌∙◌, ap, arith}
use Rattle.packing.specs.Packing.{most_ids}
use Rattle.packing.specs.Limits.{heads_by}
use Rattle.packing.proofs.Answering.{second_is}
use Rattle.packing.proofs.limits.heads_for.Goals as goal

pub returns : goal.returns
returns c =
    let s = c.args.sizes.now in
    let least = c.requires.sound.least in
    c.heads_by.ensures
    ∙ ap (heads_by s c.args.largest c.args.live) (second_is c.heads_by-heads.result
    (heads_by s c.args.largest c.args.live (most_ids s)) (most_ids s) c.min.result (omega arith)
    c.heads_by-heads.ensures c.min.ensures)
