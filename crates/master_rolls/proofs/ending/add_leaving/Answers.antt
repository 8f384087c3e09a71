use Rattle.std.proofs.Common.{◌≡◌, ◌+◌, ◌∷◌, List, length, drop, sym, ap, ◌∙◌, arith}
use Rattle.std.proofs.lemmas.List.{length-append, drop_more}
use Rattle.images.specs.Image.{Image}
use Rattle.master_state.specs.Images.{leaving}
use Rattle.master_rolls.proofs.Ended.{rising_ids, leaving_here}
use Rattle.master_rolls.proofs.Leaving.{leaving_few}
use Rattle.master_rolls.proofs.ending.add_leaving.Goals as goal

pub push_reserved-requires : goal.push_reserved-requires
push_reserved-requires c =
    let vs = c.args.victims.now in
    let cs = c.args.images.now in
    let i = c.loop-image.image-index in
    let few = leaving_few vs cs (rising_ids cs c.requires.rising) in
    let item = c.image-item.result in
    let next : drop i cs ≡ item ∷ drop (i + 1) cs =
    drop_more cs i item c.loop-image-test.true ∙ ap (λ (x : Image). x ∷ drop (i + 1) cs) (sym c.image-item.is) in
    let here = ap (λ (xs : List Image). length (leaving vs xs)) next
    ∙ ap length (leaving_here vs item (drop (i + 1) cs)
    (sym c.leaves.ensures ∙ c.if-leaves.true)) in
    let sizes = ap length c.loop-image.invariant.added in
    let before = length-append c.loop-image.waiting.items (leaving vs (drop i cs)) in
    let after = length-append c.args.waiting.now.items (leaving vs cs) in
    let capacity = c.loop-image.invariant.capacity in
    let room = c.requires.room in
    omega arith
