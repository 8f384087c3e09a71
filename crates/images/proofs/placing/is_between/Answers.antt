use Rattle.std.proofs.Common.{◌<◌, ℕ, ap, subst, ◌∙◌}
use Rattle.std.proofs.lemmas.Bool.{ltb-true}
use Rattle.images.specs.Image.{Image}
use Rattle.images.proofs.Searching.{absent_between}
use Rattle.images.proofs.placing.is_between.Goals as goal

pub returns-then-at-eq0 : goal.returns-then-at-eq0
returns-then-at-eq0 c = λ _.
    let x = c.index-images-at.result in
    let above = subst (λ (n : ℕ). c.args.id < n) (c.id.ensures ∙ ap (λ (y : Image). y.id) c.index-images-at.is)
    c.if-id.false in
    absent_between c.args.images.now c.args.id c.args.at x x c.requires c.if-at-images.false above
    (λ some. absurd (some c.if-at-eq0.true))

pub returns-else-at-eq0 : goal.returns-else-at-eq0
returns-else-at-eq0 c = λ low.
    let x = c.index-images-at.result in
    let before = c.index-images-at-else-at-eq0.result in
    let above = subst (λ (n : ℕ). c.args.id < n) (c.id.ensures ∙ ap (λ (y : Image). y.id) c.index-images-at.is)
    c.if-id.false in
    absent_between c.args.images.now c.args.id c.args.at x before c.requires c.if-at-images.false above
    (λ _. subst (λ (n : ℕ). n < c.args.id)
    (c.id-else-at-eq0.ensures ∙ ap (λ (y : Image). y.id) c.index-images-at-else-at-eq0.is)
    (ltb-true c.id-else-at-eq0.result c.args.id low))
