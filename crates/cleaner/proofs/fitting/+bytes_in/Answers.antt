use Rattle.std.proofs.Common.{◌≤◌, length, sym, subst}
use Rattle.entry.specs.Text.{text_of, IsSegment}
use Rattle.cleaner.specs.Passes.{images_in}
use Rattle.cleaner.proofs.Images.{image_is, is_within}
use Rattle.cleaner.proofs.SegmentFits.{AreFine}
use Rattle.cleaner.proofs.fitting.+bytes_in.Goals as goal

pub returns-clause-valid : goal.returns-clause-valid
returns-clause-valid t c =
    let images = c.args.images.now.images in
    let limit = c.args.images.now.segment in
    let s = c.in-Some.id.now in
    let es = c.in-Some-get.segment in
    let here : IsSegment es × (length (text_of es) ≤ limit) =
    (c.bytes.ensures.valid, is_within limit images s es c.show_valid.ensures.within c.in-Some-get.ensures) in
    let own : IsSegment (images_in images s) × (length (text_of (images_in images s)) ≤ limit) =
    subst (λ f. IsSegment f × (length (text_of f) ≤ limit)) (image_is images s es c.in-Some-get.ensures) here in
    subst (AreFine limit (images_in images)) (sym c.in-Some.ensures.cases.0) (own, c.bytes_in.ensures.valid)
