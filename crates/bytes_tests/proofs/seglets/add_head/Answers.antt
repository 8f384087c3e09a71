use Rattle.std.proofs.Common.{◌≡◌, List, None, ap, subst, sym, refl, rules}
use Rattle.images.specs.Image.{Image, whole_image}
use Rattle.images.specs.Images.{ImagesValue}
use Rattle.images.specs.Sorted.{IsWhole, image_of}
use Rattle.images.proofs.Callers.{whole_added}
use Rattle.bytes_tests.proofs.seglets.add_head.Goals.{in-Ok, in-Err}
use Rattle.bytes_tests.proofs.seglets.add_head.Goals as goal

pub returns : goal.returns
returns c =
    let image : Image = whole_image c.args.id c.args.head c.args.images.now.segment in
    let none : image_of c.args.images.now.images c.args.id ≡ None = search rules in
    record {
      whole = elim c.match-add.branch [
        | in-Ok w ↦ λ is. subst (λ (xs : List Image). IsWhole xs c.args.id)
            (sym (ap (λ (v : ImagesValue). v.images) w.in-Ok.ensures.ok))
            (whole_added c.args.images.now.images image none refl)
        | in-Err w ↦ λ is. absurd (cc)
      ];
    }
