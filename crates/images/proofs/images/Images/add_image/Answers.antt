use Rattle.std.proofs.Common.{◌≡◌, ◌<◌, ◌≤◌, ◌∙◌, List, length, ap, sym, subst, arith}
use Rattle.std.specs.Prelude.{None, insert}
use Rattle.std.specs.Vec.{vec_len, vec_capacity}
use Rattle.images.specs.contracts.images.Images.{the_view}
use Rattle.images.specs.Image.{Image}
use Rattle.images.specs.Images.{ImagesValue, count_of, free_seglets}
use Rattle.images.specs.Sorted.{image_of, added}
use Rattle.images.proofs.Counts.{added_valid}
use Rattle.images.proofs.images.Images.add_image.Goals.{After-unwrap}
use Rattle.images.proofs.images.Images.add_image.Goals as goal

items_are : (c : After-unwrap)
    → c.insert.new.self.items ≡ added c.args.image c.self.inside.images.items
items_are c =
    let image : Image = c.args.image in
    (rw c.unwrap.ensures at c.insert.ensures.items) ∙ ap (λ (xs : List Image). insert xs c.place_for-at.result image)
    (sym c.as_slice.ensures.value)
    ∙ c.place_for-at.ensures.place image (sym c.id.ensures) ∙ ap (added image) c.as_slice.ensures.value

pub invariant_of-self : goal.invariant_of-self
invariant_of-self c =
    let v = the_view c.self.inside in
    let image : Image = c.args.image in
    let items : c.insert.new.self.items ≡ added image v.images = items_are (goal.at.invariant_of-self c).After-unwrap in
    let other = subst (λ (w : ImagesValue). image_of w.images image.id ≡ None) (sym c.self.view_is) c.requires.other in
    let len = rw (← c.self.view_is) at c.requires.within in
    let memory = rw (← c.self.view_is) at c.requires.memory in
    let free = subst (λ (w : ImagesValue). count_of w.segment w.seglet image ≤ free_seglets w)
    (sym c.self.view_is) c.requires.free in
    let room : length c.insert.new.self.items ≤ vec_capacity c.insert.new.self = omega arith in
    let parts = added_valid v image (vec_capacity c.insert.new.self) c.self.invariant.1 other len memory free
    (subst (λ (xs : List Image). length xs ≤ vec_capacity c.insert.new.self) items room) in
    rw (items, c.self.invariant.0, c.count_of.ensures) parts

-- the list had room, so it has as much room as before
room_is : (c : After-unwrap) → vec_capacity c.insert.new.self ≡ vec_capacity c.self.inside.images
room_is c =
    let lt = subst (λ (w : ImagesValue). length w.images < w.room) (sym c.self.view_is) c.requires.room in
    let len = c.self.inside.images.ok.0 in
    let below : vec_len c.self.inside.images < vec_capacity c.self.inside.images = omega arith in
    (c.insert.ensures.in_place below).1.0

pub returns : goal.returns
returns c =
    let all = (goal.at.returns c).After-unwrap in
    rw (← c.self.view_is) (λ i. record {
      segment = c.self.inside.segment;
      seglet = c.self.inside.seglet;
      seglets = c.self.inside.seglets;
      images = items_are all i;
      room = room_is all i;
    })
