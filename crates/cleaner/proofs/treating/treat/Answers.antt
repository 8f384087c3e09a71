use Rattle.std.proofs.Common.{◌≡◌, ◌+◌, Bool, [], ◌∷◌, refl, sym, ap, ◌∙◌}
use Rattle.places.specs.declared.place.Place.{Place}
use Rattle.places.specs.Relocation.{relocated}
use Rattle.images.specs.Images.{ImagesValue}
use Rattle.images.specs.Sorted.{changed}
use Rattle.images.specs.Steps.{with_unit}
use Rattle.compactor.specs.Kept.{kept}
use Rattle.cleaner.specs.declared.pass.Copied.TheVariants as copied
use Rattle.cleaner.specs.Passes.{ids_in, seen_len, level_at, filling_with}
use Rattle.cleaner.specs.Walks.{HasPlace}
use Rattle.cleaner.proofs.Copying.{object_kept, tombstone_kept, dead_kept, does_object, does_tombstone, does_dead}
use Rattle.cleaner.proofs.Copying.{copy_data, copy_room, copied_is, filled_is, others_are, treats}
use Rattle.cleaner.proofs.treating.treat.Goals.{After-relocate, After-copy}
use Rattle.cleaner.proofs.treating.treat.Goals as goal

pub copy-to-requires-clause-of_data : goal.copy-to-requires-clause-of_data
copy-to-requires-clause-of_data c =
    let f = c.fate_of.ensures in
    rw c.len.ensures (copy_data c.args.images.now.images c.args.place (seen_len c.args.seen) f.0 c.requires.there f.1)

pub copy-requires-clause-of_data : goal.copy-requires-clause-of_data
copy-requires-clause-of_data c =
    let f = c.fate_of.ensures in
    rw c.len-in-Tombstone.ensures (copy_data c.args.images.now.images c.args.place
    (seen_len c.args.seen) f.0 c.requires.there f.1)

pub copy-to-requires-clause-room : goal.copy-to-requires-clause-room
copy-to-requires-clause-room c =
    let images = c.args.images.now.images in
    let ids = ids_in images c.args.head c.args.new in
    let held = c.args.index.now.held in
    let p = c.args.place in
    let f = c.fate_of.ensures in
    copy_room images p (seen_len c.args.seen) f.0 c.requires.there f.1 ids held
    (HasPlace c.args.images.now.segment c.args.survivors c.args.filling.now images)
    (object_kept held p (kept ids held p f.0) f.0 c.in-Object.held (sym f.2 ∙ c.in-Object.is)) c.requires.room

pub copy-requires-clause-room : goal.copy-requires-clause-room
copy-requires-clause-room c =
    let images = c.args.images.now.images in
    let ids = ids_in images c.args.head c.args.new in
    let held = c.args.index.now.held in
    let p = c.args.place in
    let f = c.fate_of.ensures in
    copy_room images p (seen_len c.args.seen) f.0 c.requires.there f.1 ids held
    (HasPlace c.args.images.now.segment c.args.survivors c.args.filling.now images)
    (tombstone_kept held p (kept ids held p f.0) f.0 (sym f.2 ∙ c.in-Tombstone.is)) c.requires.room

-- the object is appended to a survivor
object_copied : (c : After-relocate) → c.copy-to.new.images ≡ record c.args.images.now {
  images = changed c.args.images.now.images (c.args.survivors.first + c.copy-to.new.filling)
      (with_unit (c.fate_of.ensures.0 ∷ []));
}
object_copied c =
    let f = c.fate_of.ensures in
    copied_is c.args.images.now.images c.args.place (seen_len c.args.seen) f.0 c.requires.there f.1
    (c.args.survivors.first + c.copy-to.new.filling) c.copy-to.new.images c.args.images.now c.copy-to.ensures.copied

-- the tombstone is appended to a survivor
tombstone_copied : (c : After-copy) → c.copy.new.images ≡ record c.args.images.now {
  images = changed c.args.images.now.images (c.args.survivors.first + c.copy.new.filling)
      (with_unit (c.fate_of.ensures.0 ∷ []));
}
tombstone_copied c =
    let f = c.fate_of.ensures in
    copied_is c.args.images.now.images c.args.place (seen_len c.args.seen) f.0 c.requires.there f.1
    (c.args.survivors.first + c.copy.new.filling) c.copy.new.images c.args.images.now c.copy.ensures.copied

pub returns-in-Object-clause-treated : goal.returns-in-Object-clause-treated
returns-in-Object-clause-treated c =
    let images = c.args.images.now.images in
    let ids = ids_in images c.args.head c.args.new in
    let held = c.args.index.now.held in
    let p = c.args.place in
    let s = c.args.survivors in
    let segment = c.args.images.now.segment in
    let f = c.fate_of.ensures in
    let h = c.in-Object.held in
    let after = c.copy-to.new.filling in
    let is = object_copied (goal.at.returns-in-Object-clause-treated c).After-relocate in
    let moved =
    c.relocate.ensures.moved ∙ ap (λ (q : Place). relocated h q held) c.copy-to.ensures.place in
    treats images p (seen_len c.args.seen) f.0 f.1 segment ids held s c.args.filling.now copied.Moved after
    c.copy-to.new.images.images c.relocate.new.self.held
    (filled_is images p (seen_len c.args.seen) f.0 c.requires.there f.1 ids held segment
    (level_at s c.args.filling.now images) after
    (object_kept held p (kept ids held p f.0) f.0 h (sym f.2 ∙ c.in-Object.is)) c.copy-to.ensures.filling)
    (does_object p (s.first + after) images held (kept ids held p f.0) f.0 h c.copy-to.new.images.images
    c.relocate.new.self.held (sym f.2 ∙ c.in-Object.is) (ap (λ (v : ImagesValue). v.images) is) moved)

pub returns-in-Object-clause-images : goal.returns-in-Object-clause-images
returns-in-Object-clause-images c =
    others_are c.copy-to.new.images c.args.images.now
    (changed c.args.images.now.images (c.args.survivors.first + c.copy-to.new.filling)
    (with_unit (c.fate_of.ensures.0 ∷ [])))
    (object_copied (goal.at.returns-in-Object-clause-images c).After-relocate)

pub returns-in-Tombstone-clause-treated : goal.returns-in-Tombstone-clause-treated
returns-in-Tombstone-clause-treated c =
    let images = c.args.images.now.images in
    let ids = ids_in images c.args.head c.args.new in
    let held = c.args.index.now.held in
    let p = c.args.place in
    let s = c.args.survivors in
    let segment = c.args.images.now.segment in
    let f = c.fate_of.ensures in
    let to = c.copy.new.filling in
    let after = c.copy.new.images.images in
    let is = tombstone_copied (goal.at.returns-in-Tombstone-clause-treated c).After-copy in
    treats images p (seen_len c.args.seen) f.0 f.1 segment ids held s c.args.filling.now copied.Carried to after held
    (filled_is images p (seen_len c.args.seen) f.0 c.requires.there f.1 ids held segment
    (level_at s c.args.filling.now images) to
    (tombstone_kept held p (kept ids held p f.0) f.0 (sym f.2 ∙ c.in-Tombstone.is)) c.copy.ensures.filling)
    (does_tombstone p (s.first + to) images held (kept ids held p f.0) f.0 after held (sym f.2 ∙ c.in-Tombstone.is)
    (ap (λ (v : ImagesValue). v.images) is) refl)

pub returns-in-Tombstone-clause-images : goal.returns-in-Tombstone-clause-images
returns-in-Tombstone-clause-images c =
    others_are c.copy.new.images c.args.images.now
    (changed c.args.images.now.images (c.args.survivors.first + c.copy.new.filling)
    (with_unit (c.fate_of.ensures.0 ∷ [])))
    (tombstone_copied (goal.at.returns-in-Tombstone-clause-images c).After-copy)

pub returns-in-Dead-clause-treated : goal.returns-in-Dead-clause-treated
returns-in-Dead-clause-treated c =
    let images = c.args.images.now.images in
    let ids = ids_in images c.args.head c.args.new in
    let held = c.args.index.now.held in
    let p = c.args.place in
    let s = c.args.survivors in
    let segment = c.args.images.now.segment in
    let filling = c.args.filling.now in
    let f = c.fate_of.ensures in
    let is = sym f.2 ∙ c.in-Dead.is in
    treats images p (seen_len c.args.seen) f.0 f.1 segment ids held s filling copied.Dropped filling images held
    (sym (ap (λ (b : Bool). filling_with b segment (level_at s filling images) f.0)
    (dead_kept held p (kept ids held p f.0) f.0 is)))
    (does_dead p (s.first + filling) images held (kept ids held p f.0) f.0 is)
