use Rattle.std.proofs.Common.{◌≡◌, ℕ, suc, ◌+◌, ◌-◌, ◌++◌, ap, ◌∙◌, arith}
use Rattle.std.specs.List.{range_with_len}
use Rattle.master_state.specs.log_laws.Intact.{survivor_entries}
use Rattle.images.specs.Image.{whole_image}
use Rattle.images.specs.Images.{ImagesValue}
use Rattle.master_state.specs.Images.{survivor_images}
use Rattle.master_space.proofs.NewSurvivors.{other, within, has_room, is_free, joined}
use Rattle.master_space.proofs.cleaning.+add_survivors.Goals as goal
use Rattle.master_space.proofs.cleaning.+add_survivors.Goals.{In_ok-add_survivors}

-- from what the call without the last one gave
module _ (t : ℕ) (c : In_ok-add_survivors t) where
  abbrev n : ℕ
  n = c.args.survivors.count - 1

  one : suc n ≡ c.args.survivors.count
  one = let some = c.if-survivors-eq0.false in omega (arith, some)

  before : c.add_survivors.new.closed ≡ record c.args.closed.now {
    images = c.args.closed.now.images ++ survivor_images c.args.config.now (range_with_len c.args.survivors.first n);
  }
  before =
      c.in_ok-add_survivors.ensures.ok
      ∙ ap (λ (v : ImagesValue). record v {
        images = v.images ++ survivor_images c.args.config.now (range_with_len c.args.survivors.first n);
      }) c.begin_survivor.ensures.same

  image : c.in_ok-survivor.survivor ≡ whole_image (c.args.survivors.first + n)
      (survivor_entries c.args.config.now.master (c.args.survivors.first + n)) c.args.closed.now.segment
  image =
      c.in_ok-survivor.ensures.survivor
      ∙ ap (λ (id : ℕ). whole_image id (survivor_entries c.args.config.now.master id) c.args.closed.now.segment)
      c.id-last.ensures

pub add_image-requires-clause-other : goal.add_image-requires-clause-other
add_image-requires-clause-other t c =
    let a = (goal.at.add_image-requires-clause-other t c).In_ok-add_survivors in
    other c.args.config.now c.args.closed.now c.add_survivors.new.closed c.args.survivors.first
    c.args.survivors.count (n t a) (one t a) c.requires.sizes c.show_valid.ensures c.requires.newest c.requires.room
    c.requires.free (before t a) c.in_ok-survivor.survivor (image t a)

pub add_image-requires-clause-within : goal.add_image-requires-clause-within
add_image-requires-clause-within t c =
    let a = (goal.at.add_image-requires-clause-within t c).In_ok-add_survivors in
    within c.args.config.now c.args.closed.now c.add_survivors.new.closed c.args.survivors.first
    c.args.survivors.count (n t a) (one t a) c.requires.sizes c.show_valid.ensures c.requires.newest c.requires.room
    c.requires.free (before t a) c.in_ok-survivor.survivor (image t a)

pub add_image-requires-clause-room : goal.add_image-requires-clause-room
add_image-requires-clause-room t c =
    let a = (goal.at.add_image-requires-clause-room t c).In_ok-add_survivors in
    has_room c.args.config.now c.args.closed.now c.add_survivors.new.closed c.args.survivors.first
    c.args.survivors.count (n t a) (one t a) c.requires.sizes c.show_valid.ensures c.requires.newest c.requires.room
    c.requires.free (before t a) c.in_ok-survivor.survivor (image t a)

pub add_image-requires-clause-free : goal.add_image-requires-clause-free
add_image-requires-clause-free t c =
    let a = (goal.at.add_image-requires-clause-free t c).In_ok-add_survivors in
    is_free c.args.config.now c.args.closed.now c.add_survivors.new.closed c.args.survivors.first
    c.args.survivors.count (n t a) (one t a) c.requires.sizes c.show_valid.ensures c.requires.newest c.requires.room
    c.requires.free (before t a) c.in_ok-survivor.survivor (image t a)

pub returns-clause-ok : goal.returns-clause-ok
returns-clause-ok t c =
    let a = (goal.at.returns-clause-ok t c).In_ok-add_survivors in
    c.add_image.ensures
    ∙ joined c.args.config.now c.args.closed.now c.add_survivors.new.closed c.args.survivors.first
    c.args.survivors.count (n t a) (one t a) c.requires.sizes c.show_valid.ensures c.requires.newest c.requires.room
    c.requires.free (before t a) c.in_ok-survivor.survivor (image t a)
