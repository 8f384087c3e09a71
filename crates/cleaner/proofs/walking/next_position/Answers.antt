use Rattle.std.proofs.Common.{◌+◌, drop, get_or, refl, arith}
use Rattle.std.proofs.lemmas.List.{drop_more}
use Rattle.cleaner.specs.Passes.{images_in}
use Rattle.cleaner.proofs.Cursors.{going_start, going_end, going_between, going_found, going_next}
use Rattle.cleaner.proofs.Images.{image_is}
use Rattle.cleaner.proofs.walking.next_position.Goals as goal

pub loop-position-init : goal.loop-position-init
loop-position-init c =
    going_start (images_in c.args.images.now.images) c.args.victims.now c.args.from c.requires.within c.requires.between

pub next_data-requires : goal.next_data-requires
next_data-requires c =
    let images = c.args.images.now.images in
    let vs = c.args.victims.now in
    let now = c.loop-position.position in
    let s = get_or vs now.victim 0 in
    let es = c.in-Some.segment in
    going_between (images_in images) vs c.args.from now c.loop-position.invariant s (drop (now.victim + 1) vs)
    (drop_more vs now.victim 0 c.loop-position-test.true) es (image_is images s es c.in-Some.ensures)

pub returns-in-Some-next_data : goal.returns-in-Some-next_data
returns-in-Some-next_data c =
    let images = c.args.images.now.images in
    let vs = c.args.victims.now in
    let now = c.loop-position.position in
    let s = get_or vs now.victim 0 in
    let es = c.in-Some.segment in
    going_found (images_in images) vs c.args.from now c.loop-position.invariant s (drop (now.victim + 1) vs)
    (drop_more vs now.victim 0 c.loop-position-test.true) es (image_is images s es c.in-Some.ensures)
    c.in-Some-next_data.at c.in-Some-next_data.ensures.finds

pub loop-position-preserved : goal.loop-position-preserved
loop-position-preserved c =
    let images = c.args.images.now.images in
    let vs = c.args.victims.now in
    let now = c.loop-position.position in
    let s = get_or vs now.victim 0 in
    let es = c.in-Some.segment in
    going_next (images_in images) vs c.args.from now c.loop-position.invariant s (drop (now.victim + 1) vs)
    (drop_more vs now.victim 0 c.loop-position-test.true) es (image_is images s es c.in-Some.ensures)
    c.in_default-next_data.ensures.finds c.loop-position-test.true refl

pub returns : goal.returns
returns c =
    going_end (images_in c.args.images.now.images) c.args.victims.now c.args.from c.loop-position.position
    c.loop-position.invariant (omega (arith, c.loop-position-test.false))
