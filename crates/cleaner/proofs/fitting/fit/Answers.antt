use Rattle.std.proofs.Common.{ℕ, ◌+◌, List, length, get_or, refl, sym, ap, subst}
use Rattle.std.proofs.lemmas.List.{drop_more}
use Rattle.entry.specs.Text.{IsSegment}
use Rattle.cleaner.specs.Passes.{images_in, ids_in}
use Rattle.cleaner.proofs.Images.{image_is}
use Rattle.cleaner.proofs.SegmentFits.{AreFine}
use Rattle.cleaner.proofs.Bounding.{read_next, too_many, rest_fits}
use Rattle.cleaner.proofs.fitting.fit.Goals.{After-bytes_in-left}
use Rattle.cleaner.proofs.fitting.fit.Goals as goal

-- the victims are segments, and no longer than the limit
fine : (c : After-bytes_in-left) → AreFine c.args.segment (images_in c.args.images.now.images) c.args.victims.now
fine c =
    subst (λ (n : ℕ). AreFine n (images_in c.args.images.now.images) c.args.victims.now) (sym c.requires.segment)
    c.bytes_in-left.ensures.valid

pub returns-then-level-left-clause-count : goal.returns-then-level-left-clause-count
returns-then-level-left-clause-count c =
    let images = c.args.images.now.images in
    rest_fits c.args.segment (ids_in images c.args.head c.args.new) c.args.index.now.held (images_in images)
    c.args.victims.now c.loop-read.read c.loop-read.level c.loop-read.left
    (record { survivors = c.loop-read.level.survivor + 1; near = 0 })
    (fine (goal.at.returns-then-level-left-clause-count c).After-bytes_in-left) c.loop-read.invariant
    c.if-level-left.true refl

pub returns-then-level-left-clause-valid : goal.returns-then-level-left-clause-valid
returns-then-level-left-clause-valid c = fine (goal.at.returns-then-level-left-clause-valid c).After-bytes_in-left

pub returns-then-level-ge-MAX_SURVIVORS-clause-count : goal.returns-then-level-ge-MAX_SURVIVORS-clause-count
returns-then-level-ge-MAX_SURVIVORS-clause-count c =
    let images = c.args.images.now.images in
    let vs = c.args.victims.now in
    let i = c.loop-read.read in
    let s = get_or vs i 0 in
    let es = c.in-Some.victim in
    let is = image_is images s es c.in-Some.ensures in
    too_many c.args.segment (ids_in images c.args.head c.args.new) c.args.index.now.held (images_in images) vs i
    c.loop-read.level c.loop-read.left s es c.loop-read.invariant (drop_more vs i 0 c.loop-read-test.true) is
    (subst IsSegment is c.bytes.ensures.valid) c.fill-level.result c.fill-level.ensures.filled
    c.if-level-ge-MAX_SURVIVORS.true

pub returns-then-level-ge-MAX_SURVIVORS-clause-valid : goal.returns-then-level-ge-MAX_SURVIVORS-clause-valid
returns-then-level-ge-MAX_SURVIVORS-clause-valid c =
    fine (goal.at.returns-then-level-ge-MAX_SURVIVORS-clause-valid c).After-bytes_in-left

pub loop-read-preserved : goal.loop-read-preserved
loop-read-preserved c =
    let images = c.args.images.now.images in
    let vs = c.args.victims.now in
    let i = c.loop-read.read in
    let s = get_or vs i 0 in
    let es = c.in-Some.victim in
    let is = image_is images s es c.in-Some.ensures in
    read_next c.args.segment (ids_in images c.args.head c.args.new) c.args.index.now.held (images_in images) vs i
    c.loop-read.level c.loop-read.left s es c.loop-read.invariant (drop_more vs i 0 c.loop-read-test.true) is
    (subst IsSegment is c.bytes.ensures.valid) c.fill-level.result c.fill-level.ensures.filled
    (length c.bytes.result.now) (ap (λ (bytes : List ℕ). length bytes) c.bytes.ensures.text)
    c.if-level-ge-MAX_SURVIVORS.false c.fill-level.ensures.limit

pub returns-clause-valid : goal.returns-clause-valid
returns-clause-valid c = fine (goal.at.returns-clause-valid c).After-bytes_in-left
