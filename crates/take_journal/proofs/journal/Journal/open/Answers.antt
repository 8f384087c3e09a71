use Rattle.std.proofs.Common.{◌∙◌, ap, arith, length, subst, sym}
use Rattle.std.proofs.lemmas.Bool.{false≢true}
use Rattle.take_journal.specs.Crash.{MayBeLeft}
use Rattle.take_journal.specs.Frames.{frames, recovered}
use Rattle.take_journal.proofs.Damage.{inside, left_of, place, torn_of}
use Rattle.take_journal.proofs.Numbers.{AreBytes}
use Rattle.take_journal.proofs.Splitting.{whole}
use Rattle.take_journal.proofs.journal.Journal.open.Goals as goal

pub overflow_sub-at : goal.overflow_sub-at
overflow_sub-at g c =
    let fits : AreBytes c.args.bytes.now = λ i. omega (arith, c.type_inv.bytes i) in
    inside c.args.bytes.now c.end_of_frames-end.result.now fits c.end_of_frames-end.ensures

pub returns-then-not-is_torn_end-clause-damaged : goal.returns-then-not-is_torn_end-clause-damaged
returns-then-not-is_torn_end-clause-damaged g c =
    let fits : AreBytes c.args.bytes.now = λ i. omega (arith, c.type_inv.bytes i) in
    let end = c.end_of_frames-end.result.now in
    let is = c.end_of_frames-end.ensures in (
      place c.args.bytes.now end fits is,
      λ left. false≢true (sym c.if-not-is_torn_end.true
          ∙ c.is_torn_end.ensures.1 (torn_of c.args.bytes.now end is left)),
    )

pub mend-requires-clause-left : goal.mend-requires-clause-left
mend-requires-clause-left g c =
    let fits : AreBytes c.args.bytes.now = λ i. omega (arith, c.type_inv.bytes i) in
    subst MayBeLeft c.requires.bytes
    (left_of c.args.bytes.now c.end_of_frames-end.result.now fits c.end_of_frames-end.ensures
    (c.is_torn_end.ensures.0 c.if-not-is_torn_end.false))

pub mend-requires-clause-place : goal.mend-requires-clause-place
mend-requires-clause-place g c =
    let fits : AreBytes c.args.bytes.now = λ i. omega (arith, c.type_inv.bytes i) in
    place c.args.bytes.now c.end_of_frames-end.result.now fits c.end_of_frames-end.ensures
    ∙ ap (λ f. length (frames (recovered f))) c.requires.bytes

pub returns-clause-left : goal.returns-clause-left
returns-clause-left g c =
    let fits : AreBytes c.args.bytes.now = λ i. omega (arith, c.type_inv.bytes i) in
    left_of c.args.bytes.now c.end_of_frames-end.result.now fits c.end_of_frames-end.ensures
    (c.is_torn_end.ensures.0 c.if-not-is_torn_end.false)

pub returns-clause-short : goal.returns-clause-short
returns-clause-short g c =
    let fits : AreBytes c.args.bytes.now = λ i. omega (arith, c.type_inv.bytes i) in
    (whole c.args.bytes.now fits).short
