use Rattle.std.proofs.Common.{sym, ap, ◌∙◌, true, false, Some}
use Rattle.compactor.specs.Log.{ids_of_log}
use Rattle.cleaner.specs.declared.ahead.Seen.{Seen}
use Rattle.cleaner.specs.declared.treating.Fate.TheVariants as fate
use Rattle.cleaner.specs.Passes.{images_in}
use Rattle.cleaner.proofs.Copying.{fate_of_object, fate_of_tombstone, has_fate}
use Rattle.cleaner.proofs.treating.fate_of.Goals as goal

pub returns-then-holds : goal.returns-then-holds
returns-then-holds c =
    let p = c.args.place in
    let one = c.requires in
    let h = c.in-Object.hash in
    let shows = one.shows ∙ ap (λ (x : Seen). Some x) c.in-Object.is in
    has_fate (ids_of_log c.args.log.now) c.args.index.now.held (images_in c.args.log.now.closed.now.images) p
    (fate.Object (record { hash = h; place = p })) c.args.seen one
    (fate_of_object (ids_of_log c.args.log.now) c.args.index.now.held p one.entry h c.in-Object.field-1 true shows
    (sym c.holds.ensures ∙ c.if-holds.true))

pub returns-else-holds : goal.returns-else-holds
returns-else-holds c =
    let p = c.args.place in
    let one = c.requires in
    let h = c.in-Object.hash in
    let shows = one.shows ∙ ap (λ (x : Seen). Some x) c.in-Object.is in
    has_fate (ids_of_log c.args.log.now) c.args.index.now.held (images_in c.args.log.now.closed.now.images) p fate.Dead
    c.args.seen one
    (fate_of_object (ids_of_log c.args.log.now) c.args.index.now.held p one.entry h c.in-Object.field-1 false shows
    (sym c.holds.ensures ∙ c.if-holds.false))

pub returns-then-has : goal.returns-then-has
returns-then-has c =
    let p = c.args.place in
    let one = c.requires in
    let s = c.in-Tombstone.segment in
    let shows = one.shows ∙ ap (λ (x : Seen). Some x) c.in-Tombstone.is in
    has_fate (ids_of_log c.args.log.now) c.args.index.now.held
    (images_in c.args.log.now.closed.now.images) p fate.Tombstone
    c.args.seen one
    (fate_of_tombstone (ids_of_log c.args.log.now) c.args.index.now.held p one.entry s c.in-Tombstone.field-1 true shows
    (sym c.has.ensures ∙ c.if-has.true))

pub returns-else-has : goal.returns-else-has
returns-else-has c =
    let p = c.args.place in
    let one = c.requires in
    let s = c.in-Tombstone.segment in
    let shows = one.shows ∙ ap (λ (x : Seen). Some x) c.in-Tombstone.is in
    has_fate (ids_of_log c.args.log.now) c.args.index.now.held (images_in c.args.log.now.closed.now.images) p fate.Dead
    c.args.seen one
    (fate_of_tombstone (ids_of_log c.args.log.now) c.args.index.now.held p one.entry s
    c.in-Tombstone.field-1 false shows
    (sym c.has.ensures ∙ c.if-has.false))
