use Rattle.std.proofs.Common.{◌≡◌, ◌+◌, ◌-◌, ℕ, Some, ap, ◌∙◌, arith}
use Rattle.std.specs.Prelude.{slice_get}
use Rattle.history.specs.View.{shown_record}
use Rattle.store_seat.proofs.Owning.{kept_is}
use Rattle.locked_log.proofs.Anew.{next_few, next_filed, next_known}
use Rattle.locked_log.proofs.refiling.file_next.Goals as goal

pub file-requires-clause-known : goal.file-requires-clause-known
file-requires-clause-known g c =
    let r = shown_record c.in-Some.what in
    let hs = c.args.history.now.records in
    let at : Some r ≡ slice_get hs (g.B.Labels.start + c.args.i) = c.in-Some.ensures
    ∙ kept_is c.args.history.now (c.start.result + c.args.i) (omega (arith, c.requires.kept, c.start.ensures))
    ∙ ap (λ (n : ℕ). slice_get hs (n + c.args.i)) c.start.ensures in
    next_known c.args._old.now.items hs g.B.Labels.start c.args.i r at c.args.row.now c.args.book.now.items
    c.args.total.now.total c.args.seats.now.items c.requires.filed c.requires.seat c.index_mut-seat.result.now
    c.index_mut-seat.ensures.value

pub file-requires-clause-room : goal.file-requires-clause-room
file-requires-clause-room g c =
    let r = shown_record c.in-Some.what in
    let hs = c.args.history.now.records in
    let at : Some r ≡ slice_get hs (g.B.Labels.start + c.args.i) = c.in-Some.ensures
    ∙ kept_is c.args.history.now (c.start.result + c.args.i) (omega (arith, c.requires.kept, c.start.ensures))
    ∙ ap (λ (n : ℕ). slice_get hs (n + c.args.i)) c.start.ensures in
    next_few c.args._old.now.items hs g.B.Labels.start c.args.i r at c.args.row.now c.args.book.now.items
    c.args.total.now.total c.args.seats.now.items c.requires.filed c.requires.seat c.index_mut-seat.result.now
    c.index_mut-seat.ensures.value (omega (arith, c.requires.within, c.requires.few))

pub returns-clause-filed : goal.returns-clause-filed
returns-clause-filed g c = λ took.
    let r = shown_record c.in-Some.what in
    let hs = c.args.history.now.records in
    let at : Some r ≡ slice_get hs (g.B.Labels.start + c.args.i) = c.in-Some.ensures
    ∙ kept_is c.args.history.now (c.start.result + c.args.i) (omega (arith, c.requires.kept, c.start.ensures))
    ∙ ap (λ (n : ℕ). slice_get hs (n + c.args.i)) c.start.ensures in
    let cell : (c.start.result + c.args.i) - g.B.Labels.start ≡ c.args.i = omega (arith, c.start.ensures) in
    next_filed c.args._old.now.items hs g.B.Labels.start c.args.i r at c.args.row.now c.args.book.now.items
    c.args.total.now.total c.args.seats.now.items c.requires.filed c.requires.seat c.index_mut-seat.result.now
    c.index_mut-seat.ensures.value (c.start.result + c.args.i) ((c.start.result + c.args.i) - g.B.Labels.start)
    c.file.result c.file.new.row c.file.new.book.items c.file.new.total.total c.file.new.seat
    (omega (arith, c.requires.within, c.requires.room)) cell took
    c.file.ensures.row c.file.ensures.book c.file.ensures.total c.file.ensures.seat
