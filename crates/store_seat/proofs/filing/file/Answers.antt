use Rattle.std.proofs.Common.{◌≡◌, ◌<◌, ℕ, ◌+◌, ◌-◌, arith, List, Option, Some, length, get_or, sym, ap, ◌∙◌, subst}
use Rattle.std.proofs.Common.{rules, refl}
use Rattle.std.specs.Prelude.{slice_get, slice_set}
use Rattle.versioned_map.specs.declared.command.Record.{Record}
use Rattle.history_row.specs.Receipts.{Told}
use Rattle.store_seat.specs.declared.account.Account.{Account}
use Rattle.store_seat.specs.Seats.{SeatValue, told, noted}
use Rattle.store_seat.specs.Accounts.{account, Knows}
use Rattle.std.proofs.lemmas.Option.{same_Some}
use Rattle.store_seat.proofs.Places.{get_there, set_there}
use Rattle.history.specs.View.{shown_record}
use Rattle.store_seat.proofs.filing.file.Goals as goal

-- the account of a seat that the book knows, with one record more
booked : (book : List Account) (v m : SeatValue) (a : Account) → v ≡ m → Knows book m → a ≡ get_or book v.number a
    → slice_set book v.number (account a.first (v.count + 1)) ≡ slice_set book m.number (account m.first (m.count + 1))
booked book v m a same known is =
    let mine = get_there book v.number a (account v.first v.count) (subst (Knows book) (sym same) known) is in
    ap (λ (n : ℕ). slice_set book v.number (account n (v.count + 1))) (ap (λ (x : Account). x.first) mine)
    ∙ ap (λ (x : SeatValue). slice_set book x.number (account x.first (x.count + 1))) same

-- the receipt of a cell that was set
told_is : (row new : List (Option Record)) (place i : ℕ) (what : Record) (t : Told) → i < length row
    → new ≡ slice_set row i (Some what) → t.place ≡ place → slice_get new i ≡ Some t.what → t ≡ told place what
told_is row new place i what t within is at there =
    let cell : slice_get new i ≡ Some (Some what) = ap (λ (r : List (Option Record)). slice_get r i) is
    ∙ set_there row i (Some what) within in
    let kept : t.what ≡ Some what = same_Some _ _ (sym there ∙ cell) in
    λ i. record { place = at i; what = kept i }

pub returns-then-took-clause-seat : goal.returns-then-took-clause-seat
returns-then-took-clause-seat g c =
    let is = told_is c.args.row.now c.set-took.new.self c.args.place (c.args.place - g.B.Labels.start)
    (shown_record c.args.what.now) c.receipt.result (omega (arith, c.requires.cell))
    c.if-took.ensures c.receipt.ensures.receipt.0 c.receipt.ensures.receipt.1 in
    let here : c.match-seat.seat ≡ record {
      number = c.seat.inside.number;
      first = c.seat.inside.first;
      count = c.seat.inside.count + 1;
      parts = c.add.new.share.parts;
      amount = c.add.new.share.amount;
      last =
          Some c.receipt.result;
      mark = c.seat.inside.pen.me.0;
    } = search rules in
    rw c.if-took.true
    (here
    ∙ (λ i. record {
      number = c.seat.inside.number;
      first = c.seat.inside.first;
      count = c.seat.inside.count + 1;
      parts = c.add.ensures.parts i;
      amount = c.add.ensures.amount i;
      last = Some (is i);
      mark =
          c.seat.inside.pen.me.0;
    })
    ∙ ap (λ (m : SeatValue). noted m (told c.args.place (shown_record c.args.what.now))) c.seat.view_is)

pub returns-then-took-clause-book : goal.returns-then-took-clause-book
returns-then-took-clause-book g c = booked c.args.book.now.items _ c.args.seat.now c.index_mut.result.now c.seat.view_is
    c.requires.known c.index_mut.ensures.value

pub returns-else-took-clause-book : goal.returns-else-took-clause-book
returns-else-took-clause-book g c = booked c.args.book.now.items _ c.args.seat.now c.index_mut.result.now c.seat.view_is
    c.requires.known c.index_mut.ensures.value

pub returns-then-took-clause-refused : goal.returns-then-took-clause-refused
returns-then-took-clause-refused g c = rw c.if-took.true refl

pub returns-else-took-clause-refused : goal.returns-else-took-clause-refused
returns-else-took-clause-refused g c = rw c.if-took.false refl
