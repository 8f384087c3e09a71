-- A store at its start, and what a close tells.
use Rattle.std.proofs.Common.{◌≡◌, ℕ, zero, suc, List, [], Option, Some, false, drop, length, sym, ap, ◌∙◌, arith}
use Rattle.std.proofs.lemmas.List.{length-replicate}
use Rattle.std.proofs.Math.Seq.{drop-length}
use Rattle.std.specs.Prelude.{slice_get}
use Rattle.history_row.specs.Rows.{IsRowOf}
use Rattle.store_step.specs.master.Valid.{IsValid}
use Rattle.store_seat.specs.declared.account.Account.{Account}
use Rattle.locked_log.specs.Ends.{fresh_book, IsServed}
use Rattle.locked_log.specs.Held.{Held, history, made_since, durable}
use Rattle.store_seat.specs.Made.{Made}
use Rattle.locked_log.specs.Made.{IsMade}
use Rattle.store_seat.specs.Seats.{SeatValue}
use Rattle.store_seat.specs.Accounts.{account, Knows}
use Rattle.locked_log.specs.States.{IsState}
use Rattle.history.specs.Seats.{count_of}

fresh_account : (first n k : ℕ) (a : Account) → slice_get (fresh_book first n) k ≡ Some a → a ≡ account first 0
fresh_account first zero k a e = absurd (cc)
fresh_account first (suc n) zero a e = let same : account first 0 ≡ a = cc in sym same
fresh_account first (suc n) (suc k) a e = fresh_account first n k a e

pub opens : (h : Held) (made : Made) (first : ℕ) → IsMade made h.world → IsRowOf h.row [] → h.start ≡ length (history h)
    → IsValid h.world.knows h.world.fleet → first ≡ durable h → h.book ≡ fresh_book first made.seats
    → h.total ≡ 0 → h.is_refused ≡ false → IsState h made
opens h made first is empty at_end valid first_is book total off =
    let none : made_since h ≡ [] = ap (λ n. drop n (history h)) at_end ∙ drop-length (history h) in
    let no_more : length (made_since h) ≡ 0 = ap length none in
    record {
      valid = valid;
      master = is;
      start = omega (arith, at_end);
      written = record { count = 0; within = omega arith; whole = λ c. sym no_more; is = empty };
      accounts = ap length book ∙ length-replicate made.seats (account first 0);
      firsts = λ k a e. let b = ap (λ (x : Account). x.first) (at k a e) in omega (arith, b, first_is);
      counts = λ k a e. ap (λ (x : Account). x.count) (at k a e) ∙ ap (count_of k) (sym none);
      no_others = λ k d l. absurd (omega (arith, no_more));
      total = total ∙ sym no_more;
      settled = λ place since below waits. absurd (omega (
        arith,
        since,
        below,
        at_end,
        valid.history.within,
      ));
    }
  where
    at : (k : ℕ) (a : Account) → slice_get h.book k ≡ Some a → a ≡ account first 0
    at k a e = fresh_account first made.seats k a (ap (λ l. slice_get l k) (sym book) ∙ e)

-- what the book has of a seat is in the history
pub served : (h : Held) (made : Made) (m : SeatValue) → IsState h made → Knows h.book m
    → IsServed h.start h.world.knows m
served h made m st e =
    record {
      durable = st.firsts m.number (account m.first m.count) e;
      count = st.counts m.number (account m.first m.count) e;
    }
