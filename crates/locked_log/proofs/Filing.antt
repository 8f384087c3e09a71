-- One record more: in the history, in the row and in the book.
use Rattle.std.proofs.Common.{◌≡◌, ◌≢◌, ◌≤◌, ◌<◌, ◌⊎◌, ⊎_elim, ℕ, ◌+◌, ◌-◌, List, [], ◌∷◌, ◌++◌, Option, Some, Bool}
use Rattle.std.proofs.Common.{true, false}
use Rattle.std.proofs.Common.{MatchBool, drop, length, refl, sym, ap, ◌∙◌, subst, arith, length-append, length-set}
use Rattle.std.specs.Prelude.{slice_get, slice_set}
use Rattle.versioned_map.specs.declared.command.Command.{Command}
use Rattle.versioned_map.specs.declared.command.Record.{Record}
use Rattle.versioned_map.specs.declared.command.Reply.{Reply}
use Rattle.std.proofs.lemmas.List.{drop-append-le, length-drop}
use Rattle.store_step.specs.master.Keeps.{Keeps}
use Rattle.store_step.specs.master.Valid.{IsValid}
use Rattle.store_seat.specs.declared.account.Account.{Account}
use Rattle.locked_log.specs.Applies.{Counts}
use Rattle.locked_log.specs.Held.{Held, history, knows, made_since}
use Rattle.store_seat.specs.Made.{Made}
use Rattle.store_seat.specs.Seats.{SeatValue, record_by}
use Rattle.store_seat.specs.Accounts.{account}
use Rattle.locked_log.specs.States.{IsState, Lasts}
use Rattle.history.specs.Seats.{count_of}
use Rattle.locked_log.proofs.Adding.{place_is, history_is}
use Rattle.locked_log.proofs.Counting.{get_set, get_before, in_book, count_mine, count_other, all_push}
use Rattle.locked_log.proofs.Lasting.{firsts_set, made_lasts}
use Rattle.locked_log.proofs.Writing.{written_push}

pub same_length : (took : Bool) (row next : List (Option Record)) (i : ℕ) (v : Option Record)
    → MatchBool took (next ≡ slice_set row i v) (next ≡ row) → length next ≡ length row
same_length true row next i v e = ap length e ∙ length-set row i v
same_length false row next i v e = ap length e

module _ (s t : Held) (m : SeatValue) (command : Command) (place : ℕ) (reply : Reply)
    (c : Counts s m command place reply t) (begun : t.start ≡ s.start) where
  abbrev pub what : Record
  what = record_by m.number command reply

  abbrev mine : Account
  mine = account m.first m.count

  abbrev next : Account
  next = account m.first (m.count + 1)

  grown : history t ≡ history s ++ what ∷ []
  grown = history_is s.world t.world m.number command place reply c.accepted

  pub at_end : place ≡ length (history s)
  at_end = place_is s.world t.world m.number command place reply c.accepted

  pub filed_lasts : Keeps 1 s.world t.world → length t.row ≡ length s.row
      → (s.is_refused ≡ true → t.is_refused ≡ true) → Lasts 1 s t
  filed_lasts keeps cells on = record {
    keeps = keeps;
    accounts = ap length c.book ∙ length-set s.book m.number next;
    firsts = λ k a b e f. firsts_set s.book m.number mine next c.known (omega arith) k a b e
        (ap (λ l. slice_get l k) (sym c.book) ∙ f);
    start = begun;
    cells = cells;
    refused = on;
  }

  -- ---- what was made since the store was

  module _ (from : s.start ≤ length (history s)) where
    pub more : made_since t ≡ made_since s ++ what ∷ []
    more = (λ i. drop (begun i) (grown i)) ∙ drop-append-le s.start (history s) (what ∷ []) from

    pub cell_is : place - s.start ≡ length (made_since s)
    cell_is = omega (arith, at_end, length-drop s.start (history s))

  module _ (made : Made) (st : IsState s made) (keeps : Keeps 1 s.world t.world)
      (valid : IsValid t.world.knows t.world.fleet) (kept : (knows t).forgotten ≡ (knows s).forgotten)
      (room : place < s.start + length s.row) where
    longer : length (history t) ≡ length (history s) + 1
    longer = ap length grown ∙ length-append (history s) (what ∷ [])

    -- a record that can be settled is one that could before, or the last one
    unsettled : (at : ℕ) (r : Record) → at < (knows t).forgotten → slice_get (history t) at ≡ Some r
        → (at < (knows s).forgotten) × (slice_get (history s) at ≡ Some r)
    unsettled at r below there =
        let low : at < length (history s) = omega (arith, below, kept, st.valid.history.within) in (
          omega (arith, below, kept),
          sym (get_before (history s) what at low) ∙ ap (λ l. slice_get l at) (sym grown)
              ∙ there,
        )

    pub filed : (took : Bool) → s.is_refused ≡ false
        → MatchBool took (t.row ≡ slice_set s.row (place - s.start) (Some what)) (t.row ≡ s.row)
        → (t.is_refused ≡ false → took ≡ true) → IsState t made
    filed took off e when = record {
      valid = valid;
      master = made_lasts 1 s.world t.world made keeps st.master;
      start = omega (arith, begun, st.start, longer);
      written = written_push took s.row t.row (made_since s) (made_since t) what s.is_refused t.is_refused off
          (more st.start) (omega (arith, room, at_end, cell_is st.start, st.start)) st.written
          (subst (λ (n : ℕ). MatchBool took (t.row ≡ slice_set s.row n (Some what)) (t.row ≡ s.row))
          (cell_is st.start) e) when;
      accounts = ap length c.book ∙ length-set s.book m.number next ∙ st.accounts;
      firsts = λ k a got. ⊎_elim
          (λ (x : (k ≡ m.number) × (next ≡ a)). omega (
            arith,
            ap (λ (y : Account). y.first) x.1,
            st.firsts m.number mine c.known,
            keeps.durable,
          ))
          (λ (x : (k ≢ m.number) × (slice_get s.book k ≡ Some a)). omega (arith, st.firsts k a x.1, keeps.durable))
          (there k a got);
      counts = λ k a got. ⊎_elim
          (λ (x : (k ≡ m.number) × (next ≡ a)). sym (ap (λ (y : Account). y.count) x.1)
          ∙ ap (λ n. n + 1) (st.counts m.number mine c.known) ∙ sym (count_mine m.number (made_since s) what refl)
          ∙ ap (λ l. count_of m.number l) (sym (more st.start)) ∙ ap (λ n. count_of n (made_since t)) (sym x.0))
          (λ (x : (k ≢ m.number) × (slice_get s.book k ≡ Some a)). st.counts k a x.1
          ∙ sym (count_other k (made_since s) what (λ q. x.0 (sym q))) ∙ ap (λ l. count_of k l) (sym (more st.start)))
          (there k a got);
      no_others = rw (more st.start) (all_push made.seats (made_since s) what st.no_others
          (omega (arith, in_book s.book m.number mine c.known, st.accounts)));
      total = c.total ∙ ap (λ n. n + 1) st.total
          ∙ sym (ap length (more st.start) ∙ length-append (made_since s) (what ∷ []));
      settled = λ at since below waits.
          let r = waits.1 in
          let old = unsettled at r below waits.2 in
          let from : s.start ≤ at = omega (arith, since, begun) in
          ⊎_elim
          (λ (x : (r.seat ≡ m.number) × (next ≡ waits.0)). st.settled at from old.0 (
            mine,
            r,
            old.1,
            ap (λ n. slice_get s.book n) x.0 ∙ c.known,
            omega (arith, waits.4, ap (λ (y : Account). y.first) x.1),
          ))
          (λ (x : (r.seat ≢ m.number) × (slice_get s.book r.seat ≡ Some waits.0)). st.settled at from old.0
          (waits.0, r, old.1, x.1, waits.4))
          (there r.seat waits.0 waits.3);
    }
      where
        there : (k : ℕ) (a : Account) → slice_get t.book k ≡ Some a → ((k ≡ m.number) × (next ≡ a))
            ⊎ ((k ≢ m.number) × (slice_get s.book k ≡ Some a))
        there k a got = get_set s.book m.number k next a (ap (λ l. slice_get l k) (sym c.book) ∙ got)
