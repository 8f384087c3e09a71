-- Records that are filed anew.
use Rattle.std.proofs.Common.{◌≡◌, ◌≢◌, ◌≤◌, ◌<◌, ◌⊎◌, inl, inr, ⊎_elim, ℕ, zero, suc, ◌+◌, ◌==◌, List, [], ◌∷◌, ◌++◌}
use Rattle.std.proofs.Common.{Option, Some, None, Bool, true, false, IfSome, MatchBool, length, take, drop, set, get_or}
use Rattle.std.proofs.Common.{refl, sym, ap, ◌∙◌, subst, arith, length-append, length-set}
use Rattle.std.specs.Prelude.{◌^◌, max, slice_get, slice_set}
use Rattle.std.proofs.lemmas.List.Sums.{count_by-le-length}
use Rattle.std.proofs.lemmas.List.{length-drop, length-take-le}
use Rattle.std.proofs.lemmas.Option.{get_or_from_slice_get, same_Some, slice_get_within}
use Rattle.std.proofs.Math.Seq.{drop-length, take-length}
use Rattle.std.proofs.lemmas.Bool.{cases_lt}
use Rattle.replica.specs.Picture.{FleetState}
use Rattle.store_step.specs.master.log_laws.Data.{durable_of}
use Rattle.store_step.specs.master.master_state.Log.{log_of}
use Rattle.store_step.specs.master.Valid.{IsValid}
use Rattle.store_step.specs.master.World.{MasterValue, World, world}
use Rattle.versioned_map.specs.declared.command.Record.{Record}
use Rattle.history.specs.Seats.{count_of, AreOfSeats}
use Rattle.history_row.specs.Receipts.{Told}
use Rattle.history_row.specs.Rows.{IsRowOf}
use Rattle.mark_word.specs.Marks.{nothing}
use Rattle.store_seat.specs.declared.account.Account.{Account}
use Rattle.store_seat.specs.Accounts.{account, IsSettled, Knows}
use Rattle.store_seat.specs.Claims.{Owns}
use Rattle.store_seat.specs.Made.{Made}
use Rattle.store_seat.specs.Seats.{SeatValue, told, noted, unnoted}
use Rattle.store_seat.proofs.Places.{get_there, set_there}
use Rattle.locked_log.specs.Ends.{fresh_book}
use Rattle.locked_log.specs.Held.{Held, StateValue, held, made_since}
use Rattle.locked_log.specs.Made.{IsMade}
use Rattle.locked_log.specs.Renews.{IsPaused, PausedValue, seat_again, AreSeatsAgain, IsOpenedAgain, AreFiled}
use Rattle.locked_log.specs.States.{IsState}
use Rattle.locked_log.proofs.Counting.{in_book, get_before, get_last, count_mine, count_other}
use Rattle.locked_log.proofs.Writing.{row_push}

-- ---- places of a list

set_other : {X : Type 0} (xs : List X) (i j : ℕ) (a : X) → j ≢ i → slice_get (set xs i a) j ≡ slice_get xs j
set_other [] i j a n = refl
set_other (x ∷ xs) zero zero a n = absurd (n refl)
set_other (x ∷ xs) zero (suc j) a n = refl
set_other (x ∷ xs) (suc i) zero a n = refl
set_other (x ∷ xs) (suc i) (suc j) a n = set_other xs i j a (λ e. n (ap suc e))

same_or : (k i : ℕ) → (k ≡ i) ⊎ (k ≢ i)
same_or zero zero = inl refl
same_or zero (suc i) = inr (λ h. omega arith)
same_or (suc k) zero = inr (λ h. omega arith)
same_or (suc k) (suc i) = ⊎_elim (λ e. inl (ap suc e)) (λ n. inr (λ h. n (omega arith))) (same_or k i)

pub take_next : {X : Type 0} (xs : List X) (i : ℕ) (x : X) → slice_get xs i ≡ Some x
    → take (i + 1) xs ≡ take i xs ++ x ∷ []
take_next [] i x e = absurd (cc)
take_next (y ∷ ys) zero x e = ap (λ z. z ∷ []) (same_Some _ _ e)
take_next (y ∷ ys) (suc i) x e =
    let s : suc i + 1 ≡ suc (i + 1) = omega arith in
    rw s (ap (λ l. y ∷ l) (take_next ys i x e))

pub there : {X : Type 0} (xs : List X) (i : ℕ) → i < length xs → (x : X) × (slice_get xs i ≡ Some x)
there [] i l = absurd (omega (arith, l))
there (x ∷ xs) zero l = (x, refl)
there (x ∷ xs) (suc i) l = there xs i (omega (arith, l))

less : (k n : ℕ) → k < n + 1 → k ≢ n → k < n
less zero zero l ne = absurd (ne refl)
less zero (suc n) l ne = omega arith
less (suc k) zero l ne = absurd (omega (arith, l))
less (suc k) (suc n) l ne = let b = less k n (omega (arith, l)) (λ e. ne (ap suc e)) in omega (arith, b)

get_drop : {X : Type 0} (n : ℕ) (xs : List X) (j : ℕ) → slice_get (drop n xs) j ≡ slice_get xs (n + j)
get_drop zero xs j = let e : zero + j ≡ j = omega arith in ap (slice_get xs) (sym e)
get_drop (suc n) [] j = refl
get_drop (suc n) (x ∷ xs) j =
    let e : suc n + j ≡ suc (n + j) = omega arith in get_drop n xs j ∙ ap (slice_get (x ∷ xs)) (sym e)

when_true : {X : Type 0} (x y z : X) (b : Bool) → b ≡ true → MatchBool b (x ≡ y) (x ≡ z) → x ≡ y
when_true x y z b e m = subst (λ (c : Bool). MatchBool c (x ≡ y) (x ≡ z)) e m

-- ---- a book and its seats at first

-- these accounts of the old book are opened
pub record Opened (old : List Account) (n : ℕ) (book : List Account) : Type 0 where
  pub count : length book ≡ n
  pub each : (k : ℕ) (a : Account) → k < n → slice_get old k ≡ Some a → slice_get book k ≡ Some (account a.first 0)

pub opened_one : (old : List Account) (n : ℕ) (book : List Account) (a : Account) → Opened old n book
    → slice_get old n ≡ Some a → Opened old (n + 1) (book ++ account a.first 0 ∷ [])
opened_one old n book a o at = record {
  count = length-append book (account a.first 0 ∷ []) ∙ ap (λ m. m + 1) o.count;
  each = λ k b low is. ⊎_elim
      (λ (e : k ≡ n).
      let same : a ≡ b = same_Some _ _ (sym at ∙ ap (slice_get old) (sym e) ∙ is) in
      ap (slice_get (book ++ account a.first 0 ∷ [])) (e ∙ sym o.count) ∙ get_last book (account a.first 0)
      ∙ ap (λ (x : Account). Some (account x.first 0)) same)
      (λ (ne : k ≢ n).
      let below : k < n = less k n low ne in
      get_before book (account a.first 0) k (omega (arith, below, o.count)) ∙ o.each k b below is)
      (same_or k n);
}

pub opened_all : (old book : List Account) → Opened old (length old) book → IsOpenedAgain old book
opened_all old book o = record { count = o.count; each = λ k a e. o.each k a (in_book old k a e) e }

-- these seats of the old book are there
pub record Seated (old : List Account) (n : ℕ) (seats : List SeatValue) : Type 0 where
  pub count : length seats ≡ n
  pub each : (k : ℕ) (a : Account) → k < n → slice_get old k ≡ Some a
      → slice_get seats k ≡ Some (seat_again k a [] None)

pub seated_one : (old : List Account) (n : ℕ) (seats : List SeatValue) (a : Account) (m : SeatValue)
    → Seated old n seats → slice_get old n ≡ Some a → m ≡ seat_again n a [] None → Seated old (n + 1) (seats ++ m ∷ [])
seated_one old n seats a m s at new = record {
  count = length-append seats (m ∷ []) ∙ ap (λ c. c + 1) s.count;
  each = λ k b low is. ⊎_elim
      (λ (e : k ≡ n).
      let same : a ≡ b = same_Some _ _ (sym at ∙ ap (slice_get old) (sym e) ∙ is) in
      let back : n ≡ k = sym e in
      ap (slice_get (seats ++ m ∷ [])) (e ∙ sym s.count) ∙ get_last seats m ∙ ap (λ (x : SeatValue). Some x) new
      ∙ (λ i. Some (seat_again (back i) (same i) [] None)))
      (λ (ne : k ≢ n).
      let below : k < n = less k n low ne in
      get_before seats m k (omega (arith, below, s.count)) ∙ s.each k b below is)
      (same_or k n);
}

pub seated_all : (old : List Account) (seats : List SeatValue) → Seated old (length old) seats
    → AreSeatsAgain old [] seats
seated_all old seats s =
    record { count = s.count; each = λ k a e. (None, s.each k a (in_book old k a e) e) }

-- nothing is filed at first
pub filed_none : (old : List Account) (row : List (Option Record)) (book : List Account) (total : ℕ)
    (seats : List SeatValue) → IsRowOf row [] → IsOpenedAgain old book → total ≡ 0 → AreSeatsAgain old [] seats
    → AreFiled old [] row book total seats
filed_none old row book total seats empty opened none seated = record {
  written = empty;
  accounts = opened.count;
  counts = opened.each;
  seated = seated;
  sum = none;
}

-- ---- one record more

module _ (old : List Account) (h : List Record) (r : Record) (row : List (Option Record)) (book : List Account)
    (total : ℕ) (seats : List SeatValue) (f : AreFiled old h row book total seats) (mem : r.seat < length old)
    (m : SeatValue) (mine : m ≡ get_or seats r.seat m) where
  own : (x : Account) × (slice_get old r.seat ≡ Some x)
  own = there old r.seat mem

  abbrev a : Account
  a = own.0

  abbrev last : Option Told
  last = (f.seated.each r.seat own.0 own.1).0

  m_is : m ≡ seat_again r.seat a h last
  m_is = get_there seats r.seat m (seat_again r.seat a h last) (f.seated.each r.seat own.0 own.1).1 mine

  pub knows_filed : Knows book m
  knows_filed = rw m_is (f.counts r.seat a own.1)

  pub few_filed : length h + 1 < 2 ^ 64 → m.count + 1 < 2 ^ 64
  few_filed few =
      let all : count_of r.seat h ≤ length h = count_by-le-length (λ (x : Record). x.seat == r.seat) h in
      let same : m.count ≡ count_of r.seat h = ap (λ (x : SeatValue). x.count) m_is in
      omega (arith, all, same, few)

  module _ (place : ℕ) (next_row : List (Option Record)) (next_book : List Account) (next_total : ℕ)
      (next_seats : List SeatValue) (n : SeatValue) (room : length h < length row)
      (er : next_row ≡ slice_set row (length h) (Some r))
      (eb : next_book ≡ slice_set book m.number (account m.first (m.count + 1)))
      (et : next_total ≡ total + 1)
      (en : n ≡ noted m (told place r))
      (es : next_seats ≡ slice_set seats r.seat n) where
    abbrev next : Account
    next = account a.first (count_of r.seat h + 1)

    book_is : next_book ≡ set book r.seat next
    book_is = eb ∙ ap (λ (x : SeatValue). slice_set book x.number (account x.first (x.count + 1))) m_is

    seat_is : n ≡ seat_again r.seat a (h ++ r ∷ []) (Some (told place r))
    seat_is = en ∙ ap (λ (x : SeatValue). noted x (told place r)) m_is
        ∙ sym (ap (λ (c : ℕ). record {
          number = r.seat;
          first = a.first;
          count = c;
          parts = 1;
          amount = c;
          last = Some (told place r);
          mark = nothing;
        }) (count_mine r.seat h r refl))

    other_is : (k : ℕ) → k ≢ r.seat → count_of k (h ++ r ∷ []) ≡ count_of k h
    other_is k ne = count_other k h r (λ q. ne (sym q))

    -- the account of the record's seat
    own_is : (k : ℕ) (b : Account) → slice_get old k ≡ Some b → k ≡ r.seat → a ≡ b
    own_is k b is e = same_Some _ _ (sym own.1 ∙ ap (slice_get old) (sym e) ∙ is)

    own_count : (k : ℕ) → k ≡ r.seat → count_of r.seat h + 1 ≡ count_of k (h ++ r ∷ [])
    own_count k e = sym (count_mine r.seat h r refl) ∙ ap (λ (i : ℕ). count_of i (h ++ r ∷ [])) (sym e)

    pub filed_one : AreFiled old (h ++ r ∷ []) next_row next_book next_total next_seats
    filed_one = record {
      written = rw er (row_push row h r f.written room);
      accounts = ap length book_is ∙ length-set book r.seat next ∙ f.accounts;
      counts = λ k b is. ⊎_elim
          (λ (e : k ≡ r.seat).
          let same = own_is k b is e in
          let count = own_count k e in
          ap (λ (l : List Account). slice_get l k) book_is ∙ ap (λ (i : ℕ). slice_get (set book r.seat next) i) e
          ∙ set_there book r.seat next (omega (arith, mem, f.accounts))
          ∙ (λ i. Some (account (same i).first (count i))))
          (λ (ne : k ≢ r.seat).
          ap (λ (l : List Account). slice_get l k) book_is ∙ set_other book r.seat k next ne ∙ f.counts k b is
          ∙ ap (λ (c : ℕ). Some (account b.first c)) (sym (other_is k ne)))
          (same_or k r.seat);
      seated = record {
        count = ap length es ∙ length-set seats r.seat n ∙ f.seated.count;
        each = λ k b is. ⊎_elim
            (λ (e : k ≡ r.seat).
            let same = own_is k b is e in
            let back : r.seat ≡ k = sym e in (
              Some (told place r),
              ap (λ (l : List SeatValue). slice_get l k) es ∙ ap (λ (i : ℕ). slice_get (set seats r.seat n) i) e
                  ∙ set_there seats r.seat n (omega (arith, mem, f.seated.count))
                  ∙ ap (λ (x : SeatValue). Some x) seat_is
                  ∙ (λ i. Some (seat_again (back i) (same i) (h ++ r ∷ []) (Some (told place r)))),
            ))
            (λ (ne : k ≢ r.seat).
            let was = f.seated.each k b is in (
              was.0,
              ap (λ (l : List SeatValue). slice_get l k) es ∙ set_other seats r.seat k n ne ∙ was.1
                  ∙ ap (λ (c : ℕ). Some (record {
                    number = k;
                    first = b.first;
                    count = c;
                    parts = 1;
                    amount = c;
                    last = was.0;
                    mark = nothing;
                  })) (sym (other_is k ne)),
            ))
            (same_or k r.seat);
      };
      sum = et ∙ ap (λ (c : ℕ). c + 1) f.sum ∙ sym (length-append h (r ∷ []));
    }

-- ---- the value under the lock

-- with all records filed it is one
pub renews : (h : Held) (made : Made) (old : List Account) (seats : List SeatValue) → IsMade made h.world
    → IsPaused h.world old h.start → length old ≡ made.seats
    → AreFiled old (made_since h) h.row h.book h.total seats → IsState h made
renews h made old seats is paused count f = record {
  valid = paused.valid;
  master = is;
  start = paused.within;
  written = record {
    count = length (made_since h);
    within = omega arith;
    whole = λ _. refl;
    is = rw (take-length (made_since h)) f.written;
  };
  accounts = f.accounts ∙ count;
  firsts = λ k b e.
      let own = old_one k b e in
      let low = paused.firsts k own.0 own.1 in
      let same = ap (λ (x : Account). x.first) (is_again k b e) in
      omega (arith, low, same);
  counts = λ k b e. ap (λ (x : Account). x.count) (is_again k b e);
  no_others = subst (λ (n : ℕ). AreOfSeats n (made_since h)) count paused.of_seats;
  total = f.sum;
  settled = λ place since below waits. absurd (omega (arith, since, below, paused.kept));
}
  where
    old_one : (k : ℕ) (b : Account) → slice_get h.book k ≡ Some b → (x : Account) × (slice_get old k ≡ Some x)
    old_one k b e = there old k (omega (arith, in_book h.book k b e, f.accounts))

    is_again : (k : ℕ) (b : Account) (e : slice_get h.book k ≡ Some b)
        → b ≡ account (old_one k b e).0.first (count_of k (made_since h))
    is_again k b e = same_Some _ _ (sym e ∙ f.counts k (old_one k b e).0 (old_one k b e).1)

-- ---- a pause

-- no seat can settle what lies below the first open record, the first that is kept and the first cell
pub settled_below : (start forgotten bound n : ℕ) (book : List Account) (records : List Record)
    → n ≤ max (max forgotten start) bound → IsSettled start book records forgotten → IsSettled start book records bound
    → IsSettled start book records n
settled_below start forgotten bound n book records low early late place since below waits = ⊎_elim
    (λ (l : place < forgotten). early place since l waits)
    (λ (u : forgotten ≤ place). late place since (omega (arith, u, since, below, low)) waits)
    (cases_lt place forgotten)

-- what a seat owns, it can settle
pub owned_open : (start : ℕ) (book : List Account) (records : List Record) (n : ℕ) (m : SeatValue) (place : ℕ)
    → IsSettled start book records n → Knows book m → Owns start records m place → n ≤ place
owned_open start book records n m place settled known owned = ⊎_elim
    (λ (l : place < n). absurd (settled place owned.0 l (
      account m.first m.count,
      owned.2.0,
      owned.2.1,
      ap (slice_get book) owned.2.2 ∙ known,
      owned.1,
    )))
    (λ (u : n ≤ place). u)
    (cases_lt place n)

all_drop : (n k : ℕ) (rs : List Record) → AreOfSeats n rs → AreOfSeats n (drop k rs)
all_drop n zero rs all = all
all_drop n (suc k) [] all = all
all_drop n (suc k) (r ∷ rs) all = all_drop n k rs (λ i d l. all (suc i) d (omega (arith, l)))

-- the records of a history from a place on are of the same seats
pub all_behind : (n start more : ℕ) (records : List Record) → AreOfSeats n (drop start records) → start ≤ more
    → AreOfSeats n (drop more records)
all_behind n zero more records all l = all_drop n more records all
all_behind n (suc start) zero records all l = absurd (omega (arith, l))
all_behind n (suc start) (suc more) [] all l = all
all_behind n (suc start) (suc more) (r ∷ rs) all l = all_behind n start more rs all (omega (arith, l))

-- ---- the next record of a history

take_all : {X : Type 0} (xs : List X) (n : ℕ) → length xs ≤ n → take n xs ≡ xs
take_all [] zero l = refl
take_all [] (suc n) l = refl
take_all (x ∷ xs) zero l = absurd (omega (arith, l))
take_all (x ∷ xs) (suc n) l = ap (λ ys. x ∷ ys) (take_all xs n (omega (arith, l)))

pub seat_within : (n start i : ℕ) (hs : List Record) → AreOfSeats n (drop start hs) → start + i < length hs
    → IfSome (slice_get hs (start + i)) (λ (r : Record). r.seat < n)
seat_within n start i hs all l =
    let x = there hs (start + i) l in
    let at : slice_get (drop start hs) i ≡ Some x.0 = get_drop start hs i ∙ x.1 in
    let is : get_or (drop start hs) i x.0 ≡ x.0 = get_or_from_slice_get (drop start hs) i x.0 x.0 at in
    let low : x.0.seat < n = subst (λ (r : Record). r.seat < n) is
    (all i x.0 (slice_get_within (drop start hs) i x.0 at)) in
    subst (λ (o : Option Record). IfSome o (λ (r : Record). r.seat < n)) (sym x.1) low

pub filed_all : (old : List Account) (hs : List Record) (start i : ℕ) (row : List (Option Record)) (book : List Account)
    (total : ℕ) (seats : List SeatValue) → length hs ≤ start + i
    → AreFiled old (take i (drop start hs)) row book total seats → AreFiled old (drop start hs) row book total seats
filed_all old hs start i row book total seats l f =
    let short = length-drop start hs in
    subst (λ (rs : List Record). AreFiled old rs row book total seats)
    (take_all (drop start hs) i (omega (arith, short, l))) f

-- the record behind those that are filed
module _ (old : List Account) (hs : List Record) (start i : ℕ) (r : Record) (at : Some r ≡ slice_get hs (start + i))
    (row : List (Option Record)) (book : List Account) (total : ℕ) (seats : List SeatValue)
    (f : AreFiled old (take i (drop start hs)) row book total seats)
    (of_seat : IfSome (slice_get hs (start + i)) (λ (x : Record). x.seat < length old)) where
  here : slice_get (drop start hs) i ≡ Some r
  here = get_drop start hs i ∙ sym at

  pub seat_low : r.seat < length old
  seat_low = subst (λ (o : Option Record). IfSome o (λ (x : Record). x.seat < length old)) (sym at) of_seat

  pub seat_there : r.seat < length seats
  seat_there = omega (arith, seat_low, f.seated.count)

  so_far : length (take i (drop start hs)) ≡ i
  so_far =
      let within = slice_get_within (drop start hs) i r here in
      length-take-le i (drop start hs) (omega (arith, within))

  module _ (m : SeatValue) (mine : m ≡ get_or seats r.seat m) where
    pub next_known : Knows book m
    next_known = knows_filed old (take i (drop start hs)) r row book total seats f seat_low m mine

    pub next_few : i + 1 < 2 ^ 64 → m.count + 1 < 2 ^ 64
    next_few few = few_filed old (take i (drop start hs)) r row book total seats f seat_low m mine
        (omega (arith, few, so_far))

    pub next_filed : (place at_cell : ℕ) (took : Bool) (next_row : List (Option Record)) (next_book : List Account)
        (next_total : ℕ) (n : SeatValue) → i < length row → at_cell ≡ i → took ≡ true
        → MatchBool took (next_row ≡ slice_set row at_cell (Some r)) (next_row ≡ row)
        → next_book ≡ slice_set book m.number (account m.first (m.count + 1)) → next_total ≡ total + 1
        → MatchBool took (n ≡ noted m (told place r)) (n ≡ unnoted m)
        → AreFiled old (take (i + 1) (drop start hs)) next_row next_book next_total (slice_set seats r.seat n)
    next_filed place at_cell took next_row next_book next_total n room cell took_is er eb et en =
        subst (λ (rs : List Record). AreFiled old rs next_row next_book next_total (slice_set seats r.seat n))
        (sym (take_next (drop start hs) i r here))
        (filed_one old (take i (drop start hs)) r row book total seats f seat_low m mine place next_row next_book
        next_total (slice_set seats r.seat n) n (omega (arith, room, so_far))
        (when_true next_row (slice_set row at_cell (Some r)) row took took_is er
        ∙ ap (λ (k : ℕ). slice_set row k (Some r)) (cell ∙ sym so_far))
        eb et (when_true n (noted m (told place r)) (unnoted m) took took_is en) refl)

-- ---- a store that is paused

module _ {F : Type 0} (state : F → FleetState) (v x : StateValue F) (same : v ≡ x) (made : Made)
    (st : IsState (held state v) made) (n : ℕ) (least : x.start ≤ n) (within : n ≤ length x.master.knows.history)
    (kept : x.master.knows.forgotten ≤ n) (settled : IsSettled x.start x.book x.master.knows.history n) where
  pub settled_here : IsSettled v.start v.book v.master.knows.history n
  settled_here = subst (λ (y : StateValue F). IsSettled y.start y.book y.master.knows.history n) (sym same) settled

  pub paused_is : IsPaused (world state v.master) v.book n
  paused_is = record {
    valid = st.valid;
    within = subst (λ (y : StateValue F). n ≤ length y.master.knows.history) (sym same) within;
    kept = subst (λ (y : StateValue F). y.master.knows.forgotten ≤ n) (sym same) kept;
    firsts = st.firsts;
    of_seats = subst (λ (k : ℕ). AreOfSeats k (drop n v.master.knows.history)) (sym st.accounts)
        (all_behind made.seats v.start n v.master.knows.history st.no_others
        (subst (λ (y : StateValue F). y.start ≤ n) (sym same) least));
  }

-- ---- a master that no store was made over

fresh_first : (first n k : ℕ) (a : Account) → slice_get (fresh_book first n) k ≡ Some a → a.first ≡ first
fresh_first first zero k a e = absurd (cc)
fresh_first first (suc n) zero a e = sym (ap (λ (x : Account). x.first) (same_Some _ _ e))
fresh_first first (suc n) (suc k) a e = fresh_first first n k a e

pub over_is : (w : World) (book : List Account) (seats first start : ℕ) → IsValid w.knows w.fleet
    → book ≡ fresh_book first seats → first ≡ durable_of (log_of w.knows) → start ≡ length w.knows.history
    → IsPaused w book start
over_is w book seats first start valid book_is first_is at_end =
    let none : drop start w.knows.history ≡ [] = ap (λ n. drop n w.knows.history) at_end
    ∙ drop-length w.knows.history in
    record {
      valid = valid;
      within = omega (arith, at_end);
      kept = omega (arith, at_end, valid.history.within);
      firsts = λ k a e.
          let is = fresh_first first seats k a (ap (λ l. slice_get l k) (sym book_is) ∙ e) in
          omega (arith, is, first_is);
      of_seats = subst (AreOfSeats (length book)) (sym none) (λ k d l. absurd (omega (arith, l)));
    }

-- the value under the lock of a store that goes on
pub renewed : {F : Type 0} (state : F → FleetState) (p : PausedValue F) (m : MasterValue F) → m ≡ p.master
    → (made : Made) (start : ℕ) → start ≡ p.start → IsMade made (world state p.master)
    → IsPaused (world state p.master) p.book p.start → length p.book ≡ made.seats
    → (row : List (Option Record)) (book : List Account) (total : ℕ) (seats : List SeatValue)
    → AreFiled p.book (drop p.start p.master.knows.history) row book total seats → IsState (record {
      world = world state m;
      book = book;
      total = total;
      start = start;
      row = row;
      is_refused = false;
    }) made
renewed {F} state p m same made start start_is is paused count row book total seats f =
    subst (λ (x : MasterValue F). IsState (at x start) made) (sym same)
    (subst (λ (n : ℕ). IsState (at p.master n) made) (sym start_is)
    (renews (at p.master p.start) made p.book seats is paused count f))
  where
    at : MasterValue F → ℕ → Held
    at x n = record {
      world = world state x;
      book = book;
      total = total;
      start = n;
      row = row;
      is_refused = false;
    }
