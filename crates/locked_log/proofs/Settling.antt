-- A seat is answered up to a place; and a store that refuses all later calls.
use Rattle.std.proofs.Common.{◌≡◌, ◌≢◌, ◌≤◌, ◌<◌, ⊎_elim, ℕ, ◌+◌, List, Some, Bool, true, false, MatchBool, refl, sym}
use Rattle.std.proofs.Common.{ap}
use Rattle.std.proofs.Common.{◌∙◌, subst, arith, length-set}
use Rattle.std.specs.Prelude.{slice_get, slice_set}
use Rattle.replica.specs.Picture.{FleetState}
use Rattle.store_step.specs.master.World.{world}
use Rattle.store_seat.specs.declared.account.Account.{Account}
use Rattle.locked_log.specs.Applies.{Settles, DoesNotSettle}
use Rattle.locked_log.specs.Held.{StateValue, Held, held, made_since, durable}
use Rattle.store_seat.specs.Made.{Made}
use Rattle.store_seat.specs.Seats.{SeatValue, answered}
use Rattle.store_seat.specs.Accounts.{account, Knows, SettlesIn, SettlesNothingIn}
use Rattle.locked_log.specs.States.{IsState, Lasts}
use Rattle.history.specs.Seats.{count_of}
use Rattle.locked_log.proofs.Counting.{get_set}
use Rattle.locked_log.proofs.Lasting.{keeps_same, firsts_set, lasts_same}
use Rattle.locked_log.proofs.Writing.{written_refused}

module _ (s : Held) (m : SeatValue) (place : ℕ) (known : Knows s.book m) where
  abbrev mine : Account
  mine = account m.first m.count

  abbrev next : Account
  next = account (place + 1) m.count

  -- what is there once the seat is answered
  abbrev pub settled : Held
  settled = record s { book = slice_set s.book m.number next }

  pub settled_lasts : m.first ≤ place → Lasts 0 s settled
  settled_lasts up = record {
    keeps = keeps_same 0 s.world;
    accounts = length-set s.book m.number next;
    firsts = firsts_set s.book m.number mine next known (omega arith);
    start = refl;
    cells = refl;
    refused = λ on. on;
  }

  pub settled_state : (made : Made) → IsState s made → place < durable s → m.first ≤ place → IsState settled made
  settled_state made st here up = record {
    valid = st.valid;
    master = st.master;
    start = st.start;
    written = st.written;
    accounts = length-set s.book m.number next ∙ st.accounts;
    firsts = λ k a got. ⊎_elim
        (λ (x : (k ≡ m.number) × (next ≡ a)). omega (arith, ap (λ (y : Account). y.first) x.1, here))
        (λ (x : (k ≢ m.number) × (slice_get s.book k ≡ Some a)). st.firsts k a x.1)
        (get_set s.book m.number k next a got);
    counts = λ k a got. ⊎_elim
        (λ (x : (k ≡ m.number) × (next ≡ a)). sym (ap (λ (y : Account). y.count) x.1) ∙ st.counts m.number mine known
        ∙ ap (λ n. count_of n (made_since s)) (sym x.0))
        (λ (x : (k ≢ m.number) × (slice_get s.book k ≡ Some a)). st.counts k a x.1)
        (get_set s.book m.number k next a got);
    no_others = st.no_others;
    total = st.total;
    settled = λ at since below waits.
        let r = waits.1 in
        ⊎_elim
        (λ (x : (r.seat ≡ m.number) × (next ≡ waits.0)). st.settled at since below (
          mine,
          r,
          waits.2,
          ap (λ n. slice_get s.book n) x.0 ∙ known,
          omega (arith, waits.4, ap (λ (y : Account). y.first) x.1, up),
        ))
        (λ (x : (r.seat ≢ m.number) × (slice_get s.book r.seat ≡ Some waits.0)). st.settled at since below
        (waits.0, r, waits.2, x.1, waits.4))
        (get_set s.book m.number r.seat next waits.0 waits.3);
  }

pub refused_state : (s : Held) (made : Made) → IsState s made → IsState (record s { is_refused = true }) made
refused_state s made st = record {
  valid = st.valid;
  master = st.master;
  start = st.start;
  written = written_refused s.row (made_since s) s.is_refused st.written;
  accounts = st.accounts;
  firsts = st.firsts;
  counts = st.counts;
  no_others = st.no_others;
  total = st.total;
  settled = st.settled;
}

-- ---- from what the calls of the body ensure

module _ {F : Type 0} (state : F → FleetState) (v x : StateValue F) (same : v ≡ x) (m : SeatValue)
    (place : ℕ) (made : Made)
    (st : IsState (held state v) made) (known : Knows x.book m) (here : place < durable (held state v))
    (first : m.first ≤ place)
    (book : List Account) (book_is : book ≡ slice_set v.book m.number (account (place + 1) m.count)) where
  abbrev t : Held
  t = record {
    world = world state v.master;
    book = book;
    total = v.total;
    start = v.start;
    row = v.row;
    is_refused = v.is_refused;
  }

  known_at : Knows v.book m
  known_at = subst (λ (y : StateValue F). Knows y.book m) (sym same) known

  t_is : t ≡ settled (held state v) m place known_at
  t_is = λ i. record {
    world = world state v.master;
    book = book_is i;
    total = v.total;
    start = v.start;
    row = v.row;
    is_refused = v.is_refused;
  }

  pub settles_then : (n : SeatValue) → n ≡ answered m place
      → Settles (held state x) m place (record {
        world = world state v.master;
        book = book;
        total = v.total;
        start = v.start;
        row = v.row;
        is_refused = v.is_refused;
      }) n
  settles_then n is = subst (λ (y : StateValue F). Settles (held state y) m place t n) same (here, known_at, t_is, is)

  pub settled_then : IsState (record {
    world = world state v.master;
    book = book;
    total = v.total;
    start = v.start;
    row = v.row;
    is_refused = v.is_refused;
  }) made
  settled_then = subst (λ (h : Held). IsState h made) (sym t_is)
      (settled_state (held state v) m place known_at made st here first)

  pub lasts_then : Lasts 0 (held state x) (record {
    world = world state v.master;
    book = book;
    total = v.total;
    start = v.start;
    row = v.row;
    is_refused = v.is_refused;
  })
  lasts_then =
      subst (λ (y : StateValue F). Lasts 0 (held state y) t) same
      (subst (λ (h : Held). Lasts 0 (held state v) h) (sym t_is) (settled_lasts (held state v) m place known_at first))

-- what an answer under the lock ensures
pub record Settled (s : Held) (m : SeatValue) (place : ℕ) (r : Bool) (t : Held) (n : SeatValue)
    (made : Made) : Type 0 where
  pub settles : MatchBool r (Settles s m place t n) (DoesNotSettle s m place t n)
  pub lasts : Lasts 0 s t
  pub valid : IsState t made

pub settled_by : {F : Type 0} (state : F → FleetState) (v x : StateValue F) → v ≡ x
    → (m : SeatValue) (place : ℕ) (made : Made)
    → IsState (held state v) made → m.first ≤ place → (d : ℕ) → d ≡ durable (held state v)
    → (book : List Account) (n : SeatValue)
    → (r : Bool) → MatchBool r (SettlesIn v.book m place d book n) (SettlesNothingIn v.book m place d book n)
    → Settled (held state x) m place r (record {
      world = world state v.master;
      book = book;
      total = v.total;
      start = v.start;
      row = v.row;
      is_refused = v.is_refused;
    }) n made
settled_by state v x same m place made st first d is book n true h =
    let known : Knows x.book m = subst (λ (y : StateValue _). Knows y.book m) same h.1 in
    let here : place < durable (held state v) = omega (arith, h.0, is) in record {
      settles = settles_then state v x same m place made st known here first book h.2 n h.3;
      lasts = lasts_then state v x same m place made st known here first book h.2;
      valid = settled_then state v x same m place made st known here first book h.2;
    }
settled_by state v x same m place made st first d is book n false h =
    let t : Held = record {
      world = world state v.master;
      book = book;
      total = v.total;
      start = v.start;
      row = v.row;
      is_refused = v.is_refused;
    } in
    let stays : t ≡ held state v = λ i. record {
      world = world state v.master;
      book = h.1 i;
      total = v.total;
      start = v.start;
      row = v.row;
      is_refused = v.is_refused;
    } in record {
      settles = subst (λ (y : StateValue _). DoesNotSettle (held state y) m place t n) same
          ((λ here known. h.0 (omega (arith, here, is)) known), stays, h.2);
      lasts = subst (λ (y : StateValue _). Lasts 0 (held state y) t) same
          (subst (λ (k : Held). Lasts 0 (held state v) k) (sym stays) (lasts_same 0 (held state v)));
      valid = subst (λ (k : Held). IsState k made) (sym stays) st;
    }
