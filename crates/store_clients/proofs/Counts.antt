-- What clients make of the counts of seats.
use Rattle.std.proofs.Common.{◌≡◌, ◌<◌, ◌≤◌, ℕ, zero, suc, ◌+◌, ◌-◌, ◌*◌, List, [], ◌∷◌, ◌++◌}
use Rattle.std.proofs.Common.{Option, Some, Result, Ok, Err, length, take, drop, refl, sym, ap, ◌∙◌, subst, arith}
use Rattle.std.proofs.Common.{◌⊎◌, inl, inr, ⊎_elim, ◌==◌, cond, length-append, mul-le-mul_left}
use Rattle.std.specs.Prelude.{◌^◌, slice_get, IfOk, IfSome, IsOk}
use Rattle.std.proofs.lemmas.Bool.Decides.{nat_tests}
use Rattle.std.proofs.lemmas.List.Sums.{sum_by-append}
use Rattle.std.proofs.lemmas.Option.{same_Some}
use Rattle.std.proofs.Math.Seq.{drop-append_seam}
use Rattle.std.proofs.lemmas.Bool.{cases_lt}
use Rattle.entry.proofs.ListLemmas.{slice_get_left, slice_get_last}
use Rattle.versioned_map.specs.declared.command.Record.{Record}
use Rattle.counted_calls.specs.master.master_state.Data.{MasterData}
use Rattle.counted_calls.specs.locked_log.store_seat.declared.fault.CallFault.{CallFault}
use Rattle.counted_calls.specs.locked_log.Ends.{AreServed}
use Rattle.counted_calls.specs.locked_log.store_seat.Seats.{SeatValue, fresh_seat, fresh_seats}
use Rattle.history.specs.Seats.{AreAccepted, count_of, AreOfSeats}
use Rattle.store_clients.specs.declared.client.Client.{Client}
use Rattle.store_clients.specs.Clients.{Matches, IsClient, HasMade, IsSeatOf}
use Rattle.store_clients.specs.Workloads.{HasServed, IsBack}
use Rattle.store_clients.proofs.Matching.{matches_both}

-- ---- places of lists

-- it stands at some place
record Has {A : Type 0} (xs : List A) (a : A) : Type 0 where
  place : ℕ
  is : slice_get xs place ≡ Some a

has_left : {A : Type 0} (xs ys : List A) (a : A) → Has xs a → Has (xs ++ ys) a
has_left xs ys a h = record { place = h.place; is = slice_get_left xs ys h.place a h.is }

has_right : {A : Type 0} (xs ys : List A) (a : A) → Has ys a → Has (xs ++ ys) a
has_right [] ys a h = h
has_right (x ∷ xs) ys a h = let r = has_right xs ys a h in record { place = suc r.place; is = r.is }

get_take : {A : Type 0} (n : ℕ) (xs : List A) (j : ℕ) → j < n → slice_get (take n xs) j ≡ slice_get xs j
get_take zero xs j l = absurd (omega arith)
get_take (suc n) [] j l = refl
get_take (suc n) (x ∷ xs) zero l = refl
get_take (suc n) (x ∷ xs) (suc j) l = get_take n xs j (omega arith)

get_drop : {A : Type 0} (n : ℕ) (xs : List A) (j : ℕ) → slice_get (drop n xs) j ≡ slice_get xs (n + j)
get_drop zero xs j = let e : zero + j ≡ j = omega arith in ap (slice_get xs) (sym e)
get_drop (suc n) [] j = refl
get_drop (suc n) (x ∷ xs) j =
    let e : suc n + j ≡ suc (n + j) = omega arith in get_drop n xs j ∙ ap (slice_get (x ∷ xs)) (sym e)

-- ---- seats

-- A seat that came back after all its calls were accepted has twice the rounds more records.
served_is : {B : Type 0} (rounds : ℕ) (m : SeatValue) (c : Client B) (s : SeatValue) → IsClient rounds m c → IsBack c s
    → HasServed rounds m s
served_is {B} rounds m c s is back = (seat.number, count c.calls back.accepted is.accepted)
  where
    seat : IsSeatOf m s
    seat = subst (λ (o : Option SeatValue). IfSome o (IsSeatOf m)) back.seat is.seat

    count : (r : Result ℕ CallFault) → IsOk r
        → IfOk r (λ (n : ℕ). (n ≡ 2 * rounds) × (t : SeatValue) × (c.seat ≡ Some t) × HasMade n m t)
        → s.count ≡ m.count + 2 * rounds
    count (Ok n) ok h =
        ap (λ (x : SeatValue). x.count) (same_Some s h.1 (sym back.seat ∙ h.2))
        ∙ h.3.count ∙ ap (λ k. m.count + k) h.0
    count (Err e) ok h = absurd (cc)

pub all_served : {B : Type 0} (rounds : ℕ) (given served : List SeatValue) (clients : List (Client B))
    → Matches (IsClient rounds) given clients → Matches IsBack clients served → Matches (HasServed rounds) given served
all_served {B} rounds given served clients =
    matches_both (IsClient rounds) IsBack (HasServed rounds) given clients served (served_is rounds)

-- ---- fresh seats

fresh_length : (first n : ℕ) → length (fresh_seats first n) ≡ n
fresh_length first zero = refl
fresh_length first (suc n) =
    omega (arith, length-append (fresh_seats first n) (fresh_seat first n ∷ []), fresh_length first n)

fresh_at : (first n k : ℕ) → k < n → slice_get (fresh_seats first n) k ≡ Some (fresh_seat first k)
fresh_at first zero k l = absurd (omega arith)
fresh_at first (suc n) k l = ⊎_elim
    (λ (below : k < n). slice_get_left (fresh_seats first n) (fresh_seat first n ∷ []) k (fresh_seat first k)
    (fresh_at first n k below))
    (λ (from : n ≤ k).
    let e : k ≡ n = omega (arith, from, l) in
    ap (slice_get (fresh_seats first n ++ fresh_seat first n ∷ [])) (e ∙ sym (fresh_length first n))
    ∙ slice_get_last (fresh_seats first n) (fresh_seat first n) ∙ ap (λ i. Some (fresh_seat first i)) (sym e))
    (cases_lt k n)

-- ---- counts

count_both : (k : ℕ) (old more : List Record) → count_of k (old ++ more) ≡ count_of k old + count_of k more
count_both k old more = sum_by-append (λ (r : Record). cond (r.seat == k) 1 0) old more

-- none is of a seat beyond all
none_of : (n k : ℕ) (rs : List Record) → AreOfSeats n rs → n ≤ k → count_of k rs ≡ 0
none_of n k [] all from = refl
none_of n k (r ∷ rs) all from =
    let rest = none_of n k rs (λ i d l. all (suc i) d (omega (arith, l))) from in
    let first : r.seat < n = all zero r (omega arith) in
    let both = count_both k (r ∷ []) rs in
    let one : count_of k (r ∷ []) ≡ 0 = grind (arith, nat_tests) in
    omega (arith, both, one, rest)

-- The seats are those of a new store over the old history. Behind the first are the clients', which served, and all
-- came back known.
module _ (clients rounds first start : ℕ) (old more : List Record) (d : MasterData) (is : d.history ≡ old ++ more)
    (begun : start ≡ length old)
    (seats served final : List SeatValue) (fit : clients < 64) (fresh : seats ≡ fresh_seats first 64)
    (back : final ≡ take 1 (take (1 + clients) seats) ++ (served ++ drop (1 + clients) seats))
    (made : Matches (HasServed rounds) (drop 1 (take (1 + clients) seats)) served)
    (known : AreServed start d final) (all : AreOfSeats 64 (drop start d.history)) where
  abbrev own : List SeatValue
  own = take 1 (take (1 + clients) seats)

  abbrev others : List SeatValue
  others = drop (1 + clients) seats

  new_ones : drop start d.history ≡ more
  new_ones = (λ i. drop (begun i) (is i)) ∙ drop-append_seam old more

  seat_at : (k : ℕ) → k < 64 → slice_get seats k ≡ Some (fresh_seat first k)
  seat_at k below = ap (λ l. slice_get l k) fresh ∙ fresh_at first 64 k below

  count_by_seat : (s : SeatValue) → Has final s → count_of s.number more ≡ s.count
  count_by_seat s h = ap (λ l. count_of s.number l) (sym new_ones) ∙ sym (known h.place s h.is).count

  -- a seat of which that many records are new
  count_is : (k n : ℕ) → count_of k more ≡ n → count_of k d.history ≡ count_of k old + n
  count_is k n few = ap (λ l. count_of k l) is ∙ count_both k old more ∙ ap (λ c. count_of k old + c) few

  own_there : Has final (fresh_seat first 0)
  own_there = rw back (has_left own (served ++ others) _ (record {
    place = 0;
    is =
        get_take 1 (take (1 + clients) seats) 0 (omega arith)
        ∙ get_take (1 + clients) seats 0 (omega arith) ∙ seat_at 0 (omega arith);
  }))

  idle_seat : (k : ℕ) → clients < k → k < 64 → count_of k more ≡ 0
  idle_seat k low high =
      let j = k - (1 + clients) in
      let e : (1 + clients) + (k - (1 + clients)) ≡ k = omega (arith, low) in
      let there : Has others (fresh_seat first k) =
      record { place = j; is = get_drop (1 + clients) seats j ∙ ap (slice_get seats) e ∙ seat_at k high } in
      count_by_seat (fresh_seat first k) (rw back (has_right own (served ++ others) _
      (has_right served others _ there)))

  idle_at : (k : ℕ) → clients < k → count_of k d.history ≡ count_of k old
  idle_at k low =
      let none : count_of k more ≡ 0 = ⊎_elim
      (λ (below : k < 64). idle_seat k low below)
      (λ (from : 64 ≤ k). none_of 64 k more (subst (λ l. AreOfSeats 64 l) new_ones all) from)
      (cases_lt k 64) in
      omega (arith, count_is k 0 none)

  each_at : (k : ℕ) → 1 ≤ k → k ≤ clients → count_of k d.history ≡ count_of k old + 2 * rounds
  each_at k low high =
      let e : 1 + (k - 1) ≡ k = omega (arith, low) in
      let front = take (1 + clients) seats in
      let at : slice_get (drop 1 (take (1 + clients) seats)) (k - 1) ≡ Some (fresh_seat first k) =
      get_drop 1 front (k - 1) ∙ ap (slice_get front) e ∙ get_take (1 + clients) seats k (omega (arith, high))
      ∙ seat_at k (omega (arith, high, fit)) in
      let s = made.each (k - 1) (fresh_seat first k) at in
      let there : Has final s.0 = subst (λ (l : List SeatValue). Has l s.0) (sym back)
      (has_right own (served ++ others) s.0 (has_left served others s.0 (record { place = k - 1; is = s.1 }))) in
      count_is k (2 * rounds) (ap (λ n. count_of n more) (sym s.2.0) ∙ count_by_seat s.0 there ∙ s.2.1
      ∙ omega arith)

  pub accepted : AreAccepted clients rounds old d.history
  accepted = record {
    own = omega (arith, count_is 0 0 (count_by_seat (fresh_seat first 0) own_there));
    each = each_at;
    idle = idle_at;
  }

times : (r c : ℕ) → 2 * r * c ≤ 2 * r * 63 → r < 2 ^ 40 → 2 * r * c < 2 ^ 64
times r c m few = omega (arith, m, few)

pub fits : (r c : ℕ) → r < 2 ^ 40 → c ≤ 63 → 2 * r * c < 2 ^ 64
fits r c few less = times r c (mul-le-mul_left (2 * r) less) few
