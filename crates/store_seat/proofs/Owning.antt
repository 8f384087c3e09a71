-- What a seat is handed of a record of its own.
use Rattle.std.proofs.Common.{◌≡◌, ◌<◌, ◌≤◌, ◌↔◌, ◌+◌, ◌-◌, ℕ, Bool, true, false, IsTrue, List, Option, Some, None, Ok}
use Rattle.std.proofs.Common.{IfSome, length, drop, refl, sym, ◌∙◌, ap, subst, arith}
use Rattle.std.specs.Prelude.{slice_get, nat_lt, if◌then◌else◌}
use Rattle.std.proofs.lemmas.Bool.{le-ltb, ltb-false}
use Rattle.history.specs.Records.{HistoryValue, kept_at}
use Rattle.versioned_map.specs.declared.command.Record.{Record}
use Rattle.versioned_map.specs.declared.command.Reply.{Reply}
use Rattle.history_row.specs.Receipts.{Told}
use Rattle.history_row.specs.Rows.{IsRowOf}
use Rattle.history_row.proofs.Slots.{get_behind, row_has}
use Rattle.std.proofs.lemmas.Option.{same_Some, slice_get_within}
use Rattle.store_seat.specs.Claims.{Owns, Hands, IsOwn, IsAsNoted, SettlesSeat}
use Rattle.store_seat.specs.Seats.{SeatValue, record_by, told, answered}

-- ---- records that are kept

pub kept_is : (h : HistoryValue) (place : ℕ) → h.forgotten ≤ place → kept_at h place ≡ slice_get h.records place
kept_is h place kept = ap (λ (b : Bool). if b then None else slice_get h.records place)
    (le-ltb place h.forgotten kept)

-- a record that was got
pub got : (h : HistoryValue) (place : ℕ) (what : Record) → Some what ≡ kept_at h place
    → (h.forgotten ≤ place) × (Some what ≡ slice_get h.records place)
got h place what = go (nat_lt place h.forgotten) refl where
  go : (b : Bool) → nat_lt place h.forgotten ≡ b → Some what ≡ (if b then None else slice_get h.records place)
      → (h.forgotten ≤ place) × (Some what ≡ slice_get h.records place)
  go true t e = absurd (cc)
  go false t e = (ltb-false place h.forgotten t, e)

-- ---- records that a seat owns

-- the record that is there
pub owns_there : (h : HistoryValue) (start : ℕ) (m : SeatValue) (place : ℕ) (what : Record) (b : Bool)
    → start ≤ place → m.first ≤ place → Some what ≡ kept_at h place → (IsTrue b ↔ (what.seat ≡ m.number))
    → (IsTrue b ↔ (Owns start h.records m place × (h.forgotten ≤ place)))
owns_there h start m place what b since first is same =
    let found = got h place what is in (
      λ yes. ((since, first, (what, sym found.1, same.0 yes)), found.0),
      λ owned. same.1 (ap (λ (r : Record). r.seat) (same_Some _ _ (found.1 ∙ owned.0.2.1)) ∙ owned.0.2.2),
    )

-- no record is there
pub owns_nothing : (h : HistoryValue) (start : ℕ) (m : SeatValue) (place : ℕ) → None ≡ kept_at h place
    → (Owns start h.records m place × (h.forgotten ≤ place)) → ⊥
owns_nothing h start m place is owned =
    let none = is ∙ kept_is h place owned.1 ∙ owned.0.2.1 in absurd (cc)

module _ (start : ℕ) (records : List Record) (row : List (Option Record)) (m : SeatValue) (place : ℕ)
    (whole : IsRowOf row (drop start records)) (owned : Owns start records m place) where
  within : place < length records
  within = slice_get_within records place owned.2.0 owned.2.1

  behind : (place - start < length (drop start records))
      × (slice_get (drop start records) (place - start) ≡ slice_get records place)
  behind = get_behind records start place owned.0 within

  pub has_cell : (start ≤ place) × (place < start + length row)
  has_cell =
      let cell = row_has row (drop start records) (place - start) whole behind.0 in
      let at = slice_get_within row (place - start) (Some cell.0) cell.2 in
      (owned.0, omega (arith, at, owned.0))

  pub hands : (reply : Reply) (t : Told) → IfSome (slice_get records place) (λ (r : Record). reply ≡ r.reply)
      → t.place ≡ place → slice_get row (place - start) ≡ Some t.what → Hands records m place reply t
  hands reply t is at there =
      let what = owned.2.0 in
      let cell = row_has row (drop start records) (place - start) whole behind.0 in
      let same : cell.0 ≡ what = same_Some _ _ (sym cell.1 ∙ behind.1 ∙ owned.2.1) in
      let kept : t.what ≡ Some what = same_Some _ _ (sym there ∙ cell.2) ∙ ap Some same in
      record {
        above = owned.1;
        what = what;
        there = owned.2.1;
        mine = owned.2.2;
        reply_is = subst (λ (o : Option Record). IfSome o (λ (r : Record). reply ≡ r.reply)) owned.2.1 is;
        receipt_is = λ i. record { place = at i; what = kept i };
      }

-- a receipt that agrees with the seat's note is as noted
pub as_noted : (m : SeatValue) (place : ℕ) (reply : Reply) (t : Told) → IsOwn m place reply t
    → ((r : Record) (q : Record) → m.last ≡ Some (told t.place r) → t.what ≡ Some q → q ≡ r)
    → IsAsNoted m place reply t
as_noted m place reply t own agree what last =
    let mine = record_by m.number own.1.0 reply in
    let at : t.place ≡ place = ap (λ (x : Told). x.place) own.1.1 in
    let same : mine ≡ what = agree what mine (last ∙ ap (λ (p : ℕ). Some (told p what)) (sym at))
    (ap (λ (x : Told). x.what) own.1.1) in
    (ap (λ (x : Record). x.reply) same, own.1.1 ∙ ap (told place) same)

-- a record that was claimed and answered
pub settled : (m k n : SeatValue) (place : ℕ) (reply : Reply) (t q : Told) → IsOwn m place reply t
    → ((r : Record) (p : Record) → m.last ≡ Some (told t.place r) → t.what ≡ Some p → p ≡ r)
    → k ≡ m → q ≡ t → n ≡ answered k place → SettlesSeat m place (Ok (reply, q)) n
settled m k n place reply t q own agree same kept done = (
  subst (IsOwn m place reply) (sym kept) own,
  subst (IsAsNoted m place reply) (sym kept) (as_noted m place reply t own agree),
  done ∙ ap (λ (x : SeatValue). answered x place) same,
)
