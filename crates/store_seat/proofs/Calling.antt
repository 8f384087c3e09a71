-- What a call does to its seat, from what it did under the lock.
use Rattle.std.proofs.Common.{◌≡◌, ◌≤◌, ◌+◌, ℕ, Bool, true, false, Some, Err, MatchBool, refl, sym, ap, ◌∙◌, arith}
use Rattle.std.proofs.Common.{⊎_elim}
use Rattle.versioned_map.specs.declared.command.Command.{Command}
use Rattle.versioned_map.specs.declared.command.Reply.{Reply}
use Rattle.history_row.specs.Receipts.{Told}
use Rattle.store_seat.specs.declared.fault.CallFault.{CallFault}
use Rattle.store_seat.specs.declared.fault.CallFault.TheVariants.{Refused, Unsure, SeatUnknown, CellRefused, NotYours}
use Rattle.store_seat.specs.declared.fault.CallFault.TheVariants.{CellsSpent}
use Rattle.store_seat.specs.Calls.{AppliesSeat, Answers, Calls, IsLeft, LeavesRefused}
use Rattle.store_seat.specs.Seats.{SeatValue, record_by, told, noted, unnoted, answered}
use Rattle.std.proofs.lemmas.Option.{same_Some}

left_same : (m n : SeatValue) → n ≡ m → LeavesRefused m n
left_same m n e = record {
  number = ap (λ (v : SeatValue). v.number) e;
  first = ap (λ (v : SeatValue). v.first) e;
  least = omega (arith, ap (λ (v : SeatValue). v.count) e);
  most = omega (arith, ap (λ (v : SeatValue). v.count) e);
  parts = ap (λ (v : SeatValue). v.parts) e;
  amount = omega (arith, ap (λ (v : SeatValue). v.count) e, ap (λ (v : SeatValue). v.amount) e);
  mark = ap (λ (v : SeatValue). v.mark) e;
}

-- with one record more, with a note or without
left_more : (m k n : SeatValue) → n ≡ k → k.number ≡ m.number → k.first ≡ m.first → k.count ≡ m.count + 1
    → k.parts ≡ m.parts
    → k.amount ≡ m.amount + 1 → k.mark ≡ m.mark → LeavesRefused m n
left_more m k n e number first count parts amount mark = record {
  number = ap (λ (v : SeatValue). v.number) e ∙ number;
  first = ap (λ (v : SeatValue). v.first) e ∙ first;
  least = omega (arith, ap (λ (v : SeatValue). v.count) e, count);
  most = omega (arith, ap (λ (v : SeatValue). v.count) e, count);
  parts = ap (λ (v : SeatValue). v.parts) e ∙ parts;
  amount = omega (arith, ap (λ (v : SeatValue). v.count) e, ap (λ (v : SeatValue). v.amount) e, count, amount);
  mark = ap (λ (v : SeatValue). v.mark) e ∙ mark;
}

-- a command that was not applied
pub refused_call : (m n : SeatValue) (command : Command) (fault : CallFault) → AppliesSeat m command (Err fault) n
    → Calls m command (Err fault) n
refused_call m n command (Refused e) h = h
refused_call m n command (Unsure place e) h = absurd h
refused_call m n command SeatUnknown h = h
refused_call m n command CellRefused h = ⊎_elim (left_same m n)
    (λ x. left_more m (unnoted m) n x refl refl refl refl refl refl) h
refused_call m n command NotYours h = absurd h
refused_call m n command CellsSpent h = h

-- a record that was left without an answer
pub left_call : (m n k : SeatValue) (command : Command) (reply : Reply) (place : ℕ)
    (fault : CallFault) → m.first ≤ place
    → n ≡ noted m (told place (record_by m.number command reply)) → k ≡ n → IsLeft place fault
    → Calls m command (Err fault) k
left_call m n k command reply place (Refused e) first is same left = absurd left
left_call m n k command reply place (Unsure at e) first is same left = (
  left.1,
  record {
    reply = reply;
    above = omega (arith, first, left.0);
    seat = same ∙ is ∙ ap (λ p. noted m (told p (record_by m.number command reply))) (sym left.0);
  },
)
left_call m n k command reply place SeatUnknown first is same left = absurd left
left_call m n k command reply place CellRefused first is same left =
    left_more m (noted m (told place (record_by m.number command reply))) k (same ∙ is) refl refl refl refl refl refl
left_call m n k command reply place NotYours first is same left = absurd left
left_call m n k command reply place CellsSpent first is same left = absurd left

-- a record that was answered, whose receipt the seat gives
pub answered_call : (m n k v : SeatValue) (command : Command) (reply : Reply) (place : ℕ)
    (t q r : Told) → m.first ≤ place
    → n ≡ noted m (told place (record_by m.number command reply)) → k ≡ answered n place → v ≡ k
    → v.last ≡ Some t → q ≡ t → r ≡ t
    → Answers m command reply r (record v { last = Some q })
answered_call m n k v command reply place t q r first is done same last kept given =
    let w = told place (record_by m.number command reply) in
    let whole : v ≡ answered (noted m w) place = same ∙ done ∙ ap (λ (x : SeatValue). answered x place) is in
    let note : t ≡ w = same_Some _ _ (sym last ∙ ap (λ (x : SeatValue). x.last) whole) in
    let q_is : q ≡ w = kept ∙ note in
    let r_is : r ≡ w = given ∙ note in
    record {
      receipt_is = r_is ∙ ap (λ (p : ℕ). told p (record_by m.number command reply))
          (sym (ap (λ (x : Told). x.place) r_is));
      above = omega (arith, first, ap (λ (x : Told). x.place) r_is);
      seat = (λ i. record (whole i) { last = Some (q_is i) })
          ∙ ap (λ (x : Told). answered (noted m x) x.place) (sym r_is);
    }

-- ---- a record whose seat was answered where it was made, or not

pub unanswered : (b : Bool) (n x y : SeatValue) → b ≡ false → MatchBool b (n ≡ x) (n ≡ y) → n ≡ y
unanswered true n x y off h = absurd (cc)
unanswered false n x y off h = h

-- either way it is answered in the end
pub answered_then : (b : Bool) (k n v : SeatValue) (place : ℕ) → MatchBool b (n ≡ answered k place) (n ≡ k)
    → MatchBool b (v ≡ n) (v ≡ answered n place) → v ≡ answered k place
answered_then true k n v place h g = g ∙ h
answered_then false k n v place h g = g ∙ ap (λ (x : SeatValue). answered x place) h
