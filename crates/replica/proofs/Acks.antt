-- How the list of acks grows, and what it keeps.
use Rattle.std.proofs.Common.{◌≡◌, ℕ, List, [], ◌∷◌, ◌++◌, append_assoc, Bool, false, refl, sym, ap, subst, ◌∙◌}
use Rattle.std.specs.Prelude.{◌==◌, ◌&&◌}
use Rattle.std.proofs.lemmas.Bool.{ne_eqb}
use Rattle.std.proofs.Math.Bool.{and-false}
use Rattle.entry.specs.Bag.{IsAmong}
use Rattle.entry.proofs.BagLemmas.{among_right}
use Rattle.replica.specs.Acks.{acked, Grows, WasAcked, HasPut}
use Rattle.replica.specs.Picture.{Ack, is_same_place}

pub grows_not : (acks : List Ack) → Grows acks acks
grows_not acks = ([], refl)

pub grows_one : (acks : List Ack) (a : Ack) → Grows acks (a ∷ acks)
grows_one acks a = (a ∷ [], refl)

pub grows_twice : (one two three : List Ack) → Grows one two → Grows two three → Grows one three
grows_twice one two three first second = (
  second.0 ++ first.0,
  second.1 ∙ ap (λ (xs : List Ack). second.0 ++ xs) first.1 ∙ sym (append_assoc second.0 first.0 one),
)

-- what was acked at some time was so later too
pub still_acked : (old new : List Ack) (b m s : ℕ) (bytes : List ℕ) → Grows old new → WasAcked old b m s bytes
    → WasAcked new b m s bytes
still_acked old new b m s bytes grows was = (was.0, grows_twice was.0 old new was.1 grows, was.2)

-- what is acked now was so at some time
pub acked_now : (acks : List Ack) (b m s : ℕ) (bytes : List ℕ) → acked acks b m s ≡ bytes
    → WasAcked acks b m s bytes
acked_now acks b m s bytes is = (acks, grows_not acks, is)

-- an ack at another place changes nothing here
pub acked_elsewhere : (acks : List Ack) (a : Ack) (b m s : ℕ)
    → is_same_place a.backup a.op.master a.op.segment b m s ≡ false → acked (a ∷ acks) b m s ≡ acked acks b m s
acked_elsewhere acks a b m s away = rw away refl

-- so does one of another master
pub acked_apart : (acks : List Ack) (a : Ack) (b m s : ℕ) → (a.op.master ≡ m → ⊥)
    → acked (a ∷ acks) b m s ≡ acked acks b m s
acked_apart acks a b m s other =
    let away : (a.op.master == m) ≡ false = ne_eqb a.op.master m other in
    acked_elsewhere acks a b m s
    (ap (λ (x : Bool). (a.backup == b) && (x && (a.op.segment == s))) away ∙ and-false (a.backup == b))

-- a put stays known
pub still_put : (old new : List Ack) (b m s : ℕ) → Grows old new → HasPut old b m s → HasPut new b m s
still_put old new b m s grows was = (
  was.0,
  was.1,
  subst (λ (xs : List Ack). IsAmong (record { backup = b; op = record { master = m; segment = s; act = was.0 } }) xs)
      (sym grows.1)
      (among_right (record { backup = b; op = record { master = m; segment = s; act = was.0 } }) grows.0 old was.2),
)
