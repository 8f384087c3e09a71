-- A step and an answer in one holding of the lock, one behind the other.
use Rattle.std.proofs.Common.{◌≡◌, ◌≤◌, ◌+◌, ◌++◌, ℕ, List, Some, Ok, Err, ap, ◌∙◌, arith, append_assoc, length}
use Rattle.std.proofs.Common.{get_or}
use Rattle.std.specs.Prelude.{Result, slice_get}
use Rattle.std.proofs.lemmas.Option.{slice_get-get_or}
use Rattle.versioned_map.specs.declared.command.Command.{Command}
use Rattle.versioned_map.specs.declared.command.Reply.{Reply}
use Rattle.store_step.specs.master.master_state.declared.config.Config.{Config}
use Rattle.store_step.specs.master.Keeps.{Keeps}
use Rattle.store_step.specs.master.World.{World}
use Rattle.store_seat.specs.declared.account.Account.{Account}
use Rattle.store_seat.specs.declared.fault.CallFault.{CallFault}
use Rattle.store_seat.specs.declared.log.Applied.{Applied}
use Rattle.store_seat.specs.Seats.{SeatValue}
use Rattle.store_seat.specs.Shared.{MakesSeat}
use Rattle.locked_log.specs.Applies.{AppliesHeld, Enters, WaitsForRoll}
use Rattle.locked_log.specs.Held.{Held}
use Rattle.locked_log.specs.States.{Lasts, RaisesFirsts}
use Rattle.locked_log.proofs.Counting.{in_book}
use Rattle.locked_log.proofs.Seeing.{seat_of, settle_of}

-- ---- what stays over two of them

keeps_then : (a b : ℕ) (s u t : World) → Keeps a s u → Keeps b u t → Keeps (a + b) s t
keeps_then a b s u t x y = record {
  config = y.config ∙ x.config;
  origin = y.origin ∙ x.origin;
  takes = (omega (arith, x.takes.0, y.takes.0), omega (arith, x.takes.1, y.takes.1));
  others = λ k m z other. y.others k m z (away m other) ∙ x.others k m z other;
  least = λ m other. y.least m (away m other) ∙ x.least m other;
  durable = omega (arith, x.durable, y.durable);
  forgotten = omega (arith, x.forgotten, y.forgotten);
  history = (
    x.history.0 ++ y.history.0,
    y.history.1 ∙ ap (λ l. l ++ y.history.0) x.history.1
        ∙ append_assoc s.knows.history x.history.0 y.history.0,
  );
}
  where
    away : (m : ℕ) → (m ≡ s.knows.config.master → ⊥) → m ≡ u.knows.config.master → ⊥
    away m other same = other (same ∙ ap (λ (c : Config). c.master) x.config)

firsts_then : (s u t : List Account) → length u ≡ length s → RaisesFirsts s u → RaisesFirsts u t → RaisesFirsts s t
firsts_then s u t long x y k a b e f =
    let there : slice_get u k ≡ Some (get_or u k a) = slice_get-get_or u k a (omega (arith, long, in_book s k a e)) in
    omega (arith, x k a (get_or u k a) e there, y k (get_or u k a) b there f)

pub lasts_then : (a b : ℕ) (s u t : Held) → Lasts a s u → Lasts b u t → Lasts (a + b) s t
lasts_then a b s u t x y = record {
  keeps = keeps_then a b s.world u.world t.world x.keeps y.keeps;
  accounts = y.accounts ∙ x.accounts;
  firsts = firsts_then s.book u.book t.book x.accounts x.firsts y.firsts;
  start = y.start ∙ x.start;
  cells = y.cells ∙ x.cells;
  refused = λ on. y.refused (x.refused on);
}

-- ---- a command, and then an answer

-- its place isn't below the seat's first number, also with its record
pub first_stays : (s t : Held) (m n : SeatValue) (command : Command) (place : ℕ) (reply : Reply)
    → AppliesHeld s m command (Ok (place, reply)) t n → n.first ≤ place
first_stays s t m n command place reply h = omega (arith, h.counts.first, ap (λ (x : SeatValue). x.first) h.seat)

-- as the seat sees it, if no roll had to come first
pub makes_of : (s t : Held) (m n : SeatValue) (command : Command) (r : Result Applied CallFault)
    → Enters s m command r t n → (WaitsForRoll s m command → ⊥) → MakesSeat m command r n
makes_of s t m n command (Ok a) h waits = (
  h.1,
  seat_of s h.0 m h.1 command (Ok (a.place, a.reply)) h.2 waits,
  settle_of h.0 t h.1 n a.place a.is_answered h.3,
)
makes_of s t m n command (Err fault) h waits = seat_of s t m n command (Err fault) h waits
