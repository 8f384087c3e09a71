-- What is done under the lock, as the calls of a seat see it.
use Rattle.std.specs.Prelude.{◌≡◌, ℕ, Option, Some, None, Result, Ok, Err, IfSome, MatchBool}
use Rattle.master_core.specs.master_state.declared.step.Refusal.{Refusal}
use Rattle.versioned_map.specs.declared.command.Command.{Command}
use Rattle.store_seat.specs.declared.fault.CallFault.{CallFault}
use Rattle.store_seat.specs.declared.log.Applied.{Applied}
use Rattle.store_seat.specs.declared.log.Attempt.{Attempt}
use Rattle.store_seat.specs.declared.log.Attempt.TheVariants.{Done, Waits as Rolls}
use Rattle.store_seat.specs.declared.log.Progress.{Progress}
use Rattle.store_seat.specs.declared.log.Progress.TheVariants.{Answered, Waits, Unknown}
use Rattle.store_seat.specs.Calls.{AppliesSeat}
use Rattle.store_seat.specs.Seats.{SeatValue, answered}
use Rattle.store_seat.specs.Stops.{StopsPush, RefusesRoll}

-- The command is applied, and then the seat is answered up to its record or stays as it is. Or the command is refused.
abbrev pub MakesSeat : SeatValue → Command → Result Applied CallFault → SeatValue → Type 0
MakesSeat m command (Ok a) n = (k : SeatValue) × AppliesSeat m command (Ok (a.place, a.reply)) k
    × MatchBool a.is_answered (n ≡ answered k a.place) (n ≡ k)
MakesSeat m command (Err fault) n = AppliesSeat m command (Err fault) n

-- Either the command is done, or it has to wait for a roll, and the seat stays as it is.
abbrev pub TriesSeat : SeatValue → Command → Option (Result Applied CallFault) → SeatValue → Type 0
TriesSeat m command (Some r) n = MakesSeat m command r n
TriesSeat m command None n = n ≡ m

-- The same, and the roll was begun or refused.
abbrev pub AttemptsSeat : SeatValue → Command → Attempt → SeatValue → Type 0
AttemptsSeat m command (Done r) n = MakesSeat m command r n
AttemptsSeat m command (Rolls why) n = (n ≡ m) × IfSome why RefusesRoll

-- Either the seat is answered up to the place, or nothing changes.
abbrev pub ProceedsSeat : SeatValue → ℕ → Progress → SeatValue → Type 0
ProceedsSeat m place Answered n = n ≡ answered m place
ProceedsSeat m place Waits n = n ≡ m
ProceedsSeat m place Unknown n = n ≡ m

-- The same, or a push was refused.
abbrev pub AdvancesSeat : SeatValue → ℕ → Result Progress Refusal → SeatValue → Type 0
AdvancesSeat m place (Ok progress) n = ProceedsSeat m place progress n
AdvancesSeat m place (Err refusal) n = StopsPush refusal × (n ≡ m)
