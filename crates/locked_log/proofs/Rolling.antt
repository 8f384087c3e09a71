-- A command that has to wait for a roll, and one that needn't.
use Rattle.std.proofs.Common.{◌≡◌, inl, inr, ℕ, None, Ok, Err, sym, ap, subst, ◌∙◌, ⊎_elim}
use Rattle.std.specs.Prelude.{Result}
use Rattle.std.proofs.lemmas.Option.{same_Some}
use Rattle.versioned_map.specs.declared.command.Command.{Command}
use Rattle.versioned_map.specs.declared.command.Reply.{Reply}
use Rattle.store_step.specs.master.master_state.Causes.{command_refusal}
use Rattle.store_step.specs.master.master_state.declared.step.Refusal.TheVariants as refusal
use Rattle.store_seat.specs.declared.fault.CallFault.{CallFault}
use Rattle.store_seat.specs.declared.fault.CallFault.TheVariants.{Refused, Unsure, SeatUnknown, CellRefused, NotYours}
use Rattle.store_seat.specs.declared.fault.CallFault.TheVariants.{CellsSpent}
use Rattle.store_seat.specs.declared.log.Applied.{Applied}
use Rattle.store_seat.specs.Seats.{SeatValue}
use Rattle.locked_log.specs.Applies.{AppliesHeld, Counts, Enters, WaitsForRoll}
use Rattle.locked_log.specs.Held.{Held, knows}

-- it was refused as Rolling
pub rolling_waits : (s t : Held) (m n : SeatValue) (command : Command)
    → AppliesHeld s m command (Err (Refused refusal.Rolling)) t n → WaitsForRoll s m command × (t ≡ s) × (n ≡ m)
rolling_waits s t m n command ((same, inl cause), off, known, t_is, n_is) = ((off, known, cause), t_is, n_is)
rolling_waits s t m n command ((same, inr other), off, known, t_is, n_is) = let no = other.1 in absurd (cc)

module _ (s : Held) (m : SeatValue) (command : Command) (waits : WaitsForRoll s m command) where
  -- no test refuses it
  never_passes : command_refusal (knows s) command ≡ None → ⊥
  never_passes none = let no = sym none ∙ waits.2 in cc

  counts_never : (place : ℕ) (reply : Reply) (t : Held) → Counts s m command place reply t → ⊥
  counts_never place reply t c = never_passes c.accepted.0.passed

  err_never : (t : Held) (n : SeatValue) (f : CallFault) → AppliesHeld s m command (Err f) t n
      → (f ≡ Refused refusal.Rolling → ⊥) → ⊥
  err_never t n (Refused e) ((same, inl cause), off, known, u, v) other =
      other (ap Refused (same_Some _ _ (sym cause ∙ waits.2)))
  err_never t n (Refused e) ((same, inr none), off, known, u, v) other = never_passes none.0
  err_never t n (Unsure place e) h other = h
  err_never t n SeatUnknown h other = h.1 waits.1
  err_never t n CellRefused h other =
      ⊎_elim (λ x. let no = sym x.0 ∙ waits.0 in absurd (cc)) (λ x. counts_never x.0 x.1 t x.2.counts) h
  err_never t n NotYours h other = h
  err_never t n CellsSpent h other = never_passes h.2

  done_never : (t : Held) (n : SeatValue) (r : Result Applied CallFault) → Enters s m command r t n
      → (r ≡ Err (Refused refusal.Rolling) → ⊥) → ⊥
  done_never t n (Ok a) h other = counts_never a.place a.reply h.0 h.2.counts
  done_never t n (Err f) h other = err_never t n f h (λ is. other (ap Err is))

module _ (s t : Held) (m n : SeatValue) (command : Command) (r : Result Applied CallFault)
    (h : Enters s m command r t n) where
  pub waits_then : r ≡ Err (Refused refusal.Rolling) → WaitsForRoll s m command × (t ≡ s) × (n ≡ m)
  waits_then is = rolling_waits s t m n command
      (subst (λ (x : Result Applied CallFault). Enters s m command x t n) is h)

  pub done_then : (r ≡ Err (Refused refusal.Rolling) → ⊥) → WaitsForRoll s m command → ⊥
  done_then other waits = done_never s m command waits t n r h other
