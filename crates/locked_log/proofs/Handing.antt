-- A record that a seat asks for again, from what the calls of the body ensure.
use Rattle.std.proofs.Common.{◌≡◌, ◌≤◌, ◌<◌, ◌⊎◌, inl, inr, ◌∙◌, ⊎_elim, ap, sym, subst, arith, ℕ, zero, suc, Bool}
use Rattle.std.proofs.Common.{false, List, Ok, Err}
use Rattle.std.specs.Prelude.{Result, slice_get}
use Rattle.replica.specs.Picture.{FleetState}
use Rattle.versioned_map.specs.declared.command.Record.{Record}
use Rattle.versioned_map.specs.declared.command.Reply.{Reply}
use Rattle.history_row.specs.Receipts.{Told}
use Rattle.store_seat.specs.declared.fault.CallFault.{CallFault}
use Rattle.store_seat.specs.declared.fault.CallFault.TheVariants.{Refused, Unsure, SeatUnknown, CellRefused, NotYours}
use Rattle.store_seat.specs.declared.fault.CallFault.TheVariants.{CellsSpent}
use Rattle.store_seat.specs.Accounts.{account, Knows}
use Rattle.store_seat.specs.Made.{Made}
use Rattle.store_seat.specs.Claims.{Owns, Hands, Claims}
use Rattle.store_seat.specs.Seats.{SeatValue}
use Rattle.locked_log.specs.Applies.{ClaimsHeld}
use Rattle.locked_log.specs.Held.{StateValue, held}
use Rattle.locked_log.specs.States.{IsState}

le_or : (a b : ℕ) → (a ≤ b) ⊎ (b < a)
le_or zero b = inl (omega arith)
le_or (suc a) zero = inr (omega arith)
le_or (suc a) (suc b) = ⊎_elim (λ l. inl (omega (arith, l))) (λ l. inr (omega (arith, l))) (le_or a b)

-- a value under the lock, as the body finds it, its history, and how many records are forgotten
module _ {F : Type 0} (state : F → FleetState) (v x : StateValue F) (same : v ≡ x) (m : SeatValue) (place : ℕ)
    (records : List Record) (is : records ≡ v.master.knows.history) (n : ℕ) (forgot : n ≡ v.master.knows.forgotten)
  where
    at_value : records ≡ x.master.knows.history
    at_value = is ∙ ap (λ (y : StateValue F). y.master.knows.history) same

    pub owned_there : Owns v.start records m place → Owns x.start x.master.knows.history m place
    owned_there o = subst (λ (y : StateValue F). Owns y.start y.master.knows.history m place) same
        (subst (λ (h : List Record). Owns v.start h m place) is o)

    pub owned_here : Owns x.start x.master.knows.history m place → Owns v.start records m place
    owned_here o = subst (λ (h : List Record). Owns v.start h m place) (sym is)
        (subst (λ (y : StateValue F). Owns y.start y.master.knows.history m place) (sym same) o)

    pub kept_there : n ≤ place → x.master.knows.forgotten ≤ place
    kept_there low = omega (arith, low, forgot, ap (λ (y : StateValue F). y.master.knows.forgotten) same)

    pub kept_here : x.master.knows.forgotten ≤ place → n ≤ place
    kept_here low = omega (arith, low, forgot, ap (λ (y : StateValue F). y.master.knows.forgotten) same)

    -- what a seat owns that the book knows is not forgotten
    pub owned_kept : (made : Made) → IsState (held state v) made → Knows x.book m
        → Owns x.start x.master.knows.history m place → x.master.knows.forgotten ≤ place
    owned_kept made st known owned =
        let at = subst (λ (y : StateValue F). IsState (held state y) made) same st in
        ⊎_elim (λ (low : x.master.knows.forgotten ≤ place). low)
        (λ (below : place < x.master.knows.forgotten). absurd (at.settled place owned.0 below
        (account m.first m.count, owned.2.0, owned.2.1, ap (λ n. slice_get x.book n) owned.2.2 ∙ known, owned.1)))
        (le_or x.master.knows.forgotten place)

    pub refused_at : (b : Bool) → v.is_refused ≡ b → x.is_refused ≡ b
    refused_at b e = ap (λ (y : StateValue F). y.is_refused) (sym same) ∙ e

    pub claims_at : (r : Result (Reply × Told) CallFault) → v.is_refused ≡ false → Knows x.book m
        → Owns x.start x.master.knows.history m place → Claims records m place r
        → ClaimsHeld (held state x) m place r
    claims_at (Ok a) off known owned h =
        (refused_at false off, known, subst (λ (l : List Record). Hands l m place a.0 a.1) at_value h)
    claims_at (Err (Refused e)) off known owned h = h
    claims_at (Err (Unsure at e)) off known owned h = (refused_at false off, known, owned, h.0, h.1)
    claims_at (Err SeatUnknown) off known owned h = absurd h
    claims_at (Err CellRefused) off known owned h = absurd h
    claims_at (Err NotYours) off known owned h = absurd h
    claims_at (Err CellsSpent) off known owned h = absurd h
