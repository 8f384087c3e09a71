-- What a command under the lock did, from its step and from how its record was filed.
use Rattle.std.proofs.Common.{◌≡◌, ◌≤◌, ◌<◌, ℕ, ◌+◌, ◌-◌, List, [], Option, Some, true, false, length, refl, sym}
use Rattle.std.proofs.Common.{ap, ◌∙◌, subst, arith, inr}
use Rattle.std.specs.Prelude.{slice_set, Result, Ok, Err}
use Rattle.replica.specs.Picture.{FleetState}
use Rattle.versioned_map.specs.declared.command.Command.{Command}
use Rattle.versioned_map.specs.declared.command.Record.{Record}
use Rattle.versioned_map.specs.declared.command.Reply.{Reply}
use Rattle.history_row.specs.Rows.{IsRowOf}
use Rattle.store_step.specs.master.log_laws.Data.{durable_of}
use Rattle.store_step.specs.master.master_state.declared.step.Refusal.{Refusal}
use Rattle.store_step.specs.master.master_state.declared.step.Step.TheVariants.{Apply}
use Rattle.store_step.specs.master.master_state.declared.step.StepAnswer.TheVariants.{Applied}
use Rattle.store_step.proofs.of_master.log_laws.DurableSteps.{durable_is_within}
use Rattle.store_step.specs.master.log_memory.Fleet.{read_of}
use Rattle.store_step.specs.master.master_state.Log.{log_of}
use Rattle.store_step.specs.master.Invariant.{IsWellKept}
use Rattle.store_step.specs.master.Keeps.{Keeps}
use Rattle.store_step.specs.master.Steps.{Accepts, Declines}
use Rattle.store_step.specs.master.Valid.{IsValid}
use Rattle.store_step.specs.master.World.{World, world}
use Rattle.store_seat.specs.declared.fault.CallFault.{CallFault}
use Rattle.store_seat.specs.declared.fault.CallFault.TheVariants.{CellRefused}
use Rattle.locked_log.specs.Applies.{AppliesHeld, Counts}
use Rattle.locked_log.specs.Held.{StateValue, Held, held, history, made_since, durable}
use Rattle.store_seat.specs.Made.{Made}
use Rattle.store_seat.specs.Seats.{SeatValue, record_by, told, noted, unnoted}
use Rattle.store_seat.specs.Accounts.{account, Knows}
use Rattle.locked_log.specs.States.{IsState, Lasts}
use Rattle.locked_log.proofs.Adding.{place_is}
use Rattle.locked_log.proofs.Filing.{filed, filed_lasts, more, same_length}
use Rattle.locked_log.proofs.Writing.{row_whole, row_short}

-- what is durable are records that there are, also while a failover is open
pub durable_within : (w : World) → IsWellKept w.knows w.fleet → durable_of (log_of w.knows) ≤ length w.knows.history
durable_within w kept = durable_is_within (log_of w.knows) (read_of (log_of w.knows) w.fleet) kept.kept.intact.log

-- without a history nothing is durable
pub none_durable : (w : World) → IsWellKept w.knows w.fleet → w.knows.history ≡ [] → durable_of (log_of w.knows) ≡ 0
none_durable w kept none = omega (arith, durable_within w kept, ap length none)

module _ (s t : Held) (m : SeatValue) (command : Command) (place : ℕ) (reply : Reply) (made : Made)
    (st : IsState s made) (known : Knows s.book m) (off : s.is_refused ≡ false)
    (accepted : Accepts s.world (Apply m.number command) (Applied place reply) t.world) (begun : t.start ≡ s.start)
  where
    at_end : place ≡ length (history s)
    at_end = place_is s.world t.world m.number command place reply accepted

    pub counts : durable s ≤ length (history s) → t.book ≡ slice_set s.book m.number (account m.first (m.count + 1))
        → t.total ≡ s.total + 1 → Counts s m command place reply t
    counts within book total = record {
      known = known;
      first = omega (
        arith,
        at_end,
        st.firsts m.number (account m.first m.count) known,
        within,
      );
      accepted = accepted;
      book = book;
      total = total;
    }

    pub writes : (what : Record) (n : SeatValue) → Counts s m command place reply t
        → what ≡ record_by m.number command reply → t.row ≡ slice_set s.row (place - s.start) (Some what)
        → t.is_refused ≡ false → n ≡ noted m (told place what)
        → AppliesHeld s m command (Ok (place, reply)) t n
    writes what n counted is row refused seat = record {
      counts = counted;
      row = row ∙ ap (λ (w : Record). slice_set s.row (place - s.start) (Some w)) is;
      refused = refused;
      seat = seat ∙ ap (λ (w : Record). noted m (told place w)) is;
    }

    pub loses : (n : SeatValue) → Counts s m command place reply t → t.row ≡ s.row → t.is_refused ≡ true → n ≡ unnoted m
        → AppliesHeld s m command (Err CellRefused) t n
    loses n counted row refused seat = inr (
      place,
      reply,
      record {
        counts = counted;
        row = row;
        short = λ whole. row_short s.row (made_since s) (record_by m.number command reply)
            (row_whole s.row (made_since s) s.is_refused st.written off)
            (subst (λ (l : List Record). IsRowOf s.row l) (more s t m command place reply counted begun st.start)
            (subst (λ (r : List (Option Record)). IsRowOf r (made_since t)) row whole));
        refused = refused;
        seat = seat;
      },
    )

-- ---- from what the calls of the body ensure

-- the next place has a cell, if there is one for the next record
pub has_room : {F : Type 0} (state : F → FleetState) (v x : StateValue F) → v ≡ x → (place : ℕ)
    → place ≡ length v.master.knows.history → length x.master.knows.history < x.start + length x.row
    → place < v.start + length v.row
has_room state v x same place at_end room =
    let there = subst (λ (y : StateValue _). length y.master.knows.history < y.start + length y.row) (sym same) room in
    omega (arith, at_end, there)

-- what a command under the lock ensures
pub record Done (s : Held) (m : SeatValue) (command : Command) (r : Result (ℕ × Reply) CallFault) (t : Held)
    (n : SeatValue) (made : Made) : Type 0 where
  pub applies : AppliesHeld s m command r t n
  pub lasts : Lasts 1 s t
  pub valid : IsState t made

-- a value under the lock and a seat, as the body finds them
module _ {F : Type 0} (state : F → FleetState) (v x : StateValue F) (same : v ≡ x) (m : SeatValue) (k : ℕ)
    (seat : k ≡ m.number) (command : Command) where
  pub declines_at : (r : Refusal) (w : World) → Declines (world state v.master) (Apply k command) r w
      → Declines (world state x.master) (Apply m.number command) r w
  declines_at r w d =
      subst (λ (z : ℕ). Declines (world state x.master) (Apply z command) r w) seat
      (subst (λ (y : StateValue F). Declines (world state y.master) (Apply k command) r w) same d)

  module _ (place : ℕ) (reply : Reply) (t : Held) (made : Made) (what : Record)
      (st : IsState (held state v) made) (kept : IsWellKept v.master.knows (state v.master.fleet))
      (known : Knows x.book m) (off : v.is_refused ≡ false)
      (gives : Accepts (world state v.master) (Apply k command) (Applied place reply) t.world)
      (keeps : Keeps 1 (world state v.master) t.world)
      (remembers : t.world.knows.forgotten ≡ v.master.knows.forgotten) (valid : IsValid t.world.knows t.world.fleet)
      (begun : t.start ≡ v.start) (room : place < v.start + length v.row)
      (is : what ≡ record_by k command reply)
      (book : t.book ≡ slice_set v.book m.number (account m.first (m.count + 1))) (total : t.total ≡ v.total + 1) where
    abbrev s : Held
    s = held state x

    st_at : IsState s made
    st_at = subst (λ (y : StateValue F). IsState (held state y) made) same st

    off_at : s.is_refused ≡ false
    off_at = ap (λ (y : StateValue F). y.is_refused) (sym same) ∙ off

    gives_at : Accepts s.world (Apply m.number command) (Applied place reply) t.world
    gives_at =
        subst (λ (z : ℕ). Accepts s.world (Apply z command) (Applied place reply) t.world) seat
        (subst (λ (y : StateValue F). Accepts (world state y.master) (Apply k command)
        (Applied place reply) t.world) same gives)

    keeps_at : Keeps 1 s.world t.world
    keeps_at = subst (λ (y : StateValue F). Keeps 1 (world state y.master) t.world) same keeps

    begun_at : t.start ≡ s.start
    begun_at = begun ∙ ap (λ (y : StateValue F). y.start) same

    room_at : place < s.start + length s.row
    room_at = subst (λ (y : StateValue F). place < y.start + length y.row) same room

    kept_at : t.world.knows.forgotten ≡ s.world.knows.forgotten
    kept_at = remembers ∙ ap (λ (y : StateValue F). y.master.knows.forgotten) same

    counted : Counts s m command place reply t
    counted = counts s t m command place reply made st_at known off_at gives_at begun_at
        (subst (λ (y : StateValue F). durable (held state y) ≤ length (history (held state y))) same
        (durable_within (world state v.master) kept))
        (book ∙ ap (λ (y : StateValue F). slice_set y.book m.number (account m.first (m.count + 1))) same)
        (total ∙ ap (λ (y : StateValue F). y.total + 1) same)

    own : what ≡ record_by m.number command reply
    own = is ∙ ap (λ (z : ℕ). record_by z command reply) seat

    pub took : (n : SeatValue) → t.row ≡ slice_set v.row (place - v.start) (Some what) → t.is_refused ≡ v.is_refused
        → n ≡ noted m (told place what) → Done s m command (Ok (place, reply)) t n made
    took n row flag noted_is =
        let row_at : t.row ≡ slice_set s.row (place - s.start) (Some what) = row
        ∙ ap (λ (y : StateValue F). slice_set y.row (place - y.start) (Some what)) same in record {
          applies = writes s t m command place reply made st_at known off_at gives_at begun_at what n counted own row_at
              (flag ∙ off) noted_is;
          lasts = filed_lasts s t m command place reply counted begun_at keeps_at
              (same_length true s.row t.row (place - s.start) (Some what) row_at) (λ on. absurd (both on));
          valid = filed s t m command place reply counted begun_at made st_at keeps_at valid kept_at room_at true off_at
              (row_at ∙ ap (λ (w : Record). slice_set s.row (place - s.start) (Some w)) own) (λ c. refl);
        }
      where
        both : s.is_refused ≡ true → ⊥
        both on = let no = sym off_at ∙ on in cc

    pub missed : (n : SeatValue) → t.row ≡ v.row → t.is_refused ≡ true → n ≡ unnoted m
        → Done s m command (Err CellRefused) t n made
    missed n row flag unnoted_is =
        let row_at : t.row ≡ s.row = row ∙ ap (λ (y : StateValue F). y.row) same in record {
          applies = loses s t m command place reply made st_at known off_at gives_at begun_at n counted row_at flag
              unnoted_is;
          lasts = filed_lasts s t m command place reply counted begun_at keeps_at (ap length row_at) (λ on. flag);
          valid = filed s t m command place reply counted begun_at made st_at keeps_at valid kept_at room_at false
              off_at
              row_at (λ c. absurd (both c));
        }
      where
        both : t.is_refused ≡ false → ⊥
        both c = let no = sym flag ∙ c in cc
