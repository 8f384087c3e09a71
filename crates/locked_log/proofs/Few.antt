-- A seat has few records.
use Rattle.std.proofs.Common.{◌≡◌, ◌≤◌, ◌<◌, ◌+◌, ◌==◌, length, arith}
use Rattle.std.specs.Prelude.{None, ◌^◌, ◌-◌, not}
use Rattle.std.proofs.lemmas.Bool.{and_parts, not-false, leb-true}
use Rattle.std.proofs.lemmas.List.{length-drop}
use Rattle.std.proofs.lemmas.List.Sums.{count_by-le-length}
use Rattle.versioned_map.specs.declared.command.Record.{Record}
use Rattle.store_step.specs.master.master_state.declared.config.Config.{Config}
use Rattle.store_step.specs.master.master_state.Config.{config_fault, has_backups, has_step, has_seglet, has_segment}
use Rattle.store_step.specs.master.master_state.Config.{has_budget}
use Rattle.store_step.specs.master.master_state.Config.{has_tablets, has_history}
use Rattle.store_step.proofs.of_master.master_state.Refusals.{passes}
use Rattle.store_step.specs.master.Valid.{IsValid}
use Rattle.store_step.specs.master.World.{World}
use Rattle.locked_log.specs.Held.{Held, history, made_since}
use Rattle.store_seat.specs.Made.{Made}
use Rattle.store_seat.specs.Seats.{SeatValue}
use Rattle.store_seat.specs.Accounts.{account, Knows}
use Rattle.locked_log.specs.States.{IsState}
use Rattle.history.specs.Seats.{count_of}

few_records : (c : Config) → config_fault c ≡ None → c.history ≤ 1048576
few_records c ok =
    let a = passes (not (has_backups c)) _ _ ok in
    let b = passes (not (has_step c)) _ _ a.1 in
    let g = passes (not (has_seglet c)) _ _ b.1 in
    let s = passes (not (has_segment c)) _ _ g.1 in
    let m = passes (not (has_budget c)) _ _ s.1 in
    let t = passes (not (has_tablets c)) _ _ m.1 in
    let h = passes (not (has_history c)) _ _ t.1 in
    let within = and_parts _ _ (not-false (has_history c) h.0) in
    leb-true c.history 1048576 within.1

-- a history has few records
pub few_all : (w : World) → IsValid w.knows w.fleet → length w.knows.history < 2 ^ 63 - 2 ^ 61
few_all w valid =
    omega (arith, valid.history.few, valid.history.places, few_records w.knows.config valid.config)

-- its count can rise
pub small : (h : Held) (made : Made) (m : SeatValue) → IsState h made → Knows h.book m → m.count + 1 < 2 ^ 64
small h made m st known =
    let mine : m.count ≡ count_of m.number (made_since h) = st.counts m.number (account m.first m.count) known in
    let all : count_of m.number (made_since h) ≤ length (made_since h) =
    count_by-le-length (λ (r : Record). r.seat == m.number) (made_since h) in
    let some = length-drop h.start (history h) in
    omega (
      arith,
      mine,
      all,
      some,
      st.valid.history.few,
      st.valid.history.places,
      few_records h.world.knows.config st.valid.config,
    )
