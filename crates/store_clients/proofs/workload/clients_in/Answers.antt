use Rattle.std.proofs.Common.{ℕ, ◌++◌, ◌∙◌, arith, ap, drop, sym, subst}
use Rattle.counted_calls.specs.locked_log.store_seat.Made.{Made}
use Rattle.counted_calls.specs.locked_log.Made.{IsMade, made_now}
use Rattle.history.specs.Seats.{AreOfSeats}
use Rattle.counted_calls.specs.locked_log.store_seat.Seats.{fresh_seats}
use Rattle.counted_calls.specs.master.log_laws.Data.{durable_of}
use Rattle.counted_calls.specs.master.master_state.Log.{log_of}
use Rattle.counted_calls.proofs.of_locked_log.Lasting.{made_at_first}
use Rattle.counted_calls.specs.master.World.{MasterValue, world}
use Rattle.store_clients.proofs.Counts.{accepted, fits}
use Rattle.store_clients.proofs.workload.clients_in.Goals as goal

pub share-requires-clause-made : goal.share-requires-clause-made
share-requires-clause-made g c =
    let w = world g.F.Fleet.state c.args.master in
    subst (λ (m : Made). IsMade m w) (sym c.requires.made) (made_at_first 64 w)

-- a store that isn't made hands back the master as it was
pub returns-in-Err-clause-made : goal.returns-in-Err-clause-made
returns-in-Err-clause-made g c =
    let w = world g.F.Fleet.state c.args.master in
    subst (λ (m : MasterValue _). IsMade (made_now 64 w) (world g.F.Fleet.state m)) (sym c.in-Err.ensures)
    (made_at_first 64 w)

pub overflow_mul-result-in-Ok-outcome : goal.overflow_mul-result-in-Ok-outcome
overflow_mul-result-in-Ok-outcome g c =
    omega (arith, fits c.args.work.rounds c.args.work.clients c.requires.rounds c.requires.clients)

pub returns-in-Ok-outcome-clause-accepted : goal.returns-in-Ok-outcome-clause-accepted
returns-in-Ok-outcome-clause-accepted g c =
    let old = c.args.master.knows.history in
    let d = c.take_back-master.result.0.knows in
    let given = c.in-Ok.pair.1.items in
    let start = g.B.Labels.start in
    let seats = ap (λ (m : Made). m.seats) c.requires.made in
    let begun = ap (λ (m : Made). m.begun) c.requires.made in
    let grown = c.take_back-master.ensures.made.begun in
    let first = durable_of (log_of c.args.master.knows) in
    let back = c.in-Ok-outcome.ensures in
    accepted c.args.work.clients c.args.work.rounds first start old grown.0 d
    (grown.1 ∙ ap (λ l. l ++ grown.0) begun) c.requires.start given back.0
    c.run_seats-outcome.new.seats.items
    (omega (arith, c.requires.clients))
    (c.in-Ok.ensures ∙ ap (fresh_seats first) c.requires.seats)
    back.1 back.2 (c.take_back-master.ensures.known c.if-is_known.true)
    (subst (λ (n : ℕ). AreOfSeats n (drop start d.history)) seats c.take_back-master.ensures.no_others)
