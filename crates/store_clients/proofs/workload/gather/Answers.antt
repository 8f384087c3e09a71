use Rattle.std.proofs.Common.{[], ◌∷◌, ◌++◌, ap, sym, subst, refl, ◌∙◌, append_assoc, Result, ℕ}
use Rattle.std.specs.Prelude.{IsOk}
use Rattle.counted_calls.specs.locked_log.store_seat.declared.fault.CallFault.{CallFault}
use Rattle.store_clients.specs.Workloads.{IsBack}
use Rattle.store_clients.proofs.Matching.{matches_push}
use Rattle.store_clients.proofs.workload.gather.Goals as goal

pub loop-one-preserved : goal.loop-one-preserved
loop-one-preserved g c =
    let s = c.in-Some-seat.seat in
    let before = c.loop-one.invariant in
    let accepted = subst (λ (r : Result ℕ CallFault). IsOk r) (sym c.in_ok-calls.was) refl in (
      before.0 ++ s ∷ [],
      c.in-Ok.ensures.items ∙ ap (λ l. l ++ s ∷ []) before.1 ∙ append_assoc c.args.seats.now.items before.0 (s ∷ []),
      matches_push (IsBack {B = g.row.B.Denot}) c.loop-one.yielded before.0 c.in-Some.one s before.2
          (record { seat = c.in-Some-seat.is; accepted = accepted }),
    )
