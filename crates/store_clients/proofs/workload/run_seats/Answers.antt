use Rattle.std.proofs.Common.{◌≡◌, ◌+◌, List, ◌++◌, drop, take, ap, subst, ◌∙◌, append_assoc}
use Rattle.counted_calls.specs.locked_log.store_seat.Seats.{SeatValue}
use Rattle.store_clients.specs.Clients.{Matches}
use Rattle.store_clients.specs.Workloads.{HasServed}
use Rattle.store_clients.proofs.Counts.{all_served}
use Rattle.store_clients.proofs.workload.run_seats.Goals as goal

pub returns-in-Ok-append : goal.returns-in-Ok-append
returns-in-Ok-append g c =
    let n = c.args.work.clients in
    let rounds = c.args.work.rounds in
    let all = c.args.seats.now.items in
    let given = c.in-Ok-split_off.chosen.items in
    let others = c.in-Ok.idle.items in
    let first = c.split_off-2.new.self.items in
    let front : c.split_off.new.self.items ≡ take (1 + n) all = c.in-Ok.ensures.items in
    let rest : c.in-Ok.idle.items ≡ drop (1 + n) all = c.in-Ok.ensures.tail in
    let own : c.split_off-2.new.self.items ≡ take 1 (take (1 + n) all) =
    c.in-Ok-split_off.ensures.items ∙ ap (take 1) front in
    let chosen : c.in-Ok-split_off.chosen.items ≡ drop 1 (take (1 + n) all) =
    c.in-Ok-split_off.ensures.tail ∙ ap (drop 1) front in
    let back = c.in_ok-gather.ensures in (
      back.0,
      c.in-Ok-append.ensures.items ∙ ap (λ l. l ++ others) back.1 ∙ append_assoc first back.0 others
          ∙ ap (λ l. l ++ (back.0 ++ others)) own ∙ ap (λ l. take 1 (take (1 + n) all) ++ (back.0 ++ l)) rest,
      subst (λ (l : List SeatValue). Matches (HasServed rounds) l back.0) chosen
          (all_served rounds given back.0 c.in-Ok-run_clients.clients.items c.in-Ok-run_clients.ensures back.2),
    )
