use Rattle.std.proofs.Common.{List, [], ◌∷◌, ◌++◌, sym, subst}
use Rattle.store_clients.specs.declared.client.Client.{Client}
use Rattle.store_clients.specs.declared.client.Rounds.{Rounds}
use Rattle.store_clients.specs.Clients.{IsAsked, IsKept, Matches}
use Rattle.store_clients.proofs.Matching.{matches_push}
use Rattle.store_clients.proofs.running.fn.run_clients.scope.Goals as goal

pub loop-seat-preserved : goal.loop-seat-preserved
loop-seat-preserved g c =
    let rounds = c.captures.rounds in
    let seat = c.in-Some.seat in
    let before = c.loop-seat.yielded in
    let asked : IsAsked rounds seat _ = record {
      is = λ i. record { rounds = rounds; number = c.number.ensures i; count = c.count.ensures.count i };
      share = c.count.ensures.share;
    } in
    subst (λ (rs : List Rounds). Matches (IsAsked rounds) (before ++ seat ∷ []) rs) (sym c.in_ok-push.ensures.items)
    (matches_push (IsAsked rounds) before c.loop-seat.started.items seat _ c.loop-seat.invariant asked)

pub loop-one-preserved : goal.loop-one-preserved
loop-one-preserved g c =
    let before = c.loop-one.yielded in
    let one = c.in-Some-one.one in
    subst (λ (cs : List (Client g.row.B.Denot)). Matches (IsKept {B = g.row.B.Denot}) (before ++ one ∷ []) cs)
    (sym c.in_ok-push-2.ensures.items)
    (matches_push (IsKept {B = g.row.B.Denot}) before c.loop-one.clients.items one c.join.result c.loop-one.invariant
    c.join.ensures)
