use Rattle.std.proofs.Common.{◌≡◌, ◌≤◌, ◌↔◌, IsTrue, nat_eq, rules}
use Rattle.history.specs.View.{shown_record}
use Rattle.store_seat.proofs.Owning.{owns_there, owns_nothing}
use Rattle.store_seat.proofs.claiming.owns.Goals as goal

pub returns-in-Some : goal.returns-in-Some
returns-in-Some g c =
    let first : c.args.seat.now.first ≤ c.args.place = search rules in
    let since : g.B.Labels.start ≤ c.args.place = search rules in
    let same : IsTrue (nat_eq c.in-Some.what.seat c.seat.inside.number) ↔ (c.in-Some.what.seat ≡ c.args.seat.now.number)
    = search rules in
    owns_there c.args.history.now g.B.Labels.start c.args.seat.now c.args.place (shown_record c.in-Some.what)
    (nat_eq c.in-Some.what.seat c.seat.inside.number) since first c.in-Some.ensures same

pub returns-in-None : goal.returns-in-None
returns-in-None g c = (
  λ is. absurd (cc),
  λ owned. absurd (owns_nothing c.args.history.now g.B.Labels.start c.args.seat.now c.args.place
      c.in-None.ensures owned),
)
