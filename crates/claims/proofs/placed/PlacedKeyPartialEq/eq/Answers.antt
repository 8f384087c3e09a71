use Rattle.std.proofs.Common.{sym, ◌∙◌}
use Rattle.claims.specs.Placed.{placed_key}
use Rattle.claims.proofs.KeyPlaces.{differ_by_place, differing}
use Rattle.claims.proofs.placed.PlacedKeyPartialEq.eq.Goals as goal

pub returns-else-self-other : goal.returns-else-self-other
returns-else-self-other c =
    let a = c.args.self.now in
    let b = c.args.other.now in
    differing a.place b.place c.if-self-other.false
    ∙ sym (differ_by_place (placed_key a) (placed_key b)
    (λ same. c.if-self-other.false (a.placed ∙ same ∙ sym b.placed)))
