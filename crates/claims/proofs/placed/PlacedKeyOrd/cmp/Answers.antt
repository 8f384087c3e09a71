use Rattle.std.proofs.Common.{sym, ◌∙◌}
use Rattle.claims.specs.Placed.{placed_key}
use Rattle.claims.proofs.KeyPlaces.{by_place}
use Rattle.claims.proofs.placed.PlacedKeyOrd.cmp.Goals as goal

pub returns-then-self-other-2 : goal.returns-then-self-other-2
returns-then-self-other-2 c =
    let a = c.args.self.now in
    let b = c.args.other.now in
    c.cmp.ensures
    ∙ rw (a.placed, b.placed) (by_place (placed_key a) (placed_key b) a.key.limits.each b.key.limits.each
    c.if-self-other.true (λ same. c.if-self-other-2.true (a.placed ∙ same ∙ sym b.placed)))
