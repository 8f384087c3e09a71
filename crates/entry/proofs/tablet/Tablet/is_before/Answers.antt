use Rattle.std.proofs.Common.{refl}
use Rattle.std.proofs.lemmas.Bool.{le-ltb, eq-eqb}
use Rattle.entry.proofs.tablet.Tablet.is_before.Goals as goal

pub returns-then-self-other-2 : goal.returns-then-self-other-2
returns-then-self-other-2 c = rw (le-ltb _ _ c.if-self-other.false, eq-eqb _ _ c.if-self-other-2.true) refl
