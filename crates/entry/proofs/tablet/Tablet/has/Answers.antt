use Rattle.std.proofs.Common.{refl, sym, ◌∙◌}
use Rattle.std.proofs.lemmas.Bool.{eq-eqb, eqb-true}
use Rattle.entry.proofs.tablet.Tablet.has.Goals.{then-self-key, else-self-key}
use Rattle.entry.proofs.tablet.Tablet.has.Goals as goal

pub returns-then-self-place : goal.returns-then-self-place
returns-then-self-place c = elim c.if-self-key.branch [
  | then-self-key w ↦ rw (
    ← c.place_at-place.ensures,
    eq-eqb _ _ w.if-self-key.true,
    sym w.value-is
        ∙ c.if-self-place.true,
  ) refl
  | else-self-key w ↦ absurd (w.if-self-key.false (eqb-true _ _ (sym w.value-is ∙ c.if-self-place.true)))
]
