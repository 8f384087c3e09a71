use Rattle.crash_fleet.proofs.same.have_same.Goals as goal

pub returns-then-has_all : goal.returns-then-has_all
returns-then-has_all c = (
  λ holds. (c.has_all.ensures.0 c.if-has_all.true, c.has_all-then-has_all.ensures.0 holds),
  λ same. c.has_all-then-has_all.ensures.1 same.1,
)
