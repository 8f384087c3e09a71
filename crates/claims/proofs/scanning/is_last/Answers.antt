use Rattle.std.proofs.Common.{refl, sym, ◌∙◌}
use Rattle.claims.specs.Claims.{claimed}
use Rattle.claims.proofs.SiftLemmas.{next_is, last_is, none_later}
use Rattle.claims.proofs.scanning.is_last.Goals as goal

pub returns-in-Some-clause-clash : goal.returns-in-Some-clause-clash
returns-in-Some-clause-clash c = (
  refl,
  next_is (claimed c.args.claim.now) c.args.later.now c.in-Some.next.now c.in-Some.ensures.value
      ∙ sym c.if-clashes.ensures,
)

pub returns-in-Some-clause-clean : goal.returns-in-Some-clause-clean
returns-in-Some-clause-clean c = tt

pub returns-in-Some-2-clause-last : goal.returns-in-Some-2-clause-last
returns-in-Some-2-clause-last c =
    c.ne.ensures ∙ sym (last_is (claimed c.args.claim.now) c.args.later.now c.in-Some.next.now c.in-Some.ensures.value)

pub returns-in-Some-2-clause-clean : goal.returns-in-Some-2-clause-clean
returns-in-Some-2-clause-clean c =
    next_is (claimed c.args.claim.now) c.args.later.now c.in-Some.next.now c.in-Some.ensures.value
    ∙ sym c.if-clashes.ensures

pub returns-in-None-clause-last : goal.returns-in-None-clause-last
returns-in-None-clause-last c = sym (none_later (claimed c.args.claim.now) c.args.later.now c.in-None.ensures.value).0

pub returns-in-None-clause-clean : goal.returns-in-None-clause-clean
returns-in-None-clause-clean c = (none_later (claimed c.args.claim.now) c.args.later.now c.in-None.ensures.value).1
