use Rattle.std.proofs.Common.{◌≡◌, ℕ, false, List, length, refl, sym, ap, ◌∙◌, arith}
use Rattle.std.specs.Prelude.{nat_lt}
use Rattle.master_state.specs.Budget.{may_clean}
use Rattle.master_state.specs.Causes.{survivors_for}
use Rattle.master_state.specs.Data.{MasterData}
use Rattle.master_state.proofs.FreeVictims.{at_most_four, more_than_four}
use Rattle.master_state.proofs.FreeVictims.{much_refused, full_refused, spent_refused, none_refused}
use Rattle.master_space.proofs.victims.admit_space.Goals as goal
use Rattle.master_space.proofs.victims.admit_space.Goals.{After-may_clean}

pub returns-in_default-clause-refused : goal.returns-in_default-clause-refused
returns-in_default-clause-refused c =
    let d = c.args.core.now in
    let victims = c.args.victims.now in
    much_refused d victims (more_than_four c.size_of.result (survivors_for d victims) (survivors_for d victims)
    c.in_default.is c.size_of.ensures refl)

module _ (c : After-may_clean) where
  abbrev d : MasterData
  d = c.args.core.now

  abbrev victims : List ℕ
  victims = c.args.victims.now

  parts : (c.in-Some.size.survivors ≡ survivors_for d victims) × (nat_lt 4 (survivors_for d victims) ≡ false)
  parts = at_most_four (survivors_for d victims) c.in-Some.size.survivors c.in-Some.ensures

  rule : may_clean d (length victims) (survivors_for d victims) ≡ c.may_clean.result
  rule = ap (may_clean d (length victims)) (sym parts.0) ∙ sym c.may_clean.ensures

pub returns-then-not-may_clean-clause-refused : goal.returns-then-not-may_clean-clause-refused
returns-then-not-may_clean-clause-refused c =
    let a = (goal.at.returns-then-not-may_clean-clause-refused c).After-may_clean in
    full_refused (d a) (victims a) (parts a).1 (rule a ∙ c.if-not-may_clean.true)

pub returns-then-core-size-clause-refused : goal.returns-then-core-size-clause-refused
returns-then-core-size-clause-refused c =
    let a = (goal.at.returns-then-core-size-clause-refused c).After-may_clean in
    let over = c.if-core-size.true in
    let same = (parts a).0 in
    let next = ap (λ (m : MasterData). m.next) c.core.view_is in
    spent_refused (d a) (victims a) (parts a).1 (rule a ∙ c.if-not-may_clean.false) (omega (arith, over, same, next))

pub returns : goal.returns
returns c =
    let a = (goal.at.returns c).After-may_clean in
    let within = c.if-core-size.false in
    let same = (parts a).0 in
    let next = ap (λ (m : MasterData). m.next) c.core.view_is in
    record {
      refused = none_refused (d a) (victims a) (parts a).1 (rule a ∙ c.if-not-may_clean.false)
          (omega (arith, within, same, next));
      survivors = same;
    }
