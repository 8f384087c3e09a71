use Rattle.std.proofs.Common.{◌≡◌, length, subst, sym, ap, ◌∙◌, arith}
use Rattle.std.specs.Prelude.{vec_len}
use Rattle.log_laws.specs.HeadSteps.{no_units}
use Rattle.log_head.specs.contracts.head.Head.{the_view}
use Rattle.log_head.specs.Head.{HeadValue, IsHeadValue}
use Rattle.log_head.specs.Steps.{settled}
use Rattle.log_head.proofs.Rolls.{zeros_are}
use Rattle.log_head.proofs.SettledLog.{settled_valid}
use Rattle.log_head.proofs.head.Head.begin_history.Goals as goal

module _ (c : goal.After-fill) where
  abbrev h : HeadValue
  h = the_view c.self.inside

  abbrev new : HeadValue
  new = record {
    id = c.self.inside.id;
    replicas = c.self.inside.replicas;
    image = c.self.inside.image;
    base = length c.bytes.result.now;
    units = c.clear.new.self.items;
    taken = c.fill.new.self.items;
    roll = c.self.inside.roll;
  }

  count : vec_len c.self.inside.taken ≡ length h.taken
  count = omega arith

  new_is : new ≡ settled h
  new_is = λ i. record {
    id = c.self.inside.id;
    replicas = c.self.inside.replicas;
    image = c.self.inside.image;
    base = length (c.bytes.ensures.text i);
    units = c.clear.ensures.items i;
    taken = (c.fill.ensures.items (λ y e. e) ∙ zeros_are (vec_len c.self.inside.taken) ∙ ap no_units count) i;
    roll = c.self.inside.roll;
  }

pub returns-clause-settled : goal.returns-clause-settled
returns-clause-settled c = rw (← c.self.view_is) (new_is c)

pub returns-clause-valid : goal.returns-clause-valid
returns-clause-valid c = subst IsHeadValue (sym (new_is c)) (settled_valid (h c) c.self.invariant.1)
