use Rattle.std.proofs.Common.{◌≡◌, ◌+◌, ◌≤◌, length, sym, ap, subst, ◌∙◌, arith}
use Rattle.std.specs.Prelude.{Some, IfSome, vec_len}
use Rattle.log_head.specs.contracts.head.Head.{the_view}
use Rattle.log_laws.specs.HeadSteps.{no_units}
use Rattle.log_head.specs.declared.head.Roll.{Roll}
use Rattle.log_head.specs.Head.{HeadValue, IsHeadValue}
use Rattle.log_head.specs.Steps.{in_force, with_closed_replica, old_image}
use Rattle.log_head.proofs.Rolls.{zeros_are, rolls, ends_roll, hands_out, in_force_valid}
use Rattle.log_head.proofs.head.Head.close_old.Goals as goal

module _ (c : goal.After-replace) where
  abbrev h : HeadValue
  h = the_view c.self.inside

  abbrev r : Roll
  r = c.in-Some.roll

  valid : IsHeadValue h
  valid = c.self.invariant.1

  is : h.roll ≡ Some r
  is = sym c.take.ensures.value ∙ c.in-Some.is

  last : h.replicas ≤ r.closed + 1
  last = c.if-roll-self.false

  abbrev new : HeadValue
  new = record {
    id = r.id;
    replicas = h.replicas;
    image = c.replace.new.dest;
    base = length c.bytes.result.now;
    units = c.clear.new.self.items;
    taken = c.fill.new.self.items;
    roll = c.take.new.self;
  }

  count : vec_len c.self.inside.taken ≡ h.replicas
  count = let all = (rolls h r valid is).whole in omega arith

  new_is : new ≡ in_force h r
  new_is = λ i. record {
    id = r.id;
    replicas = h.replicas;
    image = c.replace.ensures.after i;
    base = length (c.bytes.ensures.text i);
    units = c.clear.ensures.items i;
    taken = (c.fill.ensures.items (λ y e. e) ∙ zeros_are (vec_len c.self.inside.taken) ∙ ap no_units count) i;
    roll = c.take.ensures.after i;
  }

pub returns-clause-closed : goal.returns-clause-closed
returns-clause-closed c =
    rw (← c.self.view_is) (subst (λ o. IfSome o (λ x. new c ≡ with_closed_replica (h c) x)) (sym (is c))
    (new_is c ∙ sym (ends_roll (h c) (r c) (valid c) (is c) (last c))))

pub returns-clause-old : goal.returns-clause-old
returns-clause-old c =
    rw (← c.self.view_is) (subst (λ o. IfSome o (λ x. Some c.replace.result ≡ old_image (h c) x)) (sym (is c))
    (ap (λ image. Some image) c.replace.ensures.value ∙ sym (hands_out (h c) (r c) (valid c) (is c) (last c))))

pub returns-clause-valid : goal.returns-clause-valid
returns-clause-valid c = subst IsHeadValue (sym (new_is c)) (in_force_valid (h c) (r c) (valid c) (is c))
