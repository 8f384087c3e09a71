use Rattle.std.proofs.Common.{rules, ◌≡◌, ◌≤◌, sym, subst}
use Rattle.std.specs.Prelude.{vec_capacity}
use Rattle.log_head.specs.Head.{HeadValue, IsHeadValue}
use Rattle.log_head.specs.Steps.{lost}
use Rattle.log_head.proofs.Losses.{lost_valid}
use Rattle.log_head.proofs.head.Head.lose.Goals.{Joined-take, in-Some, in_default}
use Rattle.log_head.proofs.head.Head.lose.Goals as goal

-- what is left of the head
abbrev left : (c : Joined-take) → HeadValue
left c = record {
  id = c.match-replica.self-inside.id;
  replicas = c.match-replica.self-inside.replicas;
  image = c.match-replica.self-inside.image;
  base = c.match-replica.self-inside.base;
  units = c.match-replica.self-inside.units.items;
  taken = c.match-replica.self-inside.taken.items;
  roll = c.take.new.self;
}

left_is : (c : Joined-take) → left c ≡ lost c.args.self.now c.args.replica
left_is c = search rules

left_valid : (c : Joined-take) → IsHeadValue (left c)
left_valid c =
    subst IsHeadValue (sym (left_is c)) (lost_valid c.args.self.now c.args.replica c.requires
    (subst IsHeadValue c.self.view_is c.self.invariant.1))

room : (c : Joined-take)
    → c.match-replica.self-inside.replicas ≤ vec_capacity c.match-replica.self-inside.taken
room c = elim c.match-replica.branch [
  | in-Some w ↦ rw (w.self-inside-is, w.remove.ensures.capacity) c.self.invariant.0
  | in_default w ↦ rw w.self-inside-is c.self.invariant.0
]

pub invariant_of-self : goal.invariant_of-self
invariant_of-self c = (room c, left_valid c)

pub returns-clause-valid : goal.returns-clause-valid
returns-clause-valid c = left_valid c
