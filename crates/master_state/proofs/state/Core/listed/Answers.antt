use Rattle.std.proofs.Common.{◌≡◌, ◌+◌, true, length, sym, ap, subst, ◌∙◌, arith}
use Rattle.log_head.specs.Head.{is_open}
use Rattle.master_state.specs.Data.{MasterData}
use Rattle.master_state.specs.contracts.state.Core.{the_view}
use Rattle.master_state.specs.Budget.{newest_digest, survivors_of}
use Rattle.master_state.proofs.LogIds.{listed, few_closed, few_survivors}
use Rattle.master_state.proofs.Refusals.{open_parts}
use Rattle.master_state.proofs.state.Core.listed.Goals as goal

module _ (c : goal.After-survivors) where
  abbrev d : MasterData
  d = the_view c.self.inside

  own : c.survivors.result ≡ length (survivors_of d.pass)
  own = c.survivors.ensures.count ∙ ap (λ (m : MasterData). length (survivors_of m.pass)) (sym c.self.view_is)

  is : length (newest_digest d.head) + c.survivors.result ≡ c.len.result + 1
  is =
      let all = listed d c.self.invariant.2 (open_parts d.head
      (subst (λ (m : MasterData). is_open m.head ≡ true) (sym c.self.view_is) c.requires)).1 in
      let survivors = own in
      let count = c.len.ensures in
      omega arith

pub overflow_add-result : goal.overflow_add-result
overflow_add-result c =
    let few = few_closed (the_view c.self.inside) c.self.invariant.2 in
    let four = few_survivors (the_view c.self.inside) c.self.invariant.2 in
    let count = c.len.ensures in
    omega arith

pub overflow_sub-result : goal.overflow_sub-result
overflow_sub-result c = (let all = is c in omega arith)

pub returns-clause-listed : goal.returns-clause-listed
returns-clause-listed c = rw (← c.self.view_is) (let all = is c in omega arith)

pub returns-clause-small : goal.returns-clause-small
returns-clause-small c =
    let few = few_closed (the_view c.self.inside) c.self.invariant.2 in
    let survivors = own c in
    let count = c.len.ensures in
    omega arith
