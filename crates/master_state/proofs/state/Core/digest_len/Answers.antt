use Rattle.std.proofs.Common.{◌≡◌, length, sym, ap, ◌∙◌, arith}
use Rattle.master_state.specs.Data.{MasterData}
use Rattle.master_state.specs.contracts.state.Core.{the_view}
use Rattle.master_state.specs.Budget.{survivors_of}
use Rattle.master_state.proofs.LogIds.{digest_listed, few_closed, few_survivors}
use Rattle.master_state.proofs.state.Core.digest_len.Goals as goal

pub overflow_add-result : goal.overflow_add-result
overflow_add-result c =
    let few = few_closed (the_view c.self.inside) c.self.invariant.2 in
    let four = few_survivors (the_view c.self.inside) c.self.invariant.2 in
    let count = c.len.ensures in
    omega arith

pub overflow_sub-result : goal.overflow_sub-result
overflow_sub-result c =
    let own : c.survivors.result ≡ length (survivors_of (the_view c.self.inside).pass) =
    c.survivors.ensures.count ∙ ap (λ (m : MasterData). length (survivors_of m.pass)) (sym c.self.view_is) in
    let all = digest_listed (the_view c.self.inside) c.self.invariant.2 in
    let count = c.len.ensures in
    omega arith

pub returns : goal.returns
returns c =
    let own : c.survivors.result ≡ length (survivors_of (the_view c.self.inside).pass) =
    c.survivors.ensures.count ∙ ap (λ (m : MasterData). length (survivors_of m.pass)) (sym c.self.view_is) in
    let all = digest_listed (the_view c.self.inside) c.self.invariant.2 in
    let count = c.len.ensures in
    rw (← c.self.view_is) (omega arith)
