use Rattle.std.proofs.Common.{◌≡◌, ◌+◌, ◌-◌, Bool, false, length, sym, ap, ◌∙◌, arith}
use Rattle.std.specs.Prelude.{if◌then◌else◌}
use Rattle.log_head.specs.Head.{digest_of}
use Rattle.master_state.specs.Data.{MasterData}
use Rattle.master_state.specs.contracts.state.Core.{the_view}
use Rattle.master_state.specs.Budget.{commit_listed, is_ready, turn_listed, survivors_of}
use Rattle.master_state.proofs.LogIds.{digest_listed, few_closed, few_survivors}
use Rattle.master_state.proofs.state.Core.turn_listed.Goals as goal

pub overflow_add-result : goal.overflow_add-result
overflow_add-result c =
    let few = few_closed (the_view c.self.inside) c.self.invariant.2 in
    let four = few_survivors (the_view c.self.inside) c.self.invariant.2 in
    let count = c.len.ensures in
    omega arith

pub overflow_sub-result : goal.overflow_sub-result
overflow_sub-result c =
    let own : c.survivors.result ≡ length (survivors_of (the_view c.self.inside).pass) =
    c.survivors.ensures.count ∙ ap (λ (m : MasterData). length (survivors_of m.pass)) (sym c.self.view_is) in
    let all = digest_listed (the_view c.self.inside) c.self.invariant.2 in
    let count = c.len.ensures in
    omega arith

pub overflow_add-result-2 : goal.overflow_add-result-2
overflow_add-result-2 c =
    let few = few_closed (the_view c.self.inside) c.self.invariant.2 in
    let four = few_survivors (the_view c.self.inside) c.self.invariant.2 in
    let count = c.len.ensures in
    omega arith

pub returns : goal.returns
returns c =
    let own : c.survivors.result ≡ length (survivors_of (the_view c.self.inside).pass) =
    c.survivors.ensures.count ∙ ap (λ (m : MasterData). length (survivors_of m.pass)) (sym c.self.view_is) in
    let all = digest_listed (the_view c.self.inside) c.self.invariant.2 in
    let count = c.len.ensures in
    let no : is_ready (the_view c.self.inside) ≡ false =
    ap (λ (m : MasterData). is_ready m) c.self.view_is ∙ sym c.is_ready.ensures ∙ c.if-is_ready.false in
    let same : c.len.result + 1 - c.survivors.result + 1 ≡ length (digest_of (the_view c.self.inside).head.image) + 1 =
    omega arith in
    same
    ∙ ap (λ (t : Bool). if t then commit_listed (the_view c.self.inside)
    else length (digest_of (the_view c.self.inside).head.image) + 1) (sym no)
    ∙ ap (λ (m : MasterData). turn_listed m) c.self.view_is
