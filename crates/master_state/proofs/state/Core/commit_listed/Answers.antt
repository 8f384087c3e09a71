use Rattle.std.proofs.Common.{◌≡◌, ◌+◌, length, sym, ap, ◌∙◌, arith}
use Rattle.master_state.specs.Data.{MasterData}
use Rattle.master_state.specs.contracts.state.Core.{the_view}
use Rattle.master_state.specs.Budget.{commit_listed, segments_leaving, segments_entering, survivors_of}
use Rattle.master_state.proofs.LogIds.{digest_listed, few_closed, few_survivors}
use Rattle.master_state.proofs.state.Core.commit_listed.Goals as goal

pub overflow_add-listed : goal.overflow_add-listed
overflow_add-listed c =
    let few = few_closed (the_view c.self.inside) c.self.invariant.2 in
    let four = few_survivors (the_view c.self.inside) c.self.invariant.2 in
    let count = c.len.ensures in
    omega arith

pub overflow_sub-listed : goal.overflow_sub-listed
overflow_sub-listed c =
    let own : c.survivors.result ≡ length (survivors_of (the_view c.self.inside).pass) =
    c.survivors.ensures.count ∙ ap (λ (m : MasterData). length (survivors_of m.pass)) (sym c.self.view_is) in
    let all = digest_listed (the_view c.self.inside) c.self.invariant.2 in
    let count = c.len.ensures in
    omega arith

pub overflow_add-result : goal.overflow_add-result
overflow_add-result c =
    let few = few_closed (the_view c.self.inside) c.self.invariant.2 in
    let four = few_survivors (the_view c.self.inside) c.self.invariant.2 in
    let count = c.len.ensures in
    let left = c.saturating_sub.ensures in
    let entering = c.segments_entering.ensures.few in
    omega arith

pub overflow_add-result-2 : goal.overflow_add-result-2
overflow_add-result-2 c =
    let few = few_closed (the_view c.self.inside) c.self.invariant.2 in
    let four = few_survivors (the_view c.self.inside) c.self.invariant.2 in
    let count = c.len.ensures in
    let left = c.saturating_sub.ensures in
    let entering = c.segments_entering.ensures.few in
    omega arith

pub returns : goal.returns
returns c =
    let d : MasterData = the_view c.self.inside in
    let own : c.survivors.result ≡ length (survivors_of (the_view c.self.inside).pass) =
    c.survivors.ensures.count ∙ ap (λ (m : MasterData). length (survivors_of m.pass)) (sym c.self.view_is) in
    let all = digest_listed (the_view c.self.inside) c.self.invariant.2 in
    let count = c.len.ensures in
    let left = c.saturating_sub.ensures in
    let leaving : c.segments_leaving.result ≡ segments_leaving (the_view c.self.inside) =
    c.segments_leaving.ensures ∙ ap (λ (m : MasterData). segments_leaving m) (sym c.self.view_is) in
    let entering : c.segments_entering.result ≡ segments_entering (the_view c.self.inside) =
    c.segments_entering.ensures.entering ∙ ap (λ (m : MasterData). segments_entering m) (sym c.self.view_is) in
    let same : c.saturating_sub.result + c.segments_entering.result + 1 ≡ commit_listed (the_view c.self.inside) =
    omega arith in
    same ∙ ap (λ (m : MasterData). commit_listed m) c.self.view_is
