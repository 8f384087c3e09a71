use Rattle.std.proofs.Common.{Bool, sym, ap, ◌∙◌}
use Rattle.std.specs.Prelude.{not}
use Rattle.std.specs.Result.{result_err}
use Rattle.images.specs.Sorted.{segment_of}
use Rattle.master_state.specs.Data.{MasterData}
use Rattle.master_space.proofs.CompactedCore.{survivor_refused, not_listed_refused, victim_refused, listed_passed}
use Rattle.master_space.proofs.compacting.admit_compaction.Goals as goal

pub returns-then-is_survivor : goal.returns-then-is_survivor
returns-then-is_survivor c =
    sym (survivor_refused c.args.core.now c.show_valid.ensures c.args.id
    (sym c.admit.ensures ∙ ap result_err c.in_ok-admit.was) (sym c.is_head.ensures ∙ c.if-is_head.false)
    (sym c.is_survivor.ensures ∙ c.if-is_survivor.true))

pub returns-then-is_none : goal.returns-then-is_none
returns-then-is_none c =
    sym (not_listed_refused c.args.core.now c.show_valid.ensures c.args.id
    (sym c.admit.ensures ∙ ap result_err c.in_ok-admit.was) (sym c.is_head.ensures ∙ c.if-is_head.false)
    (sym c.is_survivor.ensures ∙ c.if-is_survivor.false) c.get.result
    (c.get.ensures ∙ ap (λ (d : MasterData). segment_of d.closed c.args.id) c.core.view_is)
    (c.is_none.ensures ∙ ap (λ (b : Bool). not b) c.if-is_none.true))

pub returns-then-is_victim : goal.returns-then-is_victim
returns-then-is_victim c =
    sym (victim_refused c.args.core.now c.show_valid.ensures c.args.id
    (sym c.admit.ensures ∙ ap result_err c.in_ok-admit.was) (sym c.is_head.ensures ∙ c.if-is_head.false)
    (sym c.is_survivor.ensures ∙ c.if-is_survivor.false) c.get.result
    (c.get.ensures ∙ ap (λ (d : MasterData). segment_of d.closed c.args.id) c.core.view_is)
    (c.is_none.ensures ∙ ap (λ (b : Bool). not b) c.if-is_none.false)
    (sym c.is_victim.ensures ∙ c.if-is_victim.true))

pub returns : goal.returns
returns c =
    sym (listed_passed c.args.core.now c.show_valid.ensures c.args.id
    (sym c.admit.ensures ∙ ap result_err c.in_ok-admit.was) (sym c.is_head.ensures ∙ c.if-is_head.false)
    (sym c.is_survivor.ensures ∙ c.if-is_survivor.false) c.get.result
    (c.get.ensures ∙ ap (λ (d : MasterData). segment_of d.closed c.args.id) c.core.view_is)
    (c.is_none.ensures ∙ ap (λ (b : Bool). not b) c.if-is_none.false)
    (sym c.is_victim.ensures ∙ c.if-is_victim.false))
