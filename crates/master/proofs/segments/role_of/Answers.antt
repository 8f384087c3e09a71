use Rattle.std.proofs.Common.{ℕ, List, sym, ap, ◌∙◌}
use Rattle.compactor.specs.Kept.{has_id}
use Rattle.master_core.specs.master_state.Data.{MasterData}
use Rattle.master.proofs.SegmentRows.{victim_role, survivor_role, closed_role}
use Rattle.master.proofs.segments.role_of.Goals as goal

pub returns-then-contains : goal.returns-then-contains
returns-then-contains c =
    victim_role c.args.core.now.pass c.in-Some.pass c.args.id
    (ap (λ (m : MasterData). m.pass) (sym c.core.view_is) ∙ c.in-Some.is)
    (sym (c.contains.ensures.value ∙ ap (λ (ids : List ℕ). has_id ids c.args.id) c.as_slice.ensures)
    ∙ c.if-contains.true)

pub returns-then-has : goal.returns-then-has
returns-then-has c =
    survivor_role c.args.core.now.pass c.in-Some.pass c.args.id
    (ap (λ (m : MasterData). m.pass) (sym c.core.view_is) ∙ c.in-Some.is)
    (sym (c.contains.ensures.value ∙ ap (λ (ids : List ℕ). has_id ids c.args.id) c.as_slice.ensures)
    ∙ c.if-contains.false)
    (sym c.has.ensures ∙ c.if-has.true)

pub returns-else-has : goal.returns-else-has
returns-else-has c =
    closed_role c.args.core.now.pass c.in-Some.pass c.args.id
    (ap (λ (m : MasterData). m.pass) (sym c.core.view_is) ∙ c.in-Some.is)
    (sym (c.contains.ensures.value ∙ ap (λ (ids : List ℕ). has_id ids c.args.id) c.as_slice.ensures)
    ∙ c.if-contains.false)
    (sym c.has.ensures ∙ c.if-has.false)
