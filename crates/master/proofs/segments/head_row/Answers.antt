use Rattle.std.proofs.Common.{ℕ, List, length, ap, ◌∙◌}
use Rattle.master_core.specs.master_state.Data.{MasterData}
use Rattle.master.proofs.SegmentRows.{head_row_is}
use Rattle.master.proofs.segments.head_row.Goals as goal

pub returns : goal.returns
returns c =
    head_row_is c.args.core.now c.id-id.result (length c.bytes.result.now) c.kept_in.result c.opened.result
    c.view-image.result
    (c.id-id.ensures.id ∙ ap (λ (m : MasterData). m.head.id) c.core.view_is)
    (c.view-image.ensures ∙ c.image.ensures.image ∙ ap (λ (m : MasterData). m.head.image) c.core.view_is)
    (ap (λ (bytes : List ℕ). length bytes) c.bytes.ensures.text)
    c.kept_in.ensures
    (c.opened.ensures ∙ ap (λ (m : MasterData). length m.head.taken) c.core.view_is)
