use Rattle.std.proofs.Common.{◌+◌, length, List, sym, ap, ◌∙◌}
use Rattle.compactor.specs.Kept.{kept_of}
use Rattle.entry.specs.declared.entry.Entry.{Entry}
use Rattle.entry.specs.Text.{text_of, IsSegment}
use Rattle.master_state.specs.contracts.state.Core.{the_view}
use Rattle.master_state.specs.Causes.{compact_refusal}
use Rattle.master_state.specs.Data.{MasterData}
use Rattle.master_state.specs.Log.{images_of, log_set_ids}
use Rattle.master_state.specs.Steps.{kept_now}
use Rattle.tally.proofs.Openings.{kept_with_opening}
use Rattle.master_space.proofs.CompactedData.{never_none, image_is, ids_are}
use Rattle.master_space.proofs.Replacing.{closed_each}
use Rattle.master_space.proofs.compacting.whole_kept.Goals as goal

pub unreachable-requires : goal.unreachable-requires
unreachable-requires c =
    let none = ap (λ (m : MasterData). compact_refusal m c.args.id) c.core.view_is ∙ c.requires in
    never_none (the_view c.core.inside) c.core.invariant.2 c.args.id none c.get.result c.get.ensures c.in_default.is

pub returns-in-Some-tallied : goal.returns-in-Some-tallied
returns-in-Some-tallied c =
    let d = the_view c.core.inside in
    let now = c.args.core.now in
    let es = c.in-Some.image in
    let none = ap (λ (m : MasterData). compact_refusal m c.args.id) c.core.view_is ∙ c.requires in
    let there = sym c.get.ensures ∙ c.in-Some.is in
    let image = image_is d c.core.invariant.2 c.args.id none c.get.result es c.get.ensures c.in-Some.is
    ∙ ap (λ (m : MasterData). images_of m c.args.id) c.core.view_is in
    let valid = closed_each (λ (fs : List Entry). IsSegment fs) d.closed c.args.id es c.core.invariant.2.segments there
    in
    (λ i. c.in-Some-tallied.ensures.kept i + c.opening_len.ensures.sum i)
    ∙ sym (kept_with_opening (log_set_ids now) now.index c.args.id es valid)
    ∙ ap (λ (fs : List Entry). length (text_of (kept_of (log_set_ids now) now.index c.args.id fs))) image

pub returns-in-None : goal.returns-in-None
returns-in-None c =
    let d = the_view c.core.inside in
    let none = ap (λ (m : MasterData). compact_refusal m c.args.id) c.core.view_is ∙ c.requires in
    let image =
    image_is d c.core.invariant.2 c.args.id none c.get.result c.in-Some.image c.get.ensures c.in-Some.is in
    let listed = ids_are d c.id.result c.opening_id.result c.id.ensures.id c.opening_id.ensures in
    c.kept_len.ensures
    ∙ (λ i. length (text_of (kept_of (listed i) d.index c.args.id (image i))))
    ∙ ap (λ (m : MasterData). length (text_of (kept_now m c.args.id))) c.core.view_is
