use Rattle.std.proofs.Common.{◌≡◌, List, sym, ap, ◌∙◌}
use Rattle.std.specs.Prelude.{Some, Option}
use Rattle.std.specs.Option.{option_map}
use Rattle.entry.specs.declared.entry.Entry.{Entry}
use Rattle.images.specs.Sorted.{segment_of}
use Rattle.master_state.specs.contracts.state.Core.{the_view}
use Rattle.master_state.specs.Data.{MasterData}
use Rattle.master_state.specs.Log.{images_of, log_set_ids}
use Rattle.tally.specs.Fills.{kept_len}
use Rattle.master_space.specs.Choosing.{kept_bytes}
use Rattle.master_space.proofs.Tallied.{closed_image}
use Rattle.master_space.proofs.counts.kept_bytes_of.Goals as goal

pub returns-in-Some : goal.returns-in-Some
returns-in-Some c =
    let now = c.args.core.now in
    let there = sym c.get.ensures ∙ c.in-Some.is in
    let image = ap (λ (m : MasterData). images_of m c.args.id) (sym c.core.view_is)
    ∙ closed_image (the_view c.core.inside) c.core.invariant.2 c.args.id c.in-Some.image there in
    let kept : c.kept_in.result ≡ kept_bytes now c.args.id =
    c.kept_in.ensures ∙ ap (λ (es : List Entry). kept_len (log_set_ids now) now.index c.args.id es) (sym image) in
    let found = ap (λ (m : MasterData). segment_of m.closed c.args.id) (sym c.core.view_is) ∙ there in
    (λ i. Some (kept i))
    ∙ ap (λ (o : Option (List Entry)). option_map (λ (es : List Entry). kept_bytes now c.args.id) o) (sym found)
