use Rattle.std.proofs.Common.{◌∙◌, sym, ap, refl, List, []}
use Rattle.std.specs.Prelude.{Option}
use Rattle.std.specs.Option.{unwrap_or}
use Rattle.entry.specs.declared.entry.Entry.{Entry}
use Rattle.entry.specs.Text.{text_of}
use Rattle.master_state.specs.Data.{MasterData}
use Rattle.master_state.specs.Log.{images_of}
use Rattle.master_space.proofs.cleaning.seal_op.Goals as goal

pub returns : goal.returns
returns c =
    let kept = ap (λ (o : Option (List Entry)). unwrap_or o []) (sym c.in-Some.is ∙ c.image_of.ensures)
    ∙ ap (λ (d : MasterData). images_of d c.args.survivor) c.core.view_is in
    rw (ap (λ (d : MasterData). d.config.master) c.core.view_is, c.bytes-text.ensures.text ∙ ap text_of kept) refl
